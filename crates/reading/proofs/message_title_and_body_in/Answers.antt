-- `reading::message_title_and_body_in` meets its contract: the message up to its end is handed on. Assumes nothing.
use borrow.Author.Rules.{rules}
use mathlib.Core.List.{[]}
use mathlib.Core.Path.{◌∙◌}
use Rattle.rules.specs.Answers.{says}
use Rattle.divider.proofs.Readings.{answered_in, handed_on}
use Rattle.message.specs.Decode.{title_answer}
use Rattle.reading.proofs.message_title_and_body_in.Goals as goal

pub slice_bounds-message_title_and_body-end : goal.slice_bounds-message_title_and_body-end
slice_bounds-message_title_and_body-end c =
    let a = c.args in
    (handed_on a.reading a.message.now c.end_in-end.ensures).1

pub returns : goal.returns
returns c =
    let a = c.args in
    c.message_title_and_body.ensures ∙ answered_in (says 1 []) title_answer a.reading a.message.now c.end_in-end.ensures (search rules)
