-- `planning::opening_message` meets its contract.
use mathlib.Core.Path.{sym, ap, ◌∙◌}
use Rattle.rules.specs.Answers.{walk_found_says}
use Rattle.divider.proofs.Readings.{handed_on}
use Rattle.message.proofs.Started.{started}
use Rattle.planning.proofs.Judged.{is_short, message_opens, read_begins}
use Rattle.planning.proofs.opening_message.Goals as goal

pub slice_bounds-message_trailers-end : goal.slice_bounds-message_trailers-end
slice_bounds-message_trailers-end c =
    let a = c.args in
    (handed_on a.reading a.message.now c.end_in-end.ensures).1

pub unwrap-requires : goal.unwrap-requires
unwrap-requires c =
    let a = c.args in
    read_begins a.message.now a.reading c.message_trailers.result (is_short a.message.now c.in_ok-within_limit.ensures) c.end_in-end.ensures c.message_trailers.ensures

pub returns : goal.returns
returns c =
    let a = c.args in
    -- the cursor is where the walk begins in the text that is read
    let begins = started _ _ (ap walk_found_says (sym c.unwrap.ensures) ∙ c.message_trailers.ensures) in
    message_opens a.message.now a.reading c.end_in-end.ensures (is_short a.message.now c.in_ok-within_limit.ensures) begins
