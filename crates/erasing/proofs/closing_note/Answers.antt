-- `erasing::closing_note` meets its contract: the message up to its end is handed on. Assumes nothing.
use Rattle.std.specs.Prelude.{Ok}
use Rattle.std.proofs.Common.{rules, tests}
use mathlib.Core.List.{List, []}
use mathlib.Core.Path.{◌≡◌, ◌∙◌}
use Prim.Native.Nat.{ℕ, ◌≤◌}
use lib.ListN.{length}
use Rattle.rules.specs.Answers.{says, limit, limited}
use Rattle.closing.specs.Answers.{note_answer}
use Rattle.divider.proofs.Readings.{answered_in, handed_on}
use Rattle.erasing.proofs.closing_note.Goals as goal

-- a message that isn't refused is within the limit
fits : (m : List ℕ) {u : Unit {0}} → Ok u ≡ limited m → length m ≤ limit
fits m e = search (rules, tests)

pub slice_bounds-note_of-end : goal.slice_bounds-note_of-end
slice_bounds-note_of-end c =
    let a = c.args in
    (handed_on a.reading a.message.now c.end_in-end.ensures).1

pub returns : goal.returns
returns c =
    let a = c.args in
    c.note_of.ensures ∙ answered_in (says 1 []) note_answer a.reading a.message.now c.end_in-end.ensures (fits a.message.now c.in_ok-within_limit.ensures)
