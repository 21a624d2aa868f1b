-- `screen::measure` meets its contract. Invariant: the sizes so far and those of the walk that is left are all; a line is at most three
-- times as long as its trailer.
use mathlib.Core.Path.{◌≡◌}
use Prim.Native.Nat.{◌+◌, ◌*◌, ◌≤◌}
use lib.ListN.{length}
use Rattle.rules.specs.Answers.{limit}
use Rattle.rules.specs.Trailer.{walk_from}
use Rattle.screen.specs.Parts.{lines_from}
use Rattle.screen.proofs.measure.Given as goal

abbrev pub invariant-loop-places : goal.invariant-loop-places
invariant-loop-places l =
    let from = l.places-iterator.at in
    (l.places-iterator.body.now ≡ l.message) × (length l.message ≤ limit) × (l.sizes.trailers ≤ from) × (l.sizes.bytes ≤ 3 * from)
    × (l.sizes.trailers + length (walk_from l.message from) ≡ length (walk_from l.message l.at))
    × (l.sizes.bytes + length (lines_from l.message from) ≡ length (lines_from l.message l.at))
