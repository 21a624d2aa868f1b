-- `screen::put_lines` meets its contract. Invariant: with the lines of the walk that is left written from `to` on, the buffer is what it
-- is to be.
use mathlib.Core.Path.{◌≡◌}
use Prim.Native.Nat.{◌+◌, ◌≤◌}
use lib.ListN.{length}
use Rattle.copy.specs.Onto.{onto}
use Rattle.screen.specs.Parts.{lines_from}
use Rattle.screen.proofs.put_lines.Given as goal

abbrev pub invariant-loop-places : goal.invariant-loop-places
invariant-loop-places l =
    let from = l.places-iterator.at in
    (l.places-iterator.body.now ≡ l.message) × (length l.out ≡ length l.initial.out) × (l.to + length (lines_from l.message from) ≤ length l.out)
    × (onto l.to (lines_from l.message from) l.out ≡ onto l.place (lines_from l.message l.at) l.initial.out)
