-- `trailer::walk::next_trailer_from` meets its contract. The invariant: the first trailer from `start` on is the first from `at` on.
-- Assumes nothing.
use mathlib.Core.Path.{◌≡◌}
use Prim.Native.Nat.{◌-◌, ◌≤◌}
use lib.ListN.{length}
use Rattle.rules.specs.Trailer.{walk_from}
use Rattle.trailer.specs.Walk.{next_of}
use Rattle.trailer.proofs.walk.next_trailer_from.Given as goal

abbrev pub invariant-loop-start : goal.invariant-loop-start
invariant-loop-start l =
    (l.start ≤ length l.body) × (next_of (walk_from l.body l.at) ≡ next_of (walk_from l.body l.start))

abbrev pub decreases-loop-start : goal.decreases-loop-start
decreases-loop-start l = length l.body - l.start
