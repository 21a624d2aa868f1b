-- `comment::gap_end` meets its contract. The invariant: what is read from `at` on is what is read from `i` on. Assumes nothing.
use Prim.Native.Nat.{◌-◌, ◌≤◌}
use lib.ListN.{length}
use Rattle.comment.proofs.Laws.{SameGap}
use Rattle.comment.proofs.gap_end.Given as goal

abbrev pub invariant-loop-i : goal.invariant-loop-i
invariant-loop-i l = record { later : l.at ≤ l.i; within : l.i ≤ length l.s; same : SameGap l.s l.at l.i }

abbrev pub decreases-loop-i : goal.decreases-loop-i
decreases-loop-i l = length l.s - l.i
