-- `comment::comment_end` meets its contract. The invariant: what is read from `at` on is what is read from `i` on. The measure of
-- the recursion: how many comments may be opened inside.
use Prim.Native.Nat.{◌-◌, ◌≤◌}
use lib.ListN.{length}
use Rattle.comment.proofs.Laws.{SameInside}
use Rattle.comment.proofs.+comment_end.Given as goal

abbrev pub decreases-comment_end : goal.decreases-comment_end
decreases-comment_end l = l.allowed

abbrev pub invariant-loop-i : goal.invariant-loop-i
invariant-loop-i l = record { later : l.at ≤ l.i; within : l.i ≤ length l.s; same : SameInside l.s l.allowed l.at l.i }

abbrev pub decreases-loop-i : goal.decreases-loop-i
decreases-loop-i l = length l.s - l.i
