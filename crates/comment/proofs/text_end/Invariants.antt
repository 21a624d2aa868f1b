-- `comment::text_end` meets its contract. The invariant: what is read from `at` on is what is read from `i` on.
-- Assumes nothing.
use mathlib.Core.Bool.{Bool}
use Prim.Native.Nat.{ℕ, ◌-◌, ◌≤◌}
use lib.ListN.{length}
use Rattle.comment.specs.Ends.{Computes}
use Rattle.comment.proofs.Laws.{SameText}
use Rattle.comment.proofs.text_end.Given as goal

abbrev pub invariant-loop-i : goal.invariant-loop-i
invariant-loop-i g l = record {
  later : l.at ≤ l.i;
  within : l.i ≤ length l.s;
  same : (text : ℕ → Bool) → Computes (goal.F-post g l.is_text) text → SameText text l.s l.at l.i;
}

abbrev pub decreases-loop-i : goal.decreases-loop-i
decreases-loop-i g l = length l.s - l.i
