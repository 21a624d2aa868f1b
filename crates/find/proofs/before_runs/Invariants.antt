-- `find::before_runs` meets its contract. The invariant: a search back from `i` finds what one from `end` finds. Assumes nothing.
use mathlib.Core.Path.{◌≡◌}
use Prim.Native.Nat.{◌≤◌}
use Rattle.find.specs.Find.{behind_lf}
use Rattle.find.proofs.before_runs.Given as goal

abbrev pub invariant-loop-i : goal.invariant-loop-i
invariant-loop-i l = (l.i ≤ l.end) × (behind_lf l.s l.i ≡ behind_lf l.s l.end)

abbrev pub decreases-loop-i : goal.decreases-loop-i
decreases-loop-i l = l.i
