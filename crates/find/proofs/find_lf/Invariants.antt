-- `find::find_lf` meets its contract. The invariant: a search from `i` on finds what one from `at` on finds. Assumes nothing.
use mathlib.Core.Path.{◌≡◌}
use Prim.Native.Nat.{◌+◌, ◌-◌, ◌≤◌}
use lib.ListN.{length, drop}
use Rattle.find.specs.Find.{until_lf}
use Rattle.find.proofs.find_lf.Given as goal

abbrev pub invariant-loop-i : goal.invariant-loop-i
invariant-loop-i l = (l.len ≡ length l.s) × (l.at ≤ l.i) × (l.i ≤ length l.s) × (l.i + until_lf (drop l.i l.s) ≡ l.at + until_lf (drop l.at l.s))

abbrev pub decreases-loop-i : goal.decreases-loop-i
decreases-loop-i l = length l.s - l.i
