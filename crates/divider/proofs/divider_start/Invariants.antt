-- `divider::divider_start` meets its contract. The invariant: what is kept from the front on is what is passed and what is kept from
-- `at` on. Assumes nothing.
use mathlib.Core.Path.{◌≡◌}
use Prim.Native.Nat.{◌+◌, ◌-◌, ◌≤◌}
use lib.ListN.{length, drop}
use Rattle.divider.specs.Divider.{cut}
use Rattle.divider.proofs.divider_start.Given as goal

abbrev pub invariant-loop-at : goal.invariant-loop-at
invariant-loop-at l = (l.at ≤ length l.message) × (length (cut l.message) ≡ l.at + length (cut (drop l.at l.message)))

abbrev pub decreases-loop-at : goal.decreases-loop-at
decreases-loop-at l = length l.message - l.at
