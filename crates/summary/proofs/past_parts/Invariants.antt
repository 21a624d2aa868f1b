-- `summary::past_parts` meets its contract. The invariant: the first such byte from `i` on is the first from `at` on. Assumes nothing.
use mathlib.Core.Path.{◌≡◌}
use Prim.Native.Nat.{◌+◌, ◌-◌, ◌≤◌}
use lib.ListN.{drop}
use Rattle.summary.specs.Followed.{until_followed}
use Rattle.summary.proofs.past_parts.Given as goal

abbrev pub invariant-loop-i : goal.invariant-loop-i
invariant-loop-i g l =
    (l.at ≤ l.i) × (l.i ≤ l.end) × (l.i + until_followed l.low l.high (drop l.i l.s) ≡ l.at + until_followed l.low l.high (drop l.at l.s))

abbrev pub decreases-loop-i : goal.decreases-loop-i
decreases-loop-i g l = l.end - l.i
