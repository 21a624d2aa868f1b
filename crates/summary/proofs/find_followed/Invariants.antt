-- `summary::find_followed` meets its contract. The invariant: the first such byte from `i` on is the first from `at` on. Assumes nothing.
use mathlib.Core.Path.{◌≡◌}
use Prim.Native.Nat.{◌+◌, ◌≤◌}
use lib.ListN.{length, drop}
use Rattle.summary.specs.Followed.{until_followed}
use Rattle.summary.proofs.find_followed.Given as goal

abbrev pub invariant-loop-i : goal.invariant-loop-i
invariant-loop-i l =
    (l.i ≤ length l.s) × (l.i + until_followed l.low l.high (drop l.i l.s) ≡ l.at + until_followed l.low l.high (drop l.at l.s))
