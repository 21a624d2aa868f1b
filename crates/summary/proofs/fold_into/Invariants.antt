-- `summary::fold_into` meets its contract. The invariant: with what the pieces from `at` on add up to, the buffer is as promised.
-- Assumes nothing.
use mathlib.Core.Path.{◌≡◌}
use Prim.Native.Nat.{◌+◌, ◌-◌, ◌≤◌}
use lib.ListN.{length, drop}
use Rattle.rules.specs.Lines.{inner}
use Rattle.rules.specs.Lists.{run}
use Rattle.summary.proofs.Folding.{Begun}
use Rattle.summary.proofs.fold_into.Given as goal

abbrev pub invariant-loop-pos : goal.invariant-loop-pos
invariant-loop-pos l =
    (l.pos ≡ l.at + length (run inner (drop l.at l.text)))
    × (l.at ≤ length l.text)
    × (length l.out ≡ length l.initial.out)
    × Begun l.text l.initial.out l.out l.len l.at

abbrev pub decreases-loop-pos : goal.decreases-loop-pos
decreases-loop-pos l = length l.text - l.at
