-- `summary::folded_len` meets its contract. The invariant: with what the pieces from `at` on add up to, the length is that of them all.
-- Assumes nothing.
use mathlib.Core.Path.{◌≡◌}
use Prim.Native.Nat.{◌+◌, ◌-◌, ◌≤◌}
use lib.ListN.{length, drop}
use Rattle.rules.specs.Lines.{inner}
use Rattle.rules.specs.Lists.{run}
use Rattle.rules.specs.Summary.{added, pieces}
use Rattle.summary.proofs.folded_len.Given as goal

abbrev pub invariant-loop-pos : goal.invariant-loop-pos
invariant-loop-pos l =
    (l.pos ≡ l.at + length (run inner (drop l.at l.text)))
    × (l.at ≤ length l.text)
    × (l.len ≤ l.at)
    × (l.len + length (added (pieces (drop l.at l.text))) ≡ length (added (pieces l.text)))

abbrev pub decreases-loop-pos : goal.decreases-loop-pos
decreases-loop-pos l = length l.text - l.at
