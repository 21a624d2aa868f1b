-- `trailer::line::folds_len` meets its contract. The invariant: the length from the front on is what is passed and the length from
-- `len` on. Assumes nothing.
use mathlib.Core.Path.{◌≡◌}
use Prim.Native.Nat.{◌+◌, ◌-◌, ◌≤◌}
use lib.ListN.{length, drop}
use Rattle.trailer.proofs.Folds.{folds_length}
use Rattle.trailer.proofs.line.folds_len.Given as goal

abbrev pub invariant-loop-end : goal.invariant-loop-end
invariant-loop-end l = (l.len ≤ length l.rest) × (folds_length l.rest ≡ l.len + folds_length (drop l.len l.rest))

abbrev pub decreases-loop-end : goal.decreases-loop-end
decreases-loop-end l = length l.rest - l.len
