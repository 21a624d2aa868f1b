-- `copy::copy_at` meets its contract. The invariant: the first `i` entries of `src` are in `out`. Assumes nothing.
use mathlib.Core.Path.{◌≡◌}
use lib.ListN.{length}
use lib.Seq.{paste}
use Rattle.copy.proofs.copy_at.Given as goal

abbrev pub invariant-loop-i : goal.invariant-loop-i
invariant-loop-i g l = (length l.out ≡ length l.initial.out) × (l.out ≡ paste l.initial.out l.at l.src l.i)
