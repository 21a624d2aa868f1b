-- `summary::copy_with_spaces` meets its contract. The invariant: the first `i` bytes are in `out`. Assumes nothing.
use mathlib.Core.Path.{◌≡◌}
use lib.ListN.{length}
use lib.Seq.{paste}
use Rattle.summary.specs.Spaces.{with_spaces}
use Rattle.summary.proofs.copy_with_spaces.Given as goal

abbrev pub invariant-loop-i : goal.invariant-loop-i
invariant-loop-i l = (length l.out ≡ length l.initial.out) × (l.out ≡ paste l.initial.out 0 (with_spaces l.message) l.i)
