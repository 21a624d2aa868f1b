-- `value::unfolded_len` meets its contract. The invariant: `len` is the length of what the lines passed so far make.
-- Assumes nothing.
use mathlib.Core.List.{List}
use mathlib.Core.Path.{◌≡◌}
use Prim.Native.Nat.{ℕ}
use lib.ListN.{length}
use Rattle.value.proofs.Unfolding.{Half}
use Rattle.value.proofs.unfolded_len.Given as goal

abbrev pub invariant-loop-line : goal.invariant-loop-line
invariant-loop-line l =
    (done : List ℕ) × (length done ≡ l.len) × Half l.value l.line-iterator.rest.now done
