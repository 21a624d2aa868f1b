-- `bundle::is_bundle` meets its contract. Invariant: what is left to test is the offsets from `at` on. Assumes nothing.
use mathlib.Core.Path.{◌≡◌}
use Prim.Native.Nat.{suc, ◌-◌}
use lib.ListN.{length}
use Rattle.bundle.specs.Bundle.{is_bundle, offsets, rises_to}
use Rattle.bundle.proofs.is_bundle.Given as goal

abbrev pub invariant-loop-k : goal.invariant-loop-k
invariant-loop-k l =
    is_bundle l.bundle ≡ rises_to (length l.bundle) l.at (offsets l.bundle (suc l.k) (l.count - l.k))
