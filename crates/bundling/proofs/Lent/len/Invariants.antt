-- `bundling::Lent::len` meets its contract. Assumes nothing.
use mathlib.Core.Path.{◌≡◌}
use Prim.Native.Nat.{◌+◌}
use lib.ListN.{length, drop}
use Rattle.rules.specs.Lists.{join}
use Rattle.bundling.proofs.Lent.len.Given as goal

abbrev pub invariant-loop-start : goal.invariant-loop-start
invariant-loop-start l =
    l.len + length (join (drop l.start-index l.self)) ≡ length (join l.self)
