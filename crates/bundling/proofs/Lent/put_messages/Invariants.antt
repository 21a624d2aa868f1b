-- `bundling::Lent::put_messages` meets its contract. Assumes nothing.
use mathlib.Core.Path.{◌≡◌}
use Prim.Native.Nat.{◌+◌}
use lib.ListN.{length, drop}
use Rattle.rules.specs.Lists.{join}
use Rattle.copy.specs.Onto.{onto}
use Rattle.bundling.proofs.Lent.put_messages.Given as goal

abbrev pub invariant-loop-start : goal.invariant-loop-start
invariant-loop-start l =
    (l.at + length (join (drop l.start-index l.self)) ≡ l.header + length (join l.self)) × (onto l.at (join (drop l.start-index l.self)) l.out ≡ onto l.header (join l.self) l.initial.out)
