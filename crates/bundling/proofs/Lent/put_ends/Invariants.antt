-- `bundling::Lent::put_ends` meets its contract. Assumes nothing.
use mathlib.Core.List.{map}
use mathlib.Core.Path.{◌≡◌}
use Prim.Native.Nat.{◌+◌, ◌*◌}
use lib.ListN.{length, drop}
use Rattle.rules.specs.Lists.{join}
use Rattle.copy.specs.Onto.{onto}
use Rattle.bundle.specs.Bundle.{ends, u32le}
use Rattle.bundling.proofs.Lent.put_ends.Given as goal

abbrev pub invariant-loop-start : goal.invariant-loop-start
invariant-loop-start l =
    (l.place ≡ 8 + 4 * l.start-index) × (l.ends_at + length (join (drop l.start-index l.self)) ≡ l.header + length (join l.self)) × (onto l.place (join (map u32le (ends l.ends_at (drop l.start-index l.self)))) l.out ≡ onto 8 (join (map u32le (ends l.header l.self))) l.initial.out)
