-- `bundling::Lent::put_ends` meets its contract. Assumes nothing.
use mathlib.Core.Path.{sym, ap, ◌∙◌}
use Prim.Native.Nat.{◌+◌, ◌≤◌}
use native.Mathlib.Omega.{arith}
use lib.ListN.{length}
use mathlib.Core.List.{map}
use Rattle.rules.specs.Lists.{join}
use Rattle.copy.specs.Onto.{onto}
use Rattle.copy.proofs.Onto.{onto-nil}
use Rattle.bundle.specs.Bundle.{ends, u32le}
use Rattle.bundling.proofs.Writing as laws
use Rattle.bundling.proofs.Lent.put_ends.Goals as goal
use Rattle.bundling.proofs.Lent.put_ends.Goals.{In-loop-start}

-- the turn's message
here : (w : In-loop-start) → laws.Next w.self.inside.input.now w.self.inside.ranges.now w.args.self.now w.loop-start.start-index
here w = laws.next w.self.inside.input.now w.self.inside.ranges.now w.args.self.now w.loop-start.start-index (sym w.self.view_is) w.self.invariant w.loop-start-test.true

pub put_u32-requires : goal.put_u32-requires
put_u32-requires c =
    let x = here (goal.at.put_u32-requires c).In-loop-start in
    (omega (arith, x.long, laws.length_next _ _ x.some, c.loop-start.invariant.1), omega (arith, x.some, c.loop-start.invariant.0))

pub loop-start-preserved : goal.loop-start-preserved
loop-start-preserved c =
    let x = here (goal.at.loop-start-preserved c).In-loop-start in
    let ms = c.args.self.now in
    let o = c.loop-start in
    let fits : o.place + 4 ≤ length o.out = omega (arith, x.some, o.invariant.0) in (
      omega (arith, o.invariant.0),
      omega (arith, x.long, laws.length_next _ _ x.some, o.invariant.1),
      rw (c.put_u32.ensures, ← x.long) (laws.end_next ms o.start-index x.some o.out o.ends_at o.place fits) ∙ o.invariant.2,
    )

pub returns : goal.returns
returns c =
    let o = c.loop-start in
    let none = laws.none_left c.self.inside.input.now c.self.inside.ranges.now c.args.self.now o.start-index (sym c.self.view_is) (omega arith) in
    sym (onto-nil o.place o.out) ∙ ap (λ ms. onto o.place (join (map u32le (ends o.ends_at ms))) o.out) (sym none) ∙ o.invariant.2
