-- `bundling::Lent::put_messages` meets its contract. Assumes nothing.
use mathlib.Core.List.{[]}
use mathlib.Core.Path.{◌≡◌, sym, ap, ◌∙◌}
use Prim.Native.Nat.{◌+◌, ◌≤◌}
use native.Mathlib.Omega.{arith}
use lib.ListN.{length, get_or, drop}
use lib.Seq.{paste}
use Rattle.rules.specs.Lists.{join}
use Rattle.bundling.proofs.Writing as laws
use Rattle.bundling.proofs.Lent.put_messages.Goals as goal
use Rattle.bundling.proofs.Lent.put_messages.Goals.{In-loop-start}

-- the turn's message
here : (w : In-loop-start) → laws.Next w.self.inside.input.now w.self.inside.ranges.now w.args.self.now w.loop-start.start-index
here w = laws.next w.self.inside.input.now w.self.inside.ranges.now w.args.self.now w.loop-start.start-index (sym w.self.view_is) w.self.invariant w.loop-start-test.true

pub copy_at-requires : goal.copy_at-requires
copy_at-requires c =
    let x = here (goal.at.copy_at-requires c).In-loop-start in
    omega (arith, x.long, ap length x.part, laws.length_next _ _ x.some, c.loop-start.invariant.0)

pub loop-start-preserved : goal.loop-start-preserved
loop-start-preserved c =
    let x = here (goal.at.loop-start-preserved c).In-loop-start in
    let ms = c.args.self.now in
    let o = c.loop-start in
    let m = get_or ms o.start-index [] in
    let fits : o.at + length (join (drop o.start-index ms)) ≤ length o.out = omega (arith, o.invariant.0) in
    let written : c.copy_at.new.out ≡ paste o.out o.at m (length m) = rw x.part c.copy_at.ensures in (
      omega (arith, x.long, laws.length_next _ _ x.some, o.invariant.0),
      rw (written, ← x.long) (laws.part_next ms o.start-index x.some o.out o.at fits) ∙ o.invariant.1,
    )
