-- `bundling::Lent::len` meets its contract. Assumes nothing.
use mathlib.Core.Path.{sym}
use native.Mathlib.Omega.{arith}
use Rattle.bundling.proofs.Writing as laws
use Rattle.bundling.proofs.Lent.len.Goals as goal
use Rattle.bundling.proofs.Lent.len.Goals.{In-loop-start}

-- the turn's message
here : (w : In-loop-start) → laws.Next w.self.inside.input.now w.self.inside.ranges.now w.args.self.now w.loop-start.start-index
here w = laws.next w.self.inside.input.now w.self.inside.ranges.now w.args.self.now w.loop-start.start-index (sym w.self.view_is) w.self.invariant w.loop-start-test.true

pub overflow_add-len : goal.overflow_add-len
overflow_add-len c =
    let x = here (goal.at.overflow_add-len c).In-loop-start in
    omega (arith, x.long, laws.length_next _ _ x.some, c.loop-start.invariant)

pub loop-start-preserved : goal.loop-start-preserved
loop-start-preserved c =
    let x = here (goal.at.loop-start-preserved c).In-loop-start in
    omega (arith, x.long, laws.length_next _ _ x.some, c.loop-start.invariant)
