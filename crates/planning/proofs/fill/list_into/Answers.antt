-- `planning::list_into` meets its contract: what the turns mean is in crates/listing/proofs/Turn.
use mathlib.Core.Path.{sym, ap, ◌∙◌}
use Prim.Native.Nat.{◌+◌}
use native.Mathlib.Omega.{arith}
use Rattle.listing.proofs.Turn.{buffer_is, fits_next, nearer, next, ready, said_is, table_is}
use Rattle.planning.proofs.Filled.{filling}
use Rattle.planning.proofs.fill.list_into.Goals as goal

pub loop-spot-init : goal.loop-spot-init
loop-spot-init g c =
    let a = c.args in
    let t = g.L.Layout in
    filling t.cells t.WIDTH g.met.L.Layout.wide a.input.now a.scope a.table.now a.out.now c.in_ok-begun.begun (rw c.WIDTH.ensures at c.in_ok-begun.ensures).1

pub list_step-step-requires : goal.list_step-step-requires
list_step-step-requires g c = ready c.loop-spot.invariant c.in-Some.is

pub put-requires : goal.put-requires
put-requires g c =
    omega (arith, fits_next c.loop-spot.invariant c.in-Some.is c.list_step-step.result c.list_step-step.ensures.value, g.met.L.Layout.wide c.list_step-step.result.found)

pub overflow_add-at : goal.overflow_add-at
overflow_add-at g c =
    omega (arith, c.WIDTH-at.ensures, fits_next c.loop-spot.invariant c.in-Some.is c.list_step-step.result c.list_step-step.ensures.value, g.met.L.Layout.wide c.list_step-step.result.found)

pub loop-spot-smaller : goal.loop-spot-smaller
loop-spot-smaller g c = omega (arith, nearer c.loop-spot.invariant c.in-Some.is c.list_step-step.result c.list_step-step.ensures.value)

pub loop-spot-preserved : goal.loop-spot-preserved
loop-spot-preserved g c =
    let r = c.list_step-step in
    let further = ap (λ k. c.loop-spot.at + k) (c.WIDTH-at.ensures ∙ sym (g.met.L.Layout.wide r.result.found)) in
    next c.loop-spot.invariant c.in-Some.is r.result r.ensures.value _ _ _ further c.put.ensures r.ensures.out_after

pub returns-clause-answer : goal.returns-clause-answer
returns-clause-answer g c = said_is c.loop-spot.invariant c.in_default.is

pub returns-clause-table_after : goal.returns-clause-table_after
returns-clause-table_after g c = table_is c.loop-spot.invariant c.in_default.is

pub returns-clause-out_after : goal.returns-clause-out_after
returns-clause-out_after g c = buffer_is c.loop-spot.invariant c.in_default.is
