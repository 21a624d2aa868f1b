-- `fields::tally::tally_fields` meets its contract. Invariant: what is found so far, and in the walk that is left, is found in all.
-- Assumes nothing.
use native.Mathlib.Omega.{arith}
use Rattle.fields.proofs.Going.{all_start, all_end, all_step, order}
use Rattle.fields.proofs.tally.tally_fields.Goals as goal

pub loop-places-init : goal.loop-places-init
loop-places-init c = rw c.into_iter-places-iterator.ensures.into_iter_gives (all_start c.args.message.now c.args.at)

pub slice_bounds-token-end : goal.slice_bounds-token-end
slice_bounds-token-end c = omega (arith, order c.loop-places.invariant c.in-Some.ensures.steps)

pub loop-places-preserved : goal.loop-places-preserved
loop-places-preserved c =
    all_step c.loop-places.invariant c.in-Some.ensures.steps c.count-vehicle.ensures c.count-records.ensures c.count-state.ensures

pub returns : goal.returns
returns c = all_end c.loop-places.invariant c.in-None.ensures.steps.first
