-- `filter::find_named` meets its contract. Invariant: what the trailers from `next` on give, or else the last that was found before
-- them, is the answer. Measure: the bytes ahead. Assumes nothing.
use mathlib.Core.Path.{sym, ◌∙◌}
use native.Mathlib.Omega.{arith}
use borrow.Author.Rules.{rules}
use Rattle.rules.specs.Trailer.{asked}
use Rattle.filter.proofs.Steps.{Nearer, nearer}
use Rattle.filter.proofs.find_named.Goals as goal
use Rattle.filter.proofs.find_named.Goals.{In-Some}

-- what the turn's step has found
here : (c : In-Some) → let a = c.args in
    Nearer a.name.now a.body.now c.loop-places.next c.loop-places.last c.in-Some.places
here c =
    let a = c.args in
    nearer a.name.now a.body.now c.loop-places.next c.loop-places.last (sym (c.next_wanted.ensures (asked a.name.now) (search rules)) ∙ c.in-Some.is)

pub loop-places-smaller : goal.loop-places-smaller
loop-places-smaller c = omega (arith, (here (goal.at.loop-places-smaller c).In-Some).ahead)

pub loop-places-preserved : goal.loop-places-preserved
loop-places-preserved c =
    ((here (goal.at.loop-places-preserved c).In-Some).ahead.1, (here (goal.at.loop-places-preserved c).In-Some).latest ∙ c.loop-places.invariant.1)
