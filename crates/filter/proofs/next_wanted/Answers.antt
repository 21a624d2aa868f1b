-- `filter::next_wanted` meets its contract. Invariant: the answer of the walk that is left is that from `at` on. Assumes nothing.
use mathlib.Core.Path.{sym, ◌∙◌}
use native.Mathlib.Omega.{arith}
use borrow.Author.Rules.{rules}
use Rattle.filter.proofs.Steps.{Found, found, none_wanted}
use Rattle.filter.proofs.next_wanted.Given as given
use Rattle.filter.proofs.next_wanted.Goals as goal
use Rattle.filter.proofs.next_wanted.Goals.{In-Some}

-- what the turn's step has found
here : (g : given.Over) (c : In-Some g) → Found c.args.body.now c.loop-places.places-iterator.at c.in-Some.places c.next.new.self.at
here g c = found c.loop-places.invariant.0 c.in-Some.ensures.steps

pub slice_bounds-is_wanted-end : goal.slice_bounds-is_wanted-end
slice_bounds-is_wanted-end g c = omega (arith, (here g (goal.at.slice_bounds-is_wanted-end g c).In-Some).order)

pub returns-then-is_wanted : goal.returns-then-is_wanted
returns-then-is_wanted g c passes computes =
    (here g (goal.at.returns-then-is_wanted g c).In-Some).kept passes (sym (computes _ _ (search rules)) ∙ c.if-is_wanted.true)
    ∙ c.loop-places.invariant.1 passes computes

pub loop-places-preserved : goal.loop-places-preserved
loop-places-preserved g c = (
  c.in-Some.ensures.steps.stays ∙ c.loop-places.invariant.0,
  λ passes computes.
      (here g (goal.at.loop-places-preserved g c).In-Some).passed passes (sym (computes _ _ (search rules)) ∙ c.if-is_wanted.false)
      ∙ c.loop-places.invariant.1 passes computes,
)

pub returns : goal.returns
returns g c passes computes =
    none_wanted _ c.loop-places.invariant.0 c.in-None.ensures.steps.first passes ∙ c.loop-places.invariant.1 passes computes
