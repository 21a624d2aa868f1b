-- `trailer::walk::Trailers::next` meets its contract. Assumes nothing.
use mathlib.Core.Path.{sym, ◌∙◌}
use lib.ListN.{length}
use Prim.Native.Nat.{◌≤◌, ◌<◌}
use native.Mathlib.Omega.{arith}
use borrow.Author.Rules.{rules}
use Rattle.trailer.proofs.Steps.{step_order}
use Rattle.trailer.proofs.walk.TrailersIterator.next.Goals as goal
use Rattle.trailer.proofs.walk.TrailersIterator.next.Goals.{In_ok-places}

-- the places that were found lie in order
order : (c : In_ok-places) → let self = c.args.self.now in let p = c.in_ok-places.places in
    (p.start ≤ p.token_end) × (p.token_end ≤ p.end) × (p.value_start ≤ p.end) × (self.at < p.end) × (p.end ≤ length self.body.now)
order c = step_order _ _ (sym c.next_trailer_from.ensures ∙ c.in_ok-places.was)

pub invariant_of-self : goal.invariant_of-self
invariant_of-self c = record { inside = (order (goal.at.invariant_of-self c).In_ok-places).4 }

pub returns-clause-goes : goal.returns-clause-goes
returns-clause-goes c = let o = order (goal.at.returns-clause-goes c).In_ok-places in search rules

pub returns-clause-steps : goal.returns-clause-steps
returns-clause-steps c = let o = order (goal.at.returns-clause-steps c).In_ok-places in search rules
