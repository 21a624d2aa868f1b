-- `planning::count` meets its contract. Invariant: the counts so far and those of the walk that is left are all.
use mathlib.Core.Path.{◌≡◌, sym, ◌∙◌}
use native.Mathlib.Omega.{arith}
use lib.ListN.{length}
use Rattle.rules.specs.Trailer.{walk_from}
use Rattle.trailer.proofs.Steps.{none_is}
use Rattle.listing.specs.Listing.{values_of}
use Rattle.planning.proofs.Counted.{Found, found, none_left}
use Rattle.planning.proofs.count.Goals as goal
use Rattle.planning.proofs.count.Goals.{In-Some}

pub returns : goal.returns
returns c =
    let a = c.args in
    let i = c.loop-places.invariant in
    let from = c.loop-places.places-iterator.at in
    let none = none_left a.input.now from (none_is (walk_from a.input.now from) (rw i.0 at (sym c.in-None.ensures.steps.first))) in
    let n : c.loop-places.records ≡ length (walk_from a.input.now a.at) = omega (arith, none.0, i.3) in
    let m : c.loop-places.bytes ≡ length (values_of (walk_from a.input.now a.at)) = omega (arith, none.1, i.4) in
    rw (n, m)

-- what the turn's step has found
here : (c : In-Some) → Found c.args.input.now c.loop-places.places-iterator.at c.in-Some.places
here c = found _ _ (rw c.loop-places.invariant.0 at (sym c.in-Some.ensures.steps.first))

pub overflow_add-bytes : goal.overflow_add-bytes
overflow_add-bytes c =
    let h = here (goal.at.overflow_add-bytes c).In-Some in
    omega (arith, h.ahead, c.in-Some.ensures.steps.order, h.few, c.written_len-bytes.ensures, c.loop-places.invariant.2)

pub loop-places-preserved : goal.loop-places-preserved
loop-places-preserved c =
    let i = c.loop-places.invariant in
    let s = c.in-Some.ensures.steps in
    let h = here (goal.at.loop-places-preserved c).In-Some in (
      s.stays ∙ i.0,
      omega (arith, s.goes, s.order, i.1),
      omega (arith, s.goes, s.order, h.ahead, h.few, c.written_len-bytes.ensures, i.2),
      rw s.goes (omega (arith, h.one, i.3)),
      rw s.goes (omega (arith, h.bytes, c.written_len-bytes.ensures, i.4)),
    )
