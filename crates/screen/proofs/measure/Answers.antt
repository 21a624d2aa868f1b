-- `screen::measure` meets its contract: each turn's step has found a trailer, whose line is measured; with none left the sizes are all.
use mathlib.Core.Path.{◌≡◌, sym, ap, ◌∙◌}
use native.Mathlib.Omega.{arith}
use lib.ListN.{length}
use Rattle.rules.specs.Trailer.{walk_from}
use Rattle.trailer.proofs.Steps.{none_is}
use Rattle.screen.specs.Parts.{lines_from}
use Rattle.screen.proofs.Lines.{Found, found, found_size, line_short, none_left}
use Rattle.screen.proofs.measure.Goals as goal
use Rattle.screen.proofs.measure.Goals.{In-Some}

pub returns : goal.returns
returns c =
    let m = c.args.message.now in
    let i = c.loop-places.invariant in
    let from = c.loop-places.places-iterator.at in
    let none = none_is (walk_from m from) (rw i.0 at (sym c.in-None.ensures.steps.first)) in
    let n : c.loop-places.sizes.trailers ≡ length (walk_from m c.args.at) = omega (arith, ap length none, i.4) in
    let b : c.loop-places.sizes.bytes ≡ length (lines_from m c.args.at) = omega (arith, ap length (none_left m from none), i.5) in
    rw (n, b)

-- what the turn's step has found
here : (c : In-Some) → Found c.args.message.now c.loop-places.places-iterator.at c.in-Some.places
here c = found _ _ (rw c.loop-places.invariant.0 at (sym c.in-Some.ensures.steps.first))

pub line_len-requires : goal.line_len-requires
line_len-requires c = (here (goal.at.line_len-requires c).In-Some).fits

pub overflow_add-sizes-in-loop-places : goal.overflow_add-sizes-in-loop-places
overflow_add-sizes-in-loop-places c =
    let h = here (goal.at.overflow_add-sizes-in-loop-places c).In-Some in
    omega (arith, h.fits, h.ahead, c.line_len.ensures, line_short c.args.message.now c.in-Some.places h.fits, c.loop-places.invariant)

pub loop-places-preserved : goal.loop-places-preserved
loop-places-preserved c =
    let i = c.loop-places.invariant in
    let s = c.in-Some.ensures.steps in
    let h = here (goal.at.loop-places-preserved c).In-Some in (
      s.stays ∙ i.0,
      i.1,
      omega (arith, s.goes, s.order, i.2),
      omega (arith, s.goes, h.fits, h.ahead, c.line_len.ensures, line_short c.args.message.now c.in-Some.places h.fits, i.3),
      rw s.goes (omega (arith, h.one, i.4)),
      rw s.goes (omega (arith, c.line_len.ensures, found_size h, i.5)),
    )
