-- `screen::put_lines` meets its contract: each turn's step has found a trailer, whose line is written; with none left the buffer is done.
use mathlib.Core.Path.{sym, ◌∙◌}
use native.Mathlib.Omega.{arith}
use Rattle.rules.specs.Trailer.{walk_from}
use Rattle.trailer.proofs.Steps.{none_is}
use Rattle.screen.proofs.Lines.{Found, found, found_size, line_written, lines_written}
use Rattle.screen.proofs.put_lines.Goals as goal
use Rattle.screen.proofs.put_lines.Goals.{In-Some}

pub returns : goal.returns
returns c =
    let l = c.loop-places in
    let m = c.args.message.now in
    let from = l.places-iterator.at in
    lines_written m from l.to l.out (none_is (walk_from m from) (rw l.invariant.0 at (sym c.in-None.ensures.steps.first))) l.invariant.3

-- what the turn's step has found
here : (c : In-Some) → Found c.args.message.now c.loop-places.places-iterator.at c.in-Some.places
here c = found _ _ (rw c.loop-places.invariant.0 at (sym c.in-Some.ensures.steps.first))

pub put_line-to-requires-clause-fits : goal.put_line-to-requires-clause-fits
put_line-to-requires-clause-fits c = (here (goal.at.put_line-to-requires-clause-fits c).In-Some).fits

pub put_line-to-requires-clause-at_in_bounds : goal.put_line-to-requires-clause-at_in_bounds
put_line-to-requires-clause-at_in_bounds c =
    omega (arith, found_size (here (goal.at.put_line-to-requires-clause-at_in_bounds c).In-Some), c.loop-places.invariant.2)

pub loop-places-preserved : goal.loop-places-preserved
loop-places-preserved c =
    let l = c.loop-places in
    let p = c.put_line-to in
    let s = c.in-Some.ensures.steps in
    let h = here (goal.at.loop-places-preserved c).In-Some in
    let (size, room, done) = line_written h l.to p.result l.out p.new.out l.invariant.2 p.ensures.value p.ensures.out_after in
    (s.stays ∙ l.invariant.0, size ∙ l.invariant.1, rw s.goes room, rw s.goes (done ∙ l.invariant.3))
