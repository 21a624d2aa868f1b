-- `body::next_trailer_of` meets its contract.
use Rattle.std.specs.Prelude.{Err, Ok, Result, Some}
use mathlib.Core.Bool.{true, false}
use mathlib.Core.Path.{◌≡◌, sym, ap, ◌∙◌}
use borrow.Author.Rules.{rules}
use lib.Dec.{ltb}
use lib.ListN.{length}
use Rattle.record.proofs.Read.{said_of}
use Rattle.rules.specs.Answers.{limit, trailer_step_says}
use Rattle.rules.specs.Number.{cursor_fits}
use Rattle.rules.specs.Record.{step_with}
use Rattle.rules.specs.Trailer.{only, walk_from}
use Rattle.trailer.specs.Walk.{next_of}
use Rattle.body.specs.Body.{step_answer, step_buffer}
use Rattle.body.proofs.Calls.{end_fits, start_fits, step_fits, step_found, step_left}
use Rattle.body.proofs.next_trailer_of.Goals as goal
use Rattle.body.proofs.next_trailer_of.Goals.{After-read_trailer, In-Some}

-- where it has found a trailer: the body is within the limit, and the cursor in the body
short : (t : In-Some) → ltb limit (length t.args.body.now) ≡ false
short t = search rules

fits : (t : In-Some) → cursor_fits t.args.cursor t.args.body.now ≡ true
fits t = search rules

found : (t : In-Some) → next_of (only t.args.kind (walk_from t.args.body.now t.args.cursor.at)) ≡ Some t.in-Some.places
found t = sym t.next_of.ensures ∙ t.in-Some.is

pub move_on-here-requires : goal.move_on-here-requires
move_on-here-requires c =
    let t = (goal.at.move_on-here-requires c).In-Some in
    start_fits t.args.kind t.args.body.now t.args.cursor (short t) (fits t) (found t)

pub move_over-next-requires : goal.move_over-next-requires
move_over-next-requires c =
    let t = (goal.at.move_over-next-requires c).In-Some in
    let fit = end_fits t.args.kind t.args.body.now t.args.cursor (short t) (fits t) (found t) c.move_on-here.ensures in
    record { line_bound = fit.0; input_len = fit.1 }

pub read_trailer-requires : goal.read_trailer-requires
read_trailer-requires c =
    let t = (goal.at.read_trailer-requires c).In-Some in
    let may = step_fits t.args.kind t.args.body.now t.args.cursor (short t) (fits t) (found t) in
    record { value_start_bound = may.0; body_value = may.1 }

-- what is said of its record, and what is left in the buffer
answered : (r : After-read_trailer) → let a = r.args in
    (said_of (λ x. trailer_step_says (Ok (step_with (Some x) r.move_over-next.result))) r.read_trailer.result ≡ step_answer a.kind a.body.now a.cursor (length a.out.now))
    × (r.read_trailer.new.out ≡ step_buffer a.kind a.body.now a.cursor a.out.now)
answered r =
    let a = r.args in
    let short : ltb limit (length a.body.now) ≡ false = search rules in
    let fits : cursor_fits a.cursor a.body.now ≡ true = search rules in
    let q = sym r.next_of.ensures ∙ r.in-Some.is in (
      step_found a.kind a.body.now a.cursor short fits q r.move_on-here.ensures r.move_over-next.ensures (length a.out.now) r.read_trailer.ensures.value,
      step_left a.kind a.body.now a.cursor short fits q a.out.now r.read_trailer.ensures.out_after,
    )

pub returns-in_err-found : goal.returns-in_err-found
returns-in_err-found c =
    let known = answered (goal.at.returns-in_err-found c).After-read_trailer in
    let refused : c.from_residual-in_err-found.result ≡ Err c.in_err-found.field-0.0 = search rules in
    record { result_value = rw refused (ap (said_of _) (sym c.in_err-found.was) ∙ known.0); out_after = known.1 }

pub returns : goal.returns
returns c =
    let known = answered (goal.at.returns c).After-read_trailer in
    record { result_value = ap (said_of _) (sym c.in_ok-found.was) ∙ known.0; out_after = known.1 }
