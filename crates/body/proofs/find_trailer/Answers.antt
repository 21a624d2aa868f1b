-- `body::find_trailer` meets its contract.
use Rattle.std.specs.Prelude.{Err, Ok, Some}
use mathlib.Core.Bool.{false}
use mathlib.Core.Path.{◌≡◌, sym, ap, ◌∙◌}
use borrow.Author.Rules.{rules}
use native.Mathlib.Omega.{arith}
use lib.Dec.{ltb}
use lib.ListN.{length}
use Rattle.rules.proofs.Paragraph.{start_within}
use Rattle.record.proofs.Read.{said_of}
use Rattle.rules.specs.Answers.{limit, trailer_found_says}
use Rattle.rules.specs.Paragraph.{block_start}
use Rattle.rules.specs.Trailer.{lookup, walk_from}
use Rattle.filter.specs.Lookup.{looked_up}
use Rattle.body.specs.Body.{find_answer, find_buffer}
use Rattle.body.proofs.Calls.{find_fits, find_found, find_left, start_inside}
use Rattle.body.proofs.find_trailer.Goals as goal
use Rattle.body.proofs.find_trailer.Goals.{After-read_trailer, In-Some}

-- where the lookup has found a trailer: body and name are within the limit, and the walk began at the block start
short : (t : In-Some) → ltb limit (length t.args.body.now) ≡ false
short t = search rules

brief : (t : In-Some) → ltb limit (length t.args.name.now) ≡ false
brief t = search rules

found : (t : In-Some) → looked_up (lookup t.args.name.now (walk_from t.args.body.now (block_start t.args.body.now))) ≡ Some t.in-Some.places
found t = rw t.trailer_block_start-at.ensures at (sym t.find_named.ensures ∙ t.in-Some.is)

pub find_named-requires : goal.find_named-requires
find_named-requires c = omega (arith, start_within c.args.body.now, c.trailer_block_start-at.ensures)

pub right_cursor-line-requires : goal.right_cursor-line-requires
right_cursor-line-requires c =
    let t = (goal.at.right_cursor-line-requires c).In-Some in
    start_inside t.args.body.now t.args.name.now (short t) (brief t) (found t)

pub read_trailer-requires : goal.read_trailer-requires
read_trailer-requires c =
    let t = (goal.at.read_trailer-requires c).In-Some in
    let may = find_fits t.args.body.now t.args.name.now (short t) (brief t) (found t) in
    record { value_start_bound = may.0; body_value = may.1 }

-- what is said of the record of the trailer that was found, and what is left in the buffer
answered : (r : After-read_trailer) → let a = r.args in
    (said_of (λ x. trailer_found_says (Ok (Some x))) r.read_trailer.result ≡ find_answer a.body.now a.name.now (length a.out.now))
    × (r.read_trailer.new.out ≡ find_buffer a.body.now a.name.now a.out.now)
answered r =
    let a = r.args in
    let short : ltb limit (length a.body.now) ≡ false = search rules in
    let brief : ltb limit (length a.name.now) ≡ false = search rules in
    let q = rw r.trailer_block_start-at.ensures at (sym r.find_named.ensures ∙ r.in-Some.is) in (
      find_found a.body.now a.name.now short brief q r.right_cursor-line.ensures (length a.out.now) r.read_trailer.ensures.value,
      find_left a.body.now a.name.now short brief q a.out.now r.read_trailer.ensures.out_after,
    )

pub returns-in_err-found : goal.returns-in_err-found
returns-in_err-found c =
    let known = answered (goal.at.returns-in_err-found c).After-read_trailer in
    let refused : c.from_residual-in_err-found.result ≡ Err c.in_err-found.field-0.0 = search rules in
    record { result_value = rw refused (ap (said_of _) (sym c.in_err-found.was) ∙ known.0); out_after = known.1 }

pub returns : goal.returns
returns c =
    let known = answered (goal.at.returns c).After-read_trailer in
    record { result_value = ap (said_of _) (sym c.in_ok-found.was) ∙ known.0; out_after = known.1 }
