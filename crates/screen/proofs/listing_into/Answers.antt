-- `screen::listing_into` meets its contract. Where the walk begins, what its lines need and the digits of their number are found before
-- anything is written; with room the first line and the lines are the listing.
use Rattle.std.specs.Prelude.{Ok}
use mathlib.Core.Path.{◌≡◌, ap, ◌∙◌}
use Prim.Native.Nat.{◌≤◌}
use native.Mathlib.Omega.{arith}
use lib.ListN.{length, take}
use Rattle.rules.specs.Answers.{limit, walk_found_says}
use Rattle.rules.specs.declared.Cursor.{Cursor}
use Rattle.message.specs.Message.{walk_answer, walk_start}
use Rattle.message.proofs.Started.{started, walk_fits}
use Rattle.screen.proofs.Answers as answers
use Rattle.screen.proofs.Whole as laws
use Rattle.screen.proofs.listing_into.Goals as goal
use Rattle.screen.proofs.listing_into.Goals.{In_ok-start, After-decimal-digits}

-- where the walk begins
said : (c : In_ok-start) → walk_found_says (Ok c.in_ok-start.start) ≡ walk_answer c.args.message.now
said c = c.in_ok-start.ensures

begins : (c : In_ok-start) → c.in_ok-start.start.at ≡ (walk_start c.args.message.now).at
begins c = ap (λ (k : Cursor). k.at) (started c.args.message.now c.in_ok-start.start (said c)).0

short : (c : In_ok-start) → length c.args.message.now ≤ limit
short c = answers.within_limit c.args.message.now c.in_ok-start.start (said c)

pub measure-sizes-requires : goal.measure-sizes-requires
measure-sizes-requires c = let k = (goal.at.measure-sizes-requires c).In_ok-start in (rw (begins k) (walk_fits c.args.message.now), short k)

-- what is found before anything is written
planned : (c : After-decimal-digits) → c.in_ok-start.start.at ≡ (walk_start c.args.message.now).at
    → laws.Planned c.args.message.now c.in_ok-start.start.at c.measure-sizes.result c.decimal-digits.result (take c.decimal-digits.result c.decimal-digits.new.out)
planned c b = record {
  begins = b;
  sizes = c.measure-sizes.ensures;
  long = c.decimal-digits.ensures.in_bounds.1;
  fewest = c.decimal-digits.ensures.len;
  spelt = c.decimal-digits.ensures.digits;
}

pub overflow_add-needed : goal.overflow_add-needed
overflow_add-needed c =
    let k = (goal.at.overflow_add-needed c).In_ok-start in
    omega (arith, laws.sizes_short (planned (goal.at.overflow_add-needed c).After-decimal-digits (begins k)) (short k), short k)

pub returns-then-out-needed : goal.returns-then-out-needed
returns-then-out-needed c =
    let k = (goal.at.returns-then-out-needed c).In_ok-start in
    let p = planned (goal.at.returns-then-out-needed c).After-decimal-digits (begins k) in
    let r = answers.no_room c.args.message.now c.args.out.now (short k) (laws.needed_is p) c.if-out-needed.true in
    record { result_value = r.0; out_after = r.1 }

pub put_lines-requires : goal.put_lines-requires
put_lines-requires c =
    let k = (goal.at.put_lines-requires c).In_ok-start in
    let p = planned (goal.at.put_lines-requires c).After-decimal-digits (begins k) in
    (laws.place_fits p, laws.lines_room p c.args.out.now (omega (arith, laws.needed_is p, c.if-out-needed.false)) c.put_first.new.out c.put_first.ensures)

pub returns : goal.returns
returns c =
    let k = (goal.at.returns c).In_ok-start in
    let p = planned (goal.at.returns c).After-decimal-digits (begins k) in
    let r = answers.room c.args.message.now c.args.out.now (short k) (laws.needed_is p) c.if-out-needed.false in
    let whole = laws.both_put p c.args.out.now (omega (arith, laws.needed_is p, c.if-out-needed.false)) c.put_first.new.out c.put_first.ensures c.put_lines.new.out c.put_lines.ensures in
    record { result_value = r.0; out_after = whole ∙ r.1 }
