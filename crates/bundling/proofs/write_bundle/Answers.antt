-- `bundling::write_bundle` meets its contract. Assumes nothing.
use mathlib.Core.Path.{sym, ◌∙◌}
use native.Mathlib.Omega.{arith}
use Rattle.copy.proofs.Onto.{onto_front}
use Rattle.bundle.specs.Bundle.{bundle_of}
use Rattle.bundling.proofs.Answers as answers
use Rattle.bundling.proofs.Writing as laws
use Rattle.bundling.proofs.write_bundle.Goals as goal
use Rattle.bundling.proofs.write_bundle.Goals.{In_ok-messages}

-- the messages are those that the ranges lend
given : (w : In_ok-messages) → laws.Given w.args.input.now w.args.ranges.now w.in_ok-messages.messages
given w = laws.given _ _ _ (sym w.within_limit.ensures ∙ w.in_ok-within_limit.was) (sym w.in_ok-messages.ensures.ok_part ∙ w.of.ensures)

pub len-requires : goal.len-requires
len-requires c = omega (arith, (given (goal.at.len-requires c).In_ok-messages).bound)

pub overflow_add-needed : goal.overflow_add-needed
overflow_add-needed c = omega (arith, (given (goal.at.overflow_add-needed c).In_ok-messages).bound)

pub returns-then-count-gt-MOST : goal.returns-then-count-gt-MOST
returns-then-count-gt-MOST c =
    let r = answers.too_many c.args.out.now (given (goal.at.returns-then-count-gt-MOST c).In_ok-messages) (omega arith) in
    record { result_value = r.0; out_after = r.1 }

pub returns-then-needed-gt-LIMIT : goal.returns-then-needed-gt-LIMIT
returns-then-needed-gt-LIMIT c =
    let g = given (goal.at.returns-then-needed-gt-LIMIT c).In_ok-messages in
    let r = answers.long_result c.args.out.now g (omega arith) (omega arith) c.if-needed-gt-LIMIT.true in
    record { result_value = r.0; out_after = r.1 }

pub returns-then-out-needed : goal.returns-then-out-needed
returns-then-out-needed c =
    let g = given (goal.at.returns-then-out-needed c).In_ok-messages in
    let r = answers.no_room c.args.out.now g (omega arith) (omega arith) c.if-needed-gt-LIMIT.false c.if-out-needed.true in
    record { result_value = r.0; out_after = r.1 }

pub returns : goal.returns
returns c =
    let g = given (goal.at.returns c).In_ok-messages in
    let r = answers.room c.args.out.now g (omega arith) (omega arith) c.if-needed-gt-LIMIT.false c.if-out-needed.false in
    record { result_value = r.0; out_after = c.put_bundle.ensures ∙ onto_front (bundle_of c.in_ok-messages.messages) c.args.out.now ∙ r.1 }
