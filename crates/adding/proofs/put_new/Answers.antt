-- `adding::put_new` meets its contract: the pieces are the new message. Assumes nothing.
use native.Mathlib.Omega.{arith}
use mathlib.Core.Path.{◌≡◌, ap, ◌∙◌}
use lib.ListN.{length}
use Rattle.copy.specs.Onto.{onto}
use Rattle.copy.proofs.Onto.{onto_front}
use Rattle.appending.specs.Added.{added}
use Rattle.adding.proofs.Answers as answers
use Rattle.adding.proofs.Writing as laws
use Rattle.adding.proofs.put_new.Goals as goal
use Rattle.adding.proofs.put_new.Goals.{After-total_len-needed}

pub slice_bounds-kept-end : goal.slice_bounds-kept-end
slice_bounds-kept-end c = laws.front_size c.args.message.now c.requires.len

-- the length of the pieces is the new message's
size : (c : After-total_len-needed) → c.total_len-needed.result ≡ length (added c.args.message.now c.args.token.now c.args.value.now)
size c =
    let a = c.args in
    omega (arith, c.total_len-needed.ensures, laws.added_size a.message.now a.token.now a.value.now c.requires.len c.last_ending-ending.ensures c.has_block.ensures c.lacking.ensures c.empty_line-empty.ensures c.new_end-end.ensures)

pub returns-then-needed-gt-LIMIT : goal.returns-then-needed-gt-LIMIT
returns-then-needed-gt-LIMIT c =
    let a = answers.long_result _ c.args.out.now (size (goal.at.returns-then-needed-gt-LIMIT c).After-total_len-needed) c.if-needed-gt-LIMIT.true in
    record { result_value = a.0; out_after = a.1 }

pub returns-then-out-needed : goal.returns-then-out-needed
returns-then-out-needed c =
    let a = answers.no_room _ c.args.out.now (size (goal.at.returns-then-out-needed c).After-total_len-needed) c.if-needed-gt-LIMIT.false c.if-out-needed.true in
    record { result_value = a.0; out_after = a.1 }

pub returns : goal.returns
returns c =
    let a = c.args in
    let new = added a.message.now a.token.now a.value.now in
    let r = answers.room new a.out.now (size (goal.at.returns c).After-total_len-needed) c.if-needed-gt-LIMIT.false c.if-out-needed.false in
    let whole = laws.pieces_join a.message.now a.token.now a.value.now c.requires.len c.last_ending-ending.ensures c.has_block.ensures c.lacking.ensures c.empty_line-empty.ensures c.new_end-end.ensures in
    record { result_value = r.0; out_after = c.put_pieces.ensures ∙ ap (λ w. onto 0 w a.out.now) whole ∙ onto_front new a.out.now ∙ r.1 }
