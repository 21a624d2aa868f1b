-- `title::title_and_body` meets its contract. The invariant: the first `at` bytes are in the title. Assumes nothing.
use mathlib.Core.List.{List, []}
use mathlib.Core.Path.{◌≡◌}
use Prim.Native.Nat.{ℕ, ◌+◌, ◌≤◌, ◌<◌}
use native.Mathlib.Omega.{arith}
use lib.ListN.{length, drop, drop_of_length-le}
use Rattle.rules.proofs.Parts.{rest}
use Rattle.rules.proofs.Title.{body_fits, title_before_body}
use Rattle.rules.specs.Title.{body_start, title_end}
use Rattle.text.proofs.ByLines.{line_ahead}
use Rattle.title.specs.Runs.{InTitle}
use Rattle.title.proofs.ByLines.{line_passed, line_ended}
use Rattle.title.proofs.Runs.{further}
use Rattle.title.proofs.title_and_body.Goals as goal
use Rattle.title.proofs.title_and_body.Goals.{After-line_len}

-- behind the message nothing is left
over : (s : List ℕ) (i : ℕ) → length s ≤ i → (title_end (drop i s) ≡ 0) × (body_start (drop i s) ≡ 0)
over s i h =
    let none : drop i s ≡ [] = drop_of_length-le s h in
    (rw none, rw none (omega (arith, body_fits [])))

-- the line that starts at `at` is within the message
ahead : (c : After-line_len) → (0 < c.line_len.result) × (c.loop-at.at + c.line_len.result ≤ length c.args.message.now)
ahead c = line_ahead c.args.message.now c.loop-at.at c.line_len.result (omega arith) c.line_len.ensures

pub overflow_add-end : goal.overflow_add-end
overflow_add-end c = omega (arith, ahead c)

pub slice_bounds-newline_len-count : goal.slice_bounds-newline_len-count
slice_bounds-newline_len-count c = (ahead c).1

pub slice_bounds-newline_len-start : goal.slice_bounds-newline_len-start
slice_bounds-newline_len-start c = (ahead c).1

pub slice_bounds-trim_line_ending-end : goal.slice_bounds-trim_line_ending-end
slice_bounds-trim_line_ending-end c = (ahead (goal.at.slice_bounds-trim_line_ending-end c).After-line_len).1

pub returns-then-second_len-ne0 : goal.returns-then-second_len-ne0
returns-then-second_len-ne0 c =
    let some = c.if-second_len-ne0.true in
    let ended = line_ended c.args.message.now c.loop-at.at _ _ (omega arith) c.line_len.ensures c.newline_len-second_len.ensures some in
    omega (arith, ended, c.trim_line_ending-text_len.ensures.0)

pub overflow_add-result : goal.overflow_add-result
overflow_add-result c =
    let s = c.args.message.now in
    omega (arith, returns-then-second_len-ne0 c, title_before_body s, body_fits s)

pub overflow_add-result-then-second_len-ne0 : goal.overflow_add-result-then-second_len-ne0
overflow_add-result-then-second_len-ne0 c =
    let s = c.args.message.now in
    omega (arith, returns-then-second_len-ne0 c, title_before_body s, body_fits s)

pub slice_bounds-past_lines-count : goal.slice_bounds-past_lines-count
slice_bounds-past_lines-count c = (ahead (goal.at.slice_bounds-past_lines-count c).After-line_len).1

pub slice_bounds-past_lines-start : goal.slice_bounds-past_lines-start
slice_bounds-past_lines-start c = (ahead (goal.at.slice_bounds-past_lines-start c).After-line_len).1

pub loop-at-preserved : goal.loop-at-preserved
loop-at-preserved c =
    let s = c.args.message.now in let at = c.loop-at.at in
    let line = line_passed s at _ _ (omega arith) c.line_len.ensures c.newline_len-second_len.ensures c.if-second_len-ne0.false in
    let end : InTitle s (at + c.line_len.result) = omega (arith, line, ahead (goal.at.loop-at-preserved c).After-line_len) in
    further s (at + c.line_len.result) c.past_lines.result end (rw rest at c.past_lines.ensures)

pub overflow_add-at : goal.overflow_add-at
overflow_add-at c = omega (arith, (loop-at-preserved c).0)

pub returns : goal.returns
returns c =
    let s = c.args.message.now in
    let i = c.loop-at.at in
    omega (arith, over s i c.loop-at-test.false)
