-- `trailer::line::folds_len` meets its contract. The invariant: the length from the front on is what is passed and the length from
-- `len` on. Assumes nothing.
use mathlib.Core.Bool.{true}
use mathlib.Core.Path.{◌≡◌, sym, ◌∙◌}
use Prim.Native.Nat.{◌+◌, ◌-◌, ◌≤◌, ◌<◌}
use native.Mathlib.Omega.{arith}
use lib.ListN.{length, take, drop}
use Rattle.rules.specs.Lines.{indented}
use Rattle.text.proofs.ByLines.{line_ahead}
use Rattle.trailer.proofs.Folds.{folds_ahead, folds_none, folds_stop, folds_go}
use Rattle.trailer.proofs.line.folds_len.Goals as goal
use Rattle.trailer.proofs.line.folds_len.Goals.{After-line_len}

-- the line ahead is indented, and has bytes
indents : (c : After-line_len) → let s = c.args.rest.now in
    indented (take (length s - c.loop-end.len) (drop c.loop-end.len s)) ≡ true
indents c = sym c.is_indented.ensures ∙ c.loop-end-test.true

ahead : (c : After-line_len) → let s = c.args.rest.now in
    (0 < c.line_len.result) × (c.loop-end.len + c.line_len.result ≤ length s)
ahead c =
    let s = c.args.rest.now in
    line_ahead s c.loop-end.len c.line_len.result (folds_ahead s c.loop-end.len (indents c)) c.line_len.ensures

pub overflow_add-end : goal.overflow_add-end
overflow_add-end c = omega (arith, ahead c)

pub slice_bounds-is_blank_line-end : goal.slice_bounds-is_blank_line-end
slice_bounds-is_blank_line-end c = omega (arith, ahead c)

pub returns-then-is_blank_line : goal.returns-then-is_blank_line
returns-then-is_blank_line c =
    let s = c.args.rest.now in
    let m = (goal.at.returns-then-is_blank_line c).After-line_len in
    let blank = sym c.is_blank_line.ensures ∙ c.if-is_blank_line.true in
    omega (arith, folds_stop s c.loop-end.len c.line_len.result (indents m) c.line_len.ensures blank)

pub loop-end-preserved : goal.loop-end-preserved
loop-end-preserved c =
    let s = c.args.rest.now in
    let m = (goal.at.loop-end-preserved c).After-line_len in
    let text = sym c.is_blank_line.ensures ∙ c.if-is_blank_line.false in (
      (ahead m).1,
      omega (arith, folds_go s c.loop-end.len c.line_len.result (indents m) c.line_len.ensures text),
    )

pub returns : goal.returns
returns c =
    let none = sym c.is_indented.ensures ∙ c.loop-end-test.false in
    omega (arith, folds_none c.args.rest.now c.loop-end.len none)
