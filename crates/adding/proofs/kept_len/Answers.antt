-- `adding::kept_len` meets its contract. Invariant: the last non-blank line of the message is that of its lines before `end`.
-- Assumes nothing.
use mathlib.Core.Path.{◌≡◌, sym, ◌∙◌}
use native.Mathlib.Omega.{arith}
use borrow.Author.Rules.{rules}
use Rattle.paragraph.proofs.Upward.{start_before, start_le}
use Rattle.adding.proofs.Upward.{kept_above, kept_here, kept_nothing}
use Rattle.adding.proofs.Writing.{nothing_there, something_there}
use Rattle.adding.proofs.kept_len.Goals as goal

pub slice_bounds-is_blank_line-count : goal.slice_bounds-is_blank_line-count
slice_bounds-is_blank_line-count c = start_le _ _ _ c.line_start-start.ensures

pub slice_bounds-is_blank_line-start : goal.slice_bounds-is_blank_line-start
slice_bounds-is_blank_line-start c =
    let k = start_le _ _ _ c.line_start-start.ensures in
    let n = c.loop-end.invariant.0 in
    search rules

pub returns-then-not-is_blank_line : goal.returns-then-not-is_blank_line
returns-then-not-is_blank_line c =
    something_there _ _ (kept_here _ _ _ c.line_start-start.ensures c.loop-end.invariant (search rules) (sym c.is_blank_line.ensures ∙ c.if-not-is_blank_line.true)) (search rules)

pub loop-end-smaller : goal.loop-end-smaller
loop-end-smaller c = start_before _ _ _ c.line_start-start.ensures (search rules)

pub loop-end-preserved : goal.loop-end-preserved
loop-end-preserved c = (
  omega (arith, start_le _ _ _ c.line_start-start.ensures, c.loop-end.invariant.0),
  kept_above _ _ _ c.line_start-start.ensures c.loop-end.invariant (search rules) (sym c.is_blank_line.ensures ∙ c.if-not-is_blank_line.false),
)

pub returns : goal.returns
returns c =
    let top : c.loop-end.end ≡ 0 = search rules in
    nothing_there _ (kept_nothing _ (rw top at c.loop-end.invariant))
