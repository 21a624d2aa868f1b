-- `paragraph::last_paragraph` meets its contract. The invariant: the lines from `end` on have been seen, and the counts are
-- those of their tree. Assumes nothing.
use mathlib.Core.Bool.{false}
use mathlib.Core.Path.{◌≡◌, sym, ap, ◌∙◌}
use native.Mathlib.Omega.{arith}
use borrow.Author.Rules.{rules}
use lib.ListN.{drop, length-drop}
use Rattle.text.specs.Lines.{line_start}
use Rattle.paragraph.specs.Scan.{counts}
use Rattle.paragraph.proofs.Scanned.{counted_within, weight}
use Rattle.paragraph.proofs.Upward.{at_blanks, at_solid, at_blank, at_paragraph, start_before, start_le, start_taken}
use Rattle.paragraph.proofs.last_paragraph.Goals as goal
use Rattle.paragraph.proofs.last_paragraph.Goals.{After-line_start-start}

pub loop-end-init : goal.loop-end-init
loop-end-init c =
    let none : c.default-scan.result ≡ counts false false 0 0 0 = search rules in
    rw none (at_blanks c.args.body.now _ c.scan_end-end.ensures)

-- the line starts where it starts in the whole body
started : (c : After-line_start-start) → c.line_start-start.result ≡ line_start c.args.body.now c.loop-end.end
started c =
    c.line_start-start.ensures ∙ start_taken c.args.body.now c.loop-end.end

pub slice_bounds-line-count : goal.slice_bounds-line-count
slice_bounds-line-count c = start_le _ _ _ (started c)

pub slice_bounds-line-start : goal.slice_bounds-line-start
slice_bounds-line-start c =
    let k = start_le _ _ _ (started c) in
    let n = c.loop-end.invariant.inside in
    search rules

pub returns-then-scan : goal.returns-then-scan
returns-then-scan c =
    sym (at_paragraph _ _ _ (started (goal.at.returns-then-scan c).After-line_start-start) (search rules) _ c.loop-end.invariant
    (sym c.if-is_blank_line.true ∙ c.is_blank_line.ensures) c.if-scan.true)

pub add-requires : goal.add-requires
add-requires c =
    let rest = drop c.loop-end.end c.args.body.now in
    omega (arith, ap weight c.loop-end.invariant.seen, counted_within rest, length-drop c.loop-end.end c.args.body.now, c.well_formed)

pub loop-end-smaller-else-scan : goal.loop-end-smaller-else-scan
loop-end-smaller-else-scan c =
    start_before _ _ _ (started (goal.at.loop-end-smaller-else-scan c).After-line_start-start) (search rules)

pub loop-end-preserved-else-scan : goal.loop-end-preserved-else-scan
loop-end-preserved-else-scan c =
    at_blank _ _ _ (started (goal.at.loop-end-preserved-else-scan c).After-line_start-start) (search rules) _ c.loop-end.invariant
    (sym c.if-is_blank_line.true ∙ c.is_blank_line.ensures) c.if-scan.false

pub loop-end-preserved : goal.loop-end-preserved
loop-end-preserved c =
    at_solid _ _ _ (started (goal.at.loop-end-preserved c).After-line_start-start) (search rules) _ c.loop-end.invariant _
    (sym c.if-is_blank_line.false ∙ c.is_blank_line.ensures) c.add.ensures
