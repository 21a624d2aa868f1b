-- `trailer::line::trailer_at_start` meets its contract. Assumes nothing.
use mathlib.Core.Path.{◌≡◌, sym, ◌∙◌}
use native.Mathlib.Omega.{arith}
use Rattle.rules.proofs.Parts.{rest}
use Rattle.text.proofs.Lines.{first_within}
use Rattle.trailer.specs.Line.{parsed}
use Rattle.trailer.proofs.AtStart.{length_within, no_trailer_there, trailer_there}
use Rattle.trailer.proofs.line.trailer_at_start.Goals as goal
use Rattle.trailer.proofs.line.trailer_at_start.Goals.{After-parse_trailer_line}

-- what is parsed is all of `cursor`
all_parsed : (r : After-parse_trailer_line) → r.parse_trailer_line.result ≡ parsed r.args.cursor.now
all_parsed r = rw (rest r.args.cursor.now 0) at r.parse_trailer_line.ensures

pub returns-in_err-line : goal.returns-in_err-line
returns-in_err-line c =
    let parsed = sym (all_parsed (goal.at.returns-in_err-line c).After-parse_trailer_line) in
    c.from_residual.ensures ∙ sym (no_trailer_there _ (parsed ∙ c.in_err-line.was))

pub slice_bounds-folds_len-count : goal.slice_bounds-folds_len-count
slice_bounds-folds_len-count c = omega (arith, c.line_len-first.ensures, first_within c.args.cursor.now)

pub slice_bounds-folds_len-start : goal.slice_bounds-folds_len-start
slice_bounds-folds_len-start c = omega (arith, c.line_len-first.ensures, first_within c.args.cursor.now)

pub overflow_add-len : goal.overflow_add-len
overflow_add-len c =
    omega (arith, length_within c.args.cursor.now _ _ c.line_len-first.ensures c.folds_len.ensures)

pub returns : goal.returns
returns c =
    let there = sym (all_parsed (goal.at.returns c).After-parse_trailer_line) ∙ c.in_ok-line.was in
    sym (trailer_there _ _ there c.line_len-first.ensures ∙ rw (← c.folds_len.ensures))
