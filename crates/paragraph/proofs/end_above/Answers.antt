-- `paragraph::end_above` meets its contract. Assumes nothing.
use mathlib.Core.Path.{refl, sym, ◌∙◌}
use borrow.Author.Rules.{rules}
use lib.Seq.{length-take-le}
use Rattle.paragraph.proofs.Upward.{end_above_is, start_le}
use Rattle.paragraph.proofs.end_above.Goals as goal

pub slice_bounds-trim_line_ending-end : goal.slice_bounds-trim_line_ending-end
slice_bounds-trim_line_ending-end c =
    let k = start_le _ _ _ c.line_start-blank.ensures in
    sym (length-take-le _ _ (search rules))

pub returns : goal.returns
returns c =
    let k = start_le _ _ _ c.line_start-blank.ensures in
    c.trim_line_ending.ensures.0
    ∙ end_above_is _ _ _ refl (search rules) _ c.line_start-blank.ensures (search rules)
