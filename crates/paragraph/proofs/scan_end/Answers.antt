-- `paragraph::scan_end` meets its contract. Assumes nothing.
use Prim.Native.Nat.{◌+◌}
use borrow.Author.Rules.{rules}
use Rattle.paragraph.specs.Solid.{BlankFrom}
use Rattle.paragraph.proofs.Blanks.{blank_below}
use Rattle.paragraph.proofs.scan_end.Goals as goal
use Rattle.paragraph.proofs.scan_end.Goals.{After-line_len}

-- behind the line of the last byte that is not blank
below : (c : After-line_len) → BlankFrom c.args.body.now (c.solid_len-solid.result + c.line_len.result)
below c =
    blank_below _ c.solid_len-solid.result c.line_len.result c.solid_len-solid.ensures.1 c.solid_len-solid.ensures.0 c.line_len.ensures

pub overflow_add-result : goal.overflow_add-result
overflow_add-result c = let b = below c in search rules

pub returns : goal.returns
returns c = below c
