-- `explaining::print_line` is safe: a line's text is no longer than the line.
use mathlib.Core.Path.{sym}
use native.Mathlib.Omega.{arith}
use lib.Seq.{length-take-le}
use Rattle.rules.proofs.Lines.{text_shorter}
use Rattle.explaining.proofs.print_line.Goals as goal

pub slice_bounds-write_all-end : goal.slice_bounds-write_all-end
slice_bounds-write_all-end g c =
    let l = c.args.line.now in
    sym (length-take-le c.trim_line_ending-text.result.len l (omega (arith, c.trim_line_ending-text.ensures, text_shorter l)))
