-- `dividing::print_text` is safe: the first line's text is no longer than the lines.
use mathlib.Core.Path.{sym}
use Prim.Native.Nat.{◌≤◌}
use native.Mathlib.Omega.{arith}
use lib.ListN.{length, take}
use lib.Seq.{length-take-le}
use Rattle.rules.proofs.Lines.{text_shorter}
use Rattle.text.proofs.Lines.{first_within}
use Rattle.dividing.proofs.print_text.Goals as goal

-- the line is a front of the lines
pub slice_bounds-trim_line_ending-end : goal.slice_bounds-trim_line_ending-end
slice_bounds-trim_line_ending-end g c =
    let s = c.args.lines.now in
    let h : c.line_len-end.result ≤ length s = omega (arith, c.line_len-end.ensures, first_within s) in
    sym (length-take-le c.line_len-end.result s h)

pub slice_bounds-write_all-end : goal.slice_bounds-write_all-end
slice_bounds-write_all-end g c =
    let s = c.args.lines.now in
    let end = c.line_len-end.result in
    let l : end ≤ length s = omega (arith, c.line_len-end.ensures, first_within s) in
    let h : c.trim_line_ending-len.result.len ≤ length s =
    omega (arith, c.trim_line_ending-len.ensures, text_shorter (take end s), length-take-le end s l) in
    sym (length-take-le c.trim_line_ending-len.result.len s h)
