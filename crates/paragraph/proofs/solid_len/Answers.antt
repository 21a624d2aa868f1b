-- `paragraph::solid_len` meets its contract. Invariant: all behind `len` is blank. Assumes nothing.
use mathlib.Core.Bool.{true}
use mathlib.Core.Path.{sym, ◌∙◌}
use Prim.Native.Nat.{◌≤◌, ◌-◌}
use native.Mathlib.Omega.{arith}
use borrow.Author.Rules.{rules}
use lib.ListN.{length}
use Rattle.paragraph.proofs.Ends.{back_one, back_part}
use Rattle.paragraph.proofs.solid_len.Goals as goal

-- the byte before `len` is blank, and so are the runs before it
pub loop-len-preserved-then-body-len-eq-NEAR : goal.loop-len-preserved-then-body-len-eq-NEAR
loop-len-preserved-then-body-len-eq-NEAR c =
    let body = c.args.body.now in
    let len = c.loop-len.len in
    let here = sym c.is_ascii_whitespace.ensures ∙ c.if-not-is_ascii_whitespace.false in
    let fits : len - 1 ≤ length body = omega arith in
    let blank = back_one body len (search rules) c.loop-len.invariant.0 true here c.loop-len.invariant.1 in
    let runs = back_part body (len - 1) c.before_blanks-len.result fits blank c.before_blanks-len.ensures.blank_after in
    (omega (arith, runs.0, fits), runs.1)
