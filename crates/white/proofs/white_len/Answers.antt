-- `white::white_len` meets its contract. Assumes nothing.
use mathlib.Core.Path.{sym, ◌∙◌}
use native.Mathlib.Omega.{arith}
use Rattle.white.proofs.Forms.{form_at_fits}
use Rattle.white.proofs.Utf8.{low_found, low_passed}
use Rattle.white.proofs.white_len.Goals as goal

pub returns-then-s-lt1 : goal.returns-then-s-lt1
returns-then-s-lt1 c = omega (arith, form_at_fits c.args.s.now)

pub returns-then-is_among : goal.returns-then-is_among
returns-then-is_among c =
    let s = c.args.s.now in
    low_found s (omega arith) (omega arith) (sym c.is_among.ensures ∙ c.if-is_among.true)

pub returns : goal.returns
returns c =
    let s = c.args.s.now in
    low_passed s (omega arith) (omega arith) (sym c.is_among.ensures ∙ c.if-is_among.false)
