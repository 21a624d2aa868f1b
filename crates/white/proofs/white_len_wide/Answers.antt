-- `white::white_len_wide` meets its contract. Assumes nothing.
use mathlib.Core.Path.{sym, ◌∙◌}
use borrow.Author.Rules.{rules}
use Rattle.white.proofs.Utf8.{found, none_passed, passed, wide_part}
use Rattle.white.proofs.white_len_wide.Goals as goal

pub returns-in_default : goal.returns-in_default
returns-in_default c = none_passed c.args.s.now c.in_default.ensures

pub returns-then-is_among : goal.returns-then-is_among
returns-then-is_among c =
    let s = c.args.s.now in
    let p = c.in-Some.point in
    found s p c.in-Some.ensures (sym (wide_part s p (search rules) c.in-Some.ensures) ∙ sym c.is_among.ensures ∙ c.if-is_among.true)

pub returns : goal.returns
returns c =
    let s = c.args.s.now in
    let p = c.in-Some.point in
    passed s p c.in-Some.ensures (sym (wide_part s p (search rules) c.in-Some.ensures) ∙ sym c.is_among.ensures ∙ c.if-is_among.false)
