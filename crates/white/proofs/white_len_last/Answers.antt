-- `white::white_len_last` meets its contract. Assumes nothing.
use mathlib.Core.Path.{sym, ◌∙◌}
use native.Mathlib.Omega.{arith}
use Rattle.white.specs.White.{form_end}
use Rattle.rules.proofs.Parts.{rest}
use Rattle.white.proofs.Scan.{form_end_fits, high_last, low_last}
use Rattle.white.proofs.white_len_last.Goals as goal

pub returns-then-n-lt1 : goal.returns-then-n-lt1
returns-then-n-lt1 c = omega (arith, form_end_fits c.args.s.now)

pub returns-then-s-n-lt128 : goal.returns-then-s-n-lt128
returns-then-s-n-lt128 c = rw (c.white_len.ensures, rest) (sym (low_last c.args.s.now (omega arith) (omega arith)))

pub returns-then-is_white_last : goal.returns-then-is_white_last
unfolding form_end
returns-then-is_white_last c =
    rw (
      high_last c.args.s.now (omega arith),
      sym c.is_white_last.ensures ∙ c.if-is_white_last.true,
    )

pub returns-then-is_white_last-2 : goal.returns-then-is_white_last-2
unfolding form_end
returns-then-is_white_last-2 c =
    rw (
      high_last c.args.s.now (omega arith),
      sym c.is_white_last.ensures ∙ c.if-is_white_last.false,
      sym c.is_white_last-2.ensures ∙ c.if-is_white_last-2.true,
    )

pub returns : goal.returns
unfolding form_end
returns c =
    rw (
      high_last c.args.s.now (omega arith),
      sym c.is_white_last.ensures ∙ c.if-is_white_last.false,
      sym c.is_white_last-2.ensures ∙ c.if-is_white_last-2.false,
    )
