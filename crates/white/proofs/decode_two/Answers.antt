-- `white::decode_two` meets its contract. Assumes nothing.
use mathlib.Core.Path.{sym, ◌∙◌}
use native.Mathlib.Omega.{arith}
use Rattle.white.proofs.Utf8.{carries_none, no_two, two_read}
use Rattle.white.proofs.decode_two.Goals as goal
use Rattle.white.proofs.decode_two.Goals.{then-s-lt2-via-then-s-lt2, then-s-lt2-via-else-s-lt2+then-s-lt194}

pub returns-then-s-lt2 : goal.returns-then-s-lt2
returns-then-s-lt2 c =
    no_two c.args.s.now (omega arith) (omega arith) (λ l a t. elim c.then-s-lt2.branch [
      | then-s-lt2-via-then-s-lt2 w ↦ omega arith
      | then-s-lt2-via-else-s-lt2+then-s-lt194 w ↦ omega arith
    ])

pub returns-in_err-b : goal.returns-in_err-b
returns-in_err-b c =
    rw c.from_residual.ensures
    (no_two c.args.s.now (omega arith) (omega arith) (λ l a t. carries_none _ (sym c.carried.ensures ∙ c.in_err-b.was) t.0 t.1))

pub returns : goal.returns
returns c =
    two_read c.args.s.now c.in_ok-b.b _ (omega arith) (omega arith) (omega arith) (sym c.carried.ensures ∙ c.in_ok-b.was) (omega arith)
