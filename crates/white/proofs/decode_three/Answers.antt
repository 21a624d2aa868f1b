-- `white::decode_three` meets its contract. Assumes nothing.
use mathlib.Core.Path.{sym, ◌∙◌}
use native.Mathlib.Omega.{arith}
use lib.ListN.{get_or}
use Rattle.white.proofs.Utf8.{carries_none, carries_some, no_three, three_read}
use Rattle.white.proofs.decode_three.Goals as goal
use Rattle.white.proofs.decode_three.Goals.{then-s-lt3-via-then-s-lt3, then-s-lt3-via-else-s-lt3+then-s-gt239}

pub returns-then-s-lt3 : goal.returns-then-s-lt3
returns-then-s-lt3 c =
    no_three c.args.s.now (omega arith) (λ l a t u o. elim c.then-s-lt3.branch [
      | then-s-lt3-via-then-s-lt3 w ↦ omega arith
      | then-s-lt3-via-else-s-lt3+then-s-gt239 w ↦ omega arith
    ])

pub returns-in_err-b : goal.returns-in_err-b
returns-in_err-b c =
    rw c.from_residual.ensures
    (no_three c.args.s.now (omega arith) (λ l a t u o. carries_none _ (sym c.carried.ensures ∙ c.in_err-b.was) t.0 t.1))

pub returns-in_err-c : goal.returns-in_err-c
returns-in_err-c c =
    rw c.from_residual-in_err-c.ensures
    (no_three c.args.s.now (omega arith) (λ l a t u o. carries_none _ (sym c.carried-2.ensures ∙ c.in_err-c.was) u.0 u.1))

pub returns-then-code-lt2048 : goal.returns-then-code-lt2048
returns-then-code-lt2048 c =
    let s = c.args.s.now in
    let b = carries_some (get_or s 1 0) c.in_ok-b.b (sym c.carried.ensures ∙ c.in_ok-b.was) in
    let d = carries_some (get_or s 2 0) c.in_ok-c.c (sym c.carried-2.ensures ∙ c.in_ok-c.was) in
    no_three s (omega arith) (λ l a t u o. omega arith)

pub returns : goal.returns
returns c =
    three_read c.args.s.now c.in_ok-b.b c.in_ok-c.c _ (omega arith) (omega arith) (omega arith) (sym c.carried.ensures ∙ c.in_ok-b.was)
    (sym c.carried-2.ensures ∙ c.in_ok-c.was) (omega arith) (omega arith)
