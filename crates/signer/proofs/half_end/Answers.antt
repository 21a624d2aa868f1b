-- `signer::half_end` meets its contract: behind each part the reading is the one from its end on, or the refusal there.
use native.Mathlib.Omega.{arith}
use Rattle.std.proofs.lemmas.Result.{err_from_is_err_and}
use Rattle.signer.proofs.Laws.{half_dots, half_dots_refused, half_behind, half_second_refused, half_second, half_over, half_other, half_sign}
use Rattle.signer.proofs.half_end.Goals as goal

pub returns-in_err-end : goal.returns-in_err-end
returns-in_err-end c =
    let p = err_from_is_err_and c.from_residual-in_err-end.result c.from_residual-in_err-end.ensures.1 in
    rw (p.1, p.2) (half_dots_refused (half_dots c.in_ok-start.ensures) c.in_err-end.ensures)

pub returns-in_err-p : goal.returns-in_err-p
returns-in_err-p c =
    let p = err_from_is_err_and c.from_residual-in_err-p.result c.from_residual-in_err-p.ensures.1 in
    rw (p.1, p.2) (half_second_refused (half_behind (half_dots c.in_ok-start.ensures) c.in_ok-end.ensures) c.in_err-p.ensures)

pub returns-then-p-s : goal.returns-then-p-s
returns-then-p-s c = half_over (half_second (half_behind (half_dots c.in_ok-start.ensures) c.in_ok-end.ensures) c.in_ok-p.ensures) c.if-p-s.true

pub returns-then-s-p : goal.returns-then-s-p
returns-then-s-p c =
    let f = half_second (half_behind (half_dots c.in_ok-start.ensures) c.in_ok-end.ensures) c.in_ok-p.ensures in
    half_other f (omega (arith, c.in_ok-p.ensures.within)) c.in_ok-p.ensures.stops c.if-s-p.true

pub returns : goal.returns
returns c =
    let f = half_second (half_behind (half_dots c.in_ok-start.ensures) c.in_ok-end.ensures) c.in_ok-p.ensures in
    half_sign f c.in_ok-start.ensures c.in_ok-end.ensures (omega (arith, c.in_ok-p.ensures.within)) c.if-s-p.false
