-- `signer::read_mailbox` meets its contract: behind each part the whole reading is the one from its end on, or the refusal there.
use mathlib.Core.Path.{sym, ap}
use Rattle.std.proofs.lemmas.Result.{err_from_is_err_and}
use Rattle.mailbox.specs.Answers.{answer_says}
use Rattle.signer.proofs.Laws.{names_found, names_not, half_found, half_not, after_not, more_behind, nothing_behind, error_says}
use Rattle.signer.proofs.read_mailbox.Goals as goal

pub returns-in_err-names : goal.returns-in_err-names
returns-in_err-names c =
    let p = err_from_is_err_and c.from_residual.result c.from_residual.ensures.1 in
    rw (p.1, p.2) (error_says _ _ (names_not c.in_err-names.ensures))

pub returns-in_err-local : goal.returns-in_err-local
returns-in_err-local c =
    let p = err_from_is_err_and c.from_residual-in_err-local.result c.from_residual-in_err-local.ensures.1 in
    rw (p.1, p.2) (error_says _ _ (half_not (names_found c.in_ok-names.ensures) c.in_err-local.ensures))

pub returns-in_err-domain : goal.returns-in_err-domain
returns-in_err-domain c =
    let p = err_from_is_err_and c.from_residual-in_err-domain.result c.from_residual-in_err-domain.ensures.1 in
    let f = half_found (names_found c.in_ok-names.ensures) c.in_ok-local.ensures in
    rw (p.1, p.2) (error_says _ _ (half_not f c.in_err-domain.ensures))

pub returns-in_err-end : goal.returns-in_err-end
returns-in_err-end c =
    let p = err_from_is_err_and c.from_residual-in_err-end.result c.from_residual-in_err-end.ensures.1 in
    let f = half_found (names_found c.in_ok-names.ensures) c.in_ok-local.ensures in
    rw (p.1, p.2) (error_says _ _ (after_not (half_found f c.in_ok-domain.ensures) c.in_err-end.ensures))

pub returns-then-end-value : goal.returns-then-end-value
returns-then-end-value c =
    let f = half_found (names_found c.in_ok-names.ensures) c.in_ok-local.ensures in
    sym (ap answer_says (more_behind (half_found f c.in_ok-domain.ensures) c.in_ok-end.ensures c.if-end-value.true))

pub returns : goal.returns
returns c =
    let f = half_found (names_found c.in_ok-names.ensures) c.in_ok-local.ensures in
    sym (ap answer_says (nothing_behind (half_found f c.in_ok-domain.ensures) c.in_ok-end.ensures c.if-end-value.false))
