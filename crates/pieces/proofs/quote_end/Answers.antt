-- `pieces::quote_end` meets its contract. Assumes nothing.
use native.Mathlib.Numerals.{add-one}
use native.Mathlib.Omega.{arith}
use Rattle.std.proofs.lemmas.Result.{err_from_is_err_and}
use Rattle.mailbox.specs.Grammar.{quote_text}
use Rattle.pieces.proofs.Laws.{quote_refused, quote_open, quote_other, quote_closes}
use Rattle.pieces.proofs.quote_end.Goals as goal

pub returns-in_err-p : goal.returns-in_err-p
returns-in_err-p c =
    let p = err_from_is_err_and c.from_residual.result c.from_residual.ensures.1 in
    rw (p.1, p.2) (quote_refused (rw (add-one c.args.at) at (c.in_err-p.ensures quote_text (λ c b l h. h))))

pub returns-then-p-s : goal.returns-then-p-s
returns-then-p-s c =
    let x = rw (add-one c.args.at) at (c.in_ok-p.ensures quote_text (λ c b l h. h)) in
    rw (← c.if-p-s.true) (quote_open c.args.at x c.if-p-s.true)

pub bounds-s-p : goal.bounds-s-p
bounds-s-p c = let x = c.in_ok-p.ensures quote_text (λ c b l h. h) in omega (arith, x.within)

pub returns-then-s-p-ne34 : goal.returns-then-s-p-ne34
returns-then-s-p-ne34 c =
    let x = rw (add-one c.args.at) at (c.in_ok-p.ensures quote_text (λ c b l h. h)) in
    quote_other c.args.at x (omega (arith, x.within)) c.if-s-p-ne34.true

pub returns : goal.returns
returns c =
    let x = rw (add-one c.args.at) at (c.in_ok-p.ensures quote_text (λ c b l h. h)) in
    quote_closes c.args.at x (omega (arith, x.within)) c.if-s-p-ne34.false
