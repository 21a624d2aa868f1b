-- `comment::comment_end` meets its contract: behind a text, what is read from `at` on is what is read from the text's end on.
use native.Mathlib.Omega.{arith}
use Rattle.std.proofs.lemmas.Result.{err_from_is_err_and}
use Rattle.mailbox.specs.Grammar.{comment_text}
use Rattle.comment.proofs.Laws.{text_refused, no_bracket, bracket, other, too_deep, inner_refused, inner_passed}
use Rattle.comment.proofs.+comment_end.Goals as goal

pub returns-in_err-p : goal.returns-in_err-p
returns-in_err-p t c =
    let p = err_from_is_err_and c.from_residual.result c.from_residual.ensures.1 in
    rw (p.1, p.2) (text_refused c.loop-i.invariant.same c.loop-i.invariant.later (c.in_err-p.ensures comment_text (λ c b l h. h)))

pub returns-then-p-s : goal.returns-then-p-s
returns-then-p-s t c =
    no_bracket c.loop-i.invariant.same c.loop-i.invariant.later (c.in_ok-p.ensures comment_text (λ c b l h. h)) c.if-p-s.true

pub bounds-s-p : goal.bounds-s-p
bounds-s-p t c = let x = c.in_ok-p.ensures comment_text (λ c b l h. h) in omega (arith, x.within)

pub returns-then-s-p-eq41 : goal.returns-then-s-p-eq41
returns-then-s-p-eq41 t c =
    let x = c.in_ok-p.ensures comment_text (λ c b l h. h) in
    bracket c.loop-i.invariant.same c.loop-i.invariant.later x (omega (arith, x.within)) c.if-s-p-eq41.true

pub bounds-s-p-in-loop-i : goal.bounds-s-p-in-loop-i
bounds-s-p-in-loop-i t c = let x = c.in_ok-p.ensures comment_text (λ c b l h. h) in omega (arith, x.within)

pub returns-then-s-p-ne40 : goal.returns-then-s-p-ne40
returns-then-s-p-ne40 t c =
    let x = c.in_ok-p.ensures comment_text (λ c b l h. h) in
    other c.loop-i.invariant.same c.loop-i.invariant.later x (omega (arith, x.within)) c.if-s-p-eq41.false c.if-s-p-ne40.true

pub returns-then-allowed-eq0 : goal.returns-then-allowed-eq0
returns-then-allowed-eq0 t c =
    let x = c.in_ok-p.ensures comment_text (λ c b l h. h) in
    too_deep c.loop-i.invariant.same c.loop-i.invariant.later x (omega (arith, x.within)) c.if-s-p-ne40.false c.if-allowed-eq0.true

pub returns-in_err-i : goal.returns-in_err-i
returns-in_err-i t c =
    let x = c.in_ok-p.ensures comment_text (λ c b l h. h) in
    let p = err_from_is_err_and c.from_residual-in_err-i.result c.from_residual-in_err-i.ensures.1 in
    rw (p.1, p.2) (inner_refused c.loop-i.invariant.same c.loop-i.invariant.later x (omega (arith, x.within)) c.if-s-p-ne40.false c.if-allowed-eq0.false c.in_err-i.ensures)

pub loop-i-smaller : goal.loop-i-smaller
loop-i-smaller t c =
    let x = c.in_ok-p.ensures comment_text (λ c b l h. h) in
    omega (arith, x.later, c.in_ok-i.ensures.later, c.in_ok-i.ensures.within)

pub loop-i-preserved : goal.loop-i-preserved
loop-i-preserved t c =
    let x = c.in_ok-p.ensures comment_text (λ c b l h. h) in
    record {
      later = omega (arith, x.later, c.in_ok-i.ensures.later);
      within = c.in_ok-i.ensures.within;
      same = inner_passed c.loop-i.invariant.same c.loop-i.invariant.later x (omega (arith, x.within)) c.if-s-p-ne40.false c.if-allowed-eq0.false c.in_ok-i.ensures;
    }
