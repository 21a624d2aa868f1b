-- `signer::names_end` meets its contract. Assumes nothing.
use Rattle.std.proofs.lemmas.Result.{err_from_is_err_and}
use Rattle.signer.proofs.Laws.{word_refused, word_passed, no_less, gap_refused, gap_passed}
use Rattle.signer.proofs.names_end.Goals as goal

pub returns-in_err-w : goal.returns-in_err-w
returns-in_err-w c =
    let p = err_from_is_err_and c.from_residual-in_err-w.result c.from_residual-in_err-w.ensures.1 in
    rw (p.1, p.2) (word_refused c.loop-i.invariant.same c.loop-i-test.true c.in_err-w.ensures)

pub returns-then-s-i-ne60 : goal.returns-then-s-i-ne60
returns-then-s-i-ne60 c =
    no_less c.loop-i.invariant.same c.loop-i-test.true c.loop-i.invariant.stops c.in_ok-w.ensures c.if-w-i.true c.if-s-i-ne60.true

pub gap_end-requires-in-loop-i : goal.gap_end-requires-in-loop-i
gap_end-requires-in-loop-i c = (word_passed c.loop-i.invariant.same c.loop-i-test.true c.in_ok-w.ensures c.if-w-i.false).2

pub returns-in_err-i : goal.returns-in_err-i
returns-in_err-i c =
    let p = err_from_is_err_and c.from_residual-in_err-i.result c.from_residual-in_err-i.ensures.1 in
    rw (p.1, p.2) (gap_refused (word_passed c.loop-i.invariant.same c.loop-i-test.true c.in_ok-w.ensures c.if-w-i.false).0 c.in_err-i.ensures)

pub loop-i-preserved : goal.loop-i-preserved
loop-i-preserved c = record {
  within = c.in_ok-i.ensures.within;
  stops = c.in_ok-i.ensures.stops;
  same = gap_passed (word_passed c.loop-i.invariant.same c.loop-i-test.true c.in_ok-w.ensures c.if-w-i.false).0 c.in_ok-i.ensures;
}
