-- `comment::gap_end` meets its contract: a step that is no refusal leads to where the reading goes on.
use borrow.Author.Rules.{rules}
use native.Mathlib.Omega.{arith}
use Rattle.comment.proofs.Laws.{gap_on, gap_refused}
use Rattle.comment.proofs.gap_end.Goals as goal

pub returns-in_err-next : goal.returns-in_err-next
returns-in_err-next c = search (rules, gap_refused)

pub loop-i-preserved : goal.loop-i-preserved
loop-i-preserved c =
    let o = gap_on c.loop-i.invariant.same c.loop-i.invariant.later c.loop-i-test.true c.in_ok-next.ensures in
    record { later = omega (arith, o.1); within = o.2; same = o.0 }
