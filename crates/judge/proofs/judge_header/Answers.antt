-- `judge::judge_header` meets its contract. Assumes nothing.
use mathlib.Core.Path.{ap, subst, ◌∙◌}
use Prim.Native.Nat.{ℕ, ◌-◌}
use native.Mathlib.Omega.{arith}
use Rattle.judge.specs.Scan.{LineTurn}
use Rattle.judge.proofs.Turns.{Followed, scan_next, scan_good, scan_fault, scan_over}
use Rattle.judge.proofs.judge_header.Goals as goal
use Rattle.judge.proofs.judge_header.Goals.{After-follow-line}

-- so much is seen of the line asked for, once the line at `at` is looked at
seen : (g : After-follow-line) → Followed g.args.number g.loop-at.lines g.loop-at.at g.loop-at.line g.follow-line.result
seen g = record { start_is = g.follow-line.ensures.0; end_is = g.follow-line.ensures.1 }

pub returns-in_default : goal.returns-in_default
returns-in_default c =
    let l = c.loop-at in
    let a = c.args in
    scan_fault a.content.now a.number l.at l.lines l.phase c.saturating_sub.result l.line l.invariant (omega arith)
    (subst (LineTurn a.content.now l.at l.phase) c.in_default.is c.line_turn.ensures)
    (c.saturating_sub.ensures ∙ ap (λ (z : ℕ). z - 1) c.count_line-counted.ensures)

pub returns-in-End : goal.returns-in-End
returns-in-End c =
    let l = c.loop-at in
    let a = c.args in
    let t = c.in-Some.turned in
    scan_good a.content.now a.number l.at l.lines l.phase l.line c.follow-line.result t l.invariant (omega arith)
    (subst (LineTurn a.content.now l.at l.phase) c.in-Some.is c.line_turn.ensures)
    (seen (goal.at.returns-in-End c).After-follow-line) c.in-End.is

pub loop-at-preserved : goal.loop-at-preserved
loop-at-preserved c =
    let l = c.loop-at in
    let a = c.args in
    let t = c.in-Some.turned in
    scan_next a.content.now a.number l.at l.lines l.phase c.in-To.next c.count_line-counted.result l.line c.follow-line.result t l.invariant (omega arith)
    (subst (LineTurn a.content.now l.at l.phase) c.in-Some.is c.line_turn.ensures)
    (seen (goal.at.loop-at-preserved c).After-follow-line) c.count_line-counted.ensures c.in-To.is

pub returns : goal.returns
returns c =
    let l = c.loop-at in
    let a = c.args in
    scan_over a.content.now a.number l.at l.lines l.phase l.line l.invariant c.loop-at-test.false
