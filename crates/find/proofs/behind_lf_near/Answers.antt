-- `find::behind_lf_near` meets its contract. The invariant: a search back from `i` finds what one from `end` finds. Assumes nothing.
use native.Mathlib.Omega.{arith}
use Rattle.find.proofs.Runs.{met, none, passed}
use Rattle.find.proofs.behind_lf_near.Goals as goal

pub returns-then-s-i-eq10 : goal.returns-then-s-i-eq10
returns-then-s-i-eq10 c = omega (arith, met c.args.s.now c.loop-i.i c.loop-i-test.true c.if-s-i-eq10.true, c.loop-i.invariant)

pub loop-i-preserved : goal.loop-i-preserved
loop-i-preserved c = omega (arith, passed c.args.s.now c.loop-i.i c.loop-i-test.true c.if-s-i-eq10.false, c.loop-i.invariant)

pub returns : goal.returns
returns c = omega (arith, none c.args.s.now c.loop-i.i c.loop-i-test.false, c.loop-i.invariant)
