-- `summary::find_followed` meets its contract. The invariant: the first such byte from `i` on is the first from `at` on. Assumes nothing.
use native.Mathlib.Omega.{arith}
use Rattle.summary.proofs.Followed.{at_end}
use Rattle.summary.proofs.find_followed.Goals as goal

pub returns : goal.returns
returns c =
    let a = c.args in
    omega (arith, c.loop-i.invariant.1, at_end a.low a.high a.s.now c.loop-i.i (omega arith) (omega arith))
