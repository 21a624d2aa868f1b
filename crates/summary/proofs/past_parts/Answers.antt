-- `summary::past_parts` meets its contract. The invariant: the first such byte from `i` on is the first from `at` on. Assumes nothing.
use mathlib.Core.Bool.{false}
use mathlib.Core.Path.{◌≡◌, sym, ◌∙◌}
use Prim.Native.Nat.{suc, ◌+◌, ◌-◌}
use native.Mathlib.Omega.{arith}
use lib.ListN.{take, drop}
use Rattle.summary.specs.Followed.{any_followed}
use Rattle.summary.proofs.Followed.{run_passed}
use Rattle.summary.proofs.past_parts.Goals as goal

pub loop-i-preserved : goal.loop-i-preserved
loop-i-preserved g c =
    let a = c.args in
    let s = a.s.now in
    let i = c.loop-i.i in
    let read : i + g.row.N + 1 - i ≡ suc g.row.N = omega arith in
    let none : any_followed a.low a.high (take (suc g.row.N) (drop i s)) ≡ false = rw read at (sym c.has_followed.ensures ∙ c.if-has_followed.false) in
    (omega arith, omega arith, run_passed a.low a.high s i g.row.N (omega arith) none ∙ c.loop-i.invariant.2)
