-- `title::past_lines` meets its contract. The invariant: the first `i` bytes are in the title. Assumes nothing.
use mathlib.Core.Bool.{false}
use mathlib.Core.Path.{◌≡◌, sym, ◌∙◌}
use Prim.Native.Nat.{◌+◌, ◌-◌}
use native.Mathlib.Omega.{arith}
use lib.ListN.{take, drop, length-drop}
use Rattle.title.specs.Runs.{any_meets}
use Rattle.title.proofs.Runs.{further, run_passed}
use Rattle.title.proofs.past_lines.Goals as goal

pub loop-i-preserved : goal.loop-i-preserved
loop-i-preserved c =
    let s = c.args.message.now in
    let i = c.loop-i.i in
    let size : i + 17 - i ≡ 17 = omega arith in
    let none : any_meets (take 17 (drop i s)) ≡ false = rw size at (sym c.has_two_ends.ensures ∙ c.if-has_two_ends.false) in
    further s i 15 c.loop-i.invariant (run_passed 15 (drop i s) (omega (arith, length-drop i s)) none)
