-- `white::trim_end` meets its contract. The invariant: up to `end` as much is left to trim as at first. Assumes nothing.
use mathlib.Core.Path.{sym, ap, ◌∙◌}
use Prim.Native.Nat.{◌≤◌}
use native.Mathlib.Omega.{arith}
use lib.ListN.{length, take}
use lib.Seq.{length-take-le}
use Rattle.rules.proofs.White.{trim_end-length}
use Rattle.white.proofs.Scan.{form_end_fits, graphic_last, end_turn, end_stop}
use Rattle.white.proofs.trim_end.Goals as goal
use Rattle.white.proofs.trim_end.Goals.{After-white_len_last-k}

pub returns-then-is_graphic : goal.returns-then-is_graphic
returns-then-is_graphic c =
    let s = c.args.s.now in
    end_stop s c.loop-end.end (omega arith) c.loop-end.invariant.1
    (graphic_last s c.loop-end.end (omega arith) (omega arith) (sym c.is_graphic.ensures ∙ c.if-is_graphic.true))

-- the form that is found before `end` is within the input
found : (c : After-white_len_last-k) → c.white_len_last-k.result ≤ c.loop-end.end
found c =
    let s = c.args.s.now in
    let end = c.loop-end.end in
    omega (arith, form_end_fits (take end s), length-take-le end s (omega arith), c.white_len_last-k.ensures)

pub returns-then-k-eq0 : goal.returns-then-k-eq0
returns-then-k-eq0 c =
    end_stop c.args.s.now c.loop-end.end (omega arith) c.loop-end.invariant.1
    (sym c.white_len_last-k.ensures ∙ c.if-k-eq0.true)

pub overflow_sub-end-in-loop-end : goal.overflow_sub-end-in-loop-end
overflow_sub-end-in-loop-end c = found (goal.at.overflow_sub-end-in-loop-end c).After-white_len_last-k

pub loop-end-preserved : goal.loop-end-preserved
loop-end-preserved c =
    let s = c.args.s.now in
    let k = c.white_len_last-k.result in
    (omega arith, c.loop-end.invariant.1 ∙ end_turn s c.loop-end.end k (omega arith) c.white_len_last-k.ensures)

pub returns : goal.returns
returns c =
    let s = c.args.s.now in
    let end = c.loop-end.end in
    let h : end ≤ length s = omega arith in
    omega (arith, ap length c.loop-end.invariant.1, trim_end-length (take end s), length-take-le end s h)
