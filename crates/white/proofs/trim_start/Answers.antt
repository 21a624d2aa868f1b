-- `white::trim_start` meets its contract. The invariant: from `at` on as much is left to trim as at first. Assumes nothing.
use mathlib.Core.Path.{◌≡◌, sym, ◌∙◌}
use Prim.Native.Nat.{◌+◌, ◌≤◌}
use native.Mathlib.Omega.{arith}
use lib.ListN.{length, drop, length-drop}
use Rattle.rules.specs.White.{form_at}
use Rattle.white.proofs.Forms.{form_at_fits}
use Rattle.rules.proofs.Parts.{rest}
use Rattle.white.proofs.Scan.{graphic_front, start_turn, start_stop}
use Rattle.white.proofs.trim_start.Goals as goal
use Rattle.white.proofs.trim_start.Goals.{After-white_len-k}

pub returns-then-is_graphic : goal.returns-then-is_graphic
returns-then-is_graphic c =
    let s = c.args.s.now in
    start_stop s c.loop-at.at (omega arith) c.loop-at.invariant.1
    (graphic_front s c.loop-at.at (omega arith) (sym c.is_graphic.ensures ∙ c.if-is_graphic.true))

-- the form that is found at `at`, within the input
found : (c : After-white_len-k) → let at = c.loop-at.at in
    (c.white_len-k.result ≡ form_at (drop at c.args.s.now)) × (at + c.white_len-k.result ≤ length c.args.s.now)
found c =
    let s = c.args.s.now in
    let at = c.loop-at.at in
    let k : c.white_len-k.result ≡ form_at (drop at s) = rw rest at c.white_len-k.ensures in
    (k, omega (arith, form_at_fits (drop at s), length-drop at s))

pub returns-then-k-eq0 : goal.returns-then-k-eq0
returns-then-k-eq0 c =
    start_stop c.args.s.now c.loop-at.at (omega arith) c.loop-at.invariant.1
    (sym (found (goal.at.returns-then-k-eq0 c).After-white_len-k).0 ∙ c.if-k-eq0.true)

pub overflow_add-at : goal.overflow_add-at
overflow_add-at c = omega (arith, (found (goal.at.overflow_add-at c).After-white_len-k).1)

pub loop-at-preserved : goal.loop-at-preserved
loop-at-preserved c =
    let s = c.args.s.now in
    let e = found (goal.at.loop-at-preserved c).After-white_len-k in
    (e.1, c.loop-at.invariant.1 ∙ start_turn s c.loop-at.at c.white_len-k.result e.0)

pub returns : goal.returns
returns c =
    let s = c.args.s.now in
    let at = c.loop-at.at in
    start_stop s at (omega arith) c.loop-at.invariant.1 (omega (arith, form_at_fits (drop at s), length-drop at s))
