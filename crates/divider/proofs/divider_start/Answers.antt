-- `divider::divider_start` meets its contract. The invariant: what is kept from the front on is what is passed and what is kept from
-- `at` on. Assumes nothing.
use mathlib.Core.Path.{sym, ◌∙◌}
use Prim.Native.Nat.{◌+◌, ◌≤◌, ◌<◌}
use native.Mathlib.Omega.{arith}
use lib.ListN.{length}
use Rattle.text.proofs.ByLines.{line_ahead}
use Rattle.divider.proofs.Scan.{cut_goes, cut_none, cut_stops}
use Rattle.divider.proofs.divider_start.Goals as goal
use Rattle.divider.proofs.divider_start.Goals.{After-line_len}

-- a line is ahead
ahead : (c : After-line_len) → (0 < c.line_len.result) × (c.loop-at.at + c.line_len.result ≤ length c.args.message.now)
ahead c =
    line_ahead c.args.message.now c.loop-at.at c.line_len.result (omega arith) c.line_len.ensures

pub overflow_add-end : goal.overflow_add-end
overflow_add-end c = omega (arith, ahead c)

pub slice_bounds-is_divider-end : goal.slice_bounds-is_divider-end
slice_bounds-is_divider-end c = omega (arith, ahead c)

pub returns-then-is_divider : goal.returns-then-is_divider
returns-then-is_divider c =
    let divides = sym c.is_divider.ensures ∙ c.if-is_divider.true in
    omega (arith, cut_stops c.args.message.now c.loop-at.at c.line_len.result (omega arith) c.line_len.ensures divides)

pub loop-at-preserved : goal.loop-at-preserved
loop-at-preserved c =
    let passes = sym c.is_divider.ensures ∙ c.if-is_divider.false in (
      (ahead (goal.at.loop-at-preserved c).After-line_len).1,
      omega (arith, cut_goes c.args.message.now c.loop-at.at c.line_len.result (omega arith) c.line_len.ensures passes),
    )

pub returns : goal.returns
returns c = omega (arith, cut_none c.args.message.now c.loop-at.at (omega arith))
