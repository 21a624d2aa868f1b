-- `fields::sole::next_kept` meets its contract. The invariant: the lines before `from` trim to nothing. Assumes nothing.
use Prim.Native.Nat.{◌+◌, ◌≤◌, ◌<◌}
use native.Mathlib.Omega.{arith}
use lib.ListN.{length}
use Rattle.text.proofs.ByLines.{line_ahead}
use Rattle.fields.proofs.Kept.{kept_within, kept_here, passed_step}
use Rattle.fields.proofs.sole.next_kept.Goals as goal
use Rattle.fields.proofs.sole.next_kept.Goals.{After-line_len, After-trim-kept}

-- a line is ahead
ahead : (c : After-line_len) → (0 < c.line_len.result) × (c.loop-from.from + c.line_len.result ≤ length c.args.value.now)
ahead c =
    line_ahead c.args.value.now c.loop-from.from c.line_len.result (omega arith) c.line_len.ensures

pub overflow_add-next : goal.overflow_add-next
overflow_add-next c = omega (arith, ahead c)

pub slice_bounds-trim-end : goal.slice_bounds-trim-end
slice_bounds-trim-end c = omega (arith, ahead c)

-- what is kept is inside the line
kept-inside : (c : After-trim-kept) → (c.trim-kept.result.start ≤ c.trim-kept.result.end) × (c.loop-from.from + c.trim-kept.result.end ≤ c.loop-from.from + c.line_len.result)
kept-inside c = (
  omega (arith, c.trim-kept.ensures),
  kept_within c.loop-from.invariant c.line_len.result (omega arith) c.line_len.ensures c.trim-kept.ensures,
)

pub overflow_add-start : goal.overflow_add-start
overflow_add-start c =
    omega (arith, kept-inside (goal.at.overflow_add-start c).After-trim-kept, ahead (goal.at.overflow_add-start c).After-line_len)

pub overflow_add-end : goal.overflow_add-end
overflow_add-end c =
    omega (arith, kept-inside (goal.at.overflow_add-end c).After-trim-kept, ahead (goal.at.overflow_add-end c).After-line_len)

pub returns-then-kept : goal.returns-then-kept
returns-then-kept c =
    kept_here c.loop-from.invariant c.line_len.result (omega arith) c.line_len.ensures c.trim-kept.ensures c.if-kept.true

pub loop-from-preserved : goal.loop-from-preserved
loop-from-preserved c =
    passed_step c.loop-from.invariant c.line_len.result (omega arith) c.line_len.ensures c.trim-kept.ensures c.if-kept.false
