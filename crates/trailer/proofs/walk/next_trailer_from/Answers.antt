-- `trailer::walk::next_trailer_from` meets its contract. The invariant: the first trailer from `start` on is the first from `at` on.
-- Assumes nothing.
use Rattle.std.specs.Prelude.{None, Some}
use mathlib.Core.Path.{◌≡◌, sym, ◌∙◌}
use Prim.Native.Nat.{◌+◌, ◌-◌, ◌≤◌, ◌<◌}
use native.Mathlib.Omega.{arith}
use lib.ListN.{length, take, drop}
use Rattle.rules.specs.Lines.{lines}
use Rattle.trailer.specs.Line.{at_start, trailer_at_start_of}
use Rattle.text.proofs.ByLines.{line_ahead}
use Rattle.trailer.proofs.AtStart.{low_there}
use Rattle.trailer.proofs.Steps.{next_skips, next_found, found_within}
use Rattle.trailer.proofs.walk.next_trailer_from.Goals as goal
use Rattle.trailer.proofs.walk.next_trailer_from.Goals.{After-line_len-start, In-Some}

-- the trailer that was found, and its places
found : (c : In-Some) → let s = c.args.body.now in
    at_start (lines (take (length s - c.loop-start.start) (drop c.loop-start.start s)))
    ≡ Some (trailer_at_start_of c.in-Some.found.token_end c.in-Some.found.value_start c.in-Some.found.first c.in-Some.found.len)
found c = sym c.trailer_at_start.ensures ∙ c.in-Some.is

places : (c : In-Some) → let s = c.args.body.now in
    let t = c.in-Some.found in
    (t.token_end < t.value_start) × (t.value_start ≤ t.first) × (t.first ≤ t.len) × (c.loop-start.start + t.len ≤ length s)
places c =
    let s = c.args.body.now in
    found_within s c.loop-start.start (omega arith) (found c)

pub overflow_add-result : goal.overflow_add-result
overflow_add-result c = omega (arith, places (goal.at.overflow_add-result c).In-Some)

pub overflow_add-result-in-Some : goal.overflow_add-result-in-Some
overflow_add-result-in-Some c = omega (arith, places (goal.at.overflow_add-result-in-Some c).In-Some)

pub overflow_add-result-in-Some-2 : goal.overflow_add-result-in-Some-2
overflow_add-result-in-Some-2 c = omega (arith, places (goal.at.overflow_add-result-in-Some-2 c).In-Some)

pub overflow_add-result-in-Some-3 : goal.overflow_add-result-in-Some-3
overflow_add-result-in-Some-3 c = omega (arith, places (goal.at.overflow_add-result-in-Some-3 c).In-Some)

pub returns-in-Some : goal.returns-in-Some
returns-in-Some c =
    let s = c.args.body.now in
    sym (c.loop-start.invariant.1 ∙ next_found s c.loop-start.start (omega arith) (found (goal.at.returns-in-Some c).In-Some))

-- no trailer begins at the line that is skipped, by its first byte or as it was read
none_there : (c : After-line_len-start) → at_start (lines (take (length c.args.body.now - c.loop-start.start) (drop c.loop-start.start c.args.body.now))) ≡ None
none_there c = grind (arith, low_there c.args.body.now c.loop-start.start)

-- a line is ahead
ahead : (c : After-line_len-start) → (0 < c.line_len-start.result) × (c.loop-start.start + c.line_len-start.result ≤ length c.args.body.now)
ahead c =
    line_ahead c.args.body.now c.loop-start.start c.line_len-start.result (omega arith) c.line_len-start.ensures

pub overflow_add-start : goal.overflow_add-start
overflow_add-start c = omega (arith, ahead c)

pub loop-start-preserved : goal.loop-start-preserved
loop-start-preserved c = (
  (ahead c).1,
  c.loop-start.invariant.1 ∙ next_skips c.args.body.now c.loop-start.start (omega arith) _ (none_there c) c.line_len-start.ensures,
)
