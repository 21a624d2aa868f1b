-- `block::trailers_len` meets its contract. The invariant: the trailers from the front on are what is passed and the trailers
-- from `len` on. Assumes nothing.
use mathlib.Core.Path.{◌≡◌, sym, ◌∙◌}
use Prim.Native.Nat.{◌+◌, ◌≤◌, ◌<◌}
use native.Mathlib.Omega.{arith}
use lib.ListN.{length, drop}
use Rattle.block.specs.Step.{part_length}
use Rattle.block.proofs.Step.{part_ends, part_trailer, trailer_within}
use Rattle.block.proofs.trailers_len.Goals as goal
use Rattle.block.proofs.trailers_len.Goals.{In-Some}

-- a trailer is ahead
ahead : (c : In-Some) → let s = c.args.cursor.now in let n = c.in-Some.trailer.len in
    (0 < n) × (c.loop-trailer.len + n ≤ length s) × (part_length (drop c.loop-trailer.len s) ≡ n + part_length (drop (c.loop-trailer.len + n) s))
ahead c =
    let s = c.args.cursor.now in
    let found = sym c.trailer_at_start.ensures ∙ c.in-Some.is in
    let (some, fits) = trailer_within s c.loop-trailer.len (omega arith) found in
    (some, fits, part_trailer s c.loop-trailer.len found)

pub overflow_add-len : goal.overflow_add-len
overflow_add-len c = omega (arith, ahead (goal.at.overflow_add-len c).In-Some)

pub loop-trailer-smaller : goal.loop-trailer-smaller
loop-trailer-smaller c = omega (arith, ahead (goal.at.loop-trailer-smaller c).In-Some)

pub loop-trailer-preserved : goal.loop-trailer-preserved
loop-trailer-preserved c = omega (arith, ahead (goal.at.loop-trailer-preserved c).In-Some)

pub returns : goal.returns
returns c =
    let none = sym c.trailer_at_start.ensures ∙ c.in_default.is in
    omega (arith, part_ends c.args.cursor.now c.loop-trailer.len none)
