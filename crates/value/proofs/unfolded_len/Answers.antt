-- `value::unfolded_len` meets its contract. The invariant: `len` is the length of what the lines passed so far make.
-- Assumes nothing.
use mathlib.Core.List.{List}
use mathlib.Core.Path.{◌≡◌, sym, ap, ◌∙◌}
use Prim.Native.Nat.{ℕ}
use native.Mathlib.Omega.{arith}
use lib.ListN.{length}
use Rattle.rules.proofs.Unfolded.{unfolded_short}
use Rattle.value.specs.Joined.{joined_length}
use Rattle.value.proofs.Joined.{joined, length-joined}
use Rattle.value.proofs.Unfolding.{Half, half_within, half_step, half_end}
use Rattle.value.proofs.unfolded_len.Goals as goal
use Rattle.value.proofs.unfolded_len.Goals.{In-Some}

-- what the lines make with the next one
with_line : (c : In-Some) → (done : List ℕ) × (length done ≡ joined_length c.loop-line.len (length c.in-Some.line.now))
    × Half c.args.value.now c.next.new.self.rest.now done
with_line c =
    let (done, len, half) = c.loop-line.invariant in
    let piece = c.in-Some.line.now in
    (joined done piece, length-joined done piece ∙ rw len, half_step half c.in-Some.ensures.steps)

pub joined_len-len-requires : goal.joined_len-len-requires
joined_len-len-requires c =
    let (done, len, half) = with_line c in
    omega (arith, len, half_within half, unfolded_short c.args.value.now)

pub loop-line-preserved : goal.loop-line-preserved
loop-line-preserved c =
    let (done, len, half) = with_line (goal.at.loop-line-preserved c).In-Some in
    (done, len ∙ sym c.joined_len-len.ensures, half)

pub returns : goal.returns
returns c =
    let (done, len, half) = c.loop-line.invariant in
    sym len ∙ ap length (half_end half c.in-None.ensures.steps)
