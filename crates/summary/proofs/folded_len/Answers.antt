-- `summary::folded_len` meets its contract. The invariant: with what the pieces from `at` on add up to, the length is that of them all.
-- Assumes nothing.
use mathlib.Core.List.{List, [], ◌∷◌}
use mathlib.Core.Path.{◌≡◌, ap}
use Prim.Native.Nat.{ℕ, ◌+◌, ◌-◌, ◌≤◌, ◌<◌}
use native.Mathlib.Omega.{arith}
use lib.ListN.{length, drop, length-append, length-drop}
use Rattle.rules.specs.Bytes.{space}
use Rattle.rules.specs.Lines.{inner}
use Rattle.rules.specs.Lists.{run}
use Rattle.rules.specs.Summary.{added, drop_blanks, folded, pieces}
use Rattle.rules.proofs.Summary.{length-drop_blanks}
use Rattle.summary.proofs.Blanks.{trimmed}
use Rattle.summary.proofs.Pieces.{piece, piece-length, found_within, added_at, added_last}
use Rattle.summary.proofs.folded_len.Goals as goal
use Rattle.summary.proofs.folded_len.Goals.{After-trim_ascii_end}

-- the piece from `at` to an LF at `pos`, of which `n` bytes stay
module _ (s : List ℕ) (at pos n : ℕ) (e : pos ≡ at + length (run inner (drop at s))) (h : pos < length s)
    (b : n ≡ length (drop_blanks (piece s at pos))) where
  within : n ≤ pos - at
  within = omega (arith, length-drop_blanks (piece s at pos), piece-length s at pos (omega arith) (omega arith))

  turn : (n + 1) + length (added (pieces (drop (pos + 1) s))) ≡ length (added (pieces (drop at s)))
  turn =
      omega (
        arith,
        ap length (added_at s at pos e h),
        length-append (folded (piece s at pos)) (added (pieces (drop (pos + 1) s))),
        length-append (drop_blanks (piece s at pos)) (space ∷ []),
      )

-- how much of the piece ahead stays
kept : (c : After-trim_ascii_end) → length c.trim_ascii_end.result.now ≡ length (drop_blanks (piece c.args.text.now c.loop-pos.at c.loop-pos.pos))
kept c = ap length (trimmed (piece c.args.text.now c.loop-pos.at c.loop-pos.pos) c.trim_ascii_end.result.now c.trim_ascii_end.ensures.value)

stays : (c : After-trim_ascii_end) → length c.trim_ascii_end.result.now ≤ c.loop-pos.pos - c.loop-pos.at
stays c = within c.args.text.now c.loop-pos.at c.loop-pos.pos (length c.trim_ascii_end.result.now) c.loop-pos.invariant.0 (omega arith) (kept c)

pub loop-pos-preserved : goal.loop-pos-preserved
loop-pos-preserved c =
    let s = c.args.text.now in
    let k = (goal.at.loop-pos-preserved c).After-trim_ascii_end in
    let n = length c.trim_ascii_end.result.now in
    let passed = turn s c.loop-pos.at c.loop-pos.pos n c.loop-pos.invariant.0 (omega arith) (kept k) in
    (c.find_lf-pos-in-loop-pos.ensures, omega arith, omega (arith, stays k), omega (arith, passed))

pub returns : goal.returns
returns c =
    let s = c.args.text.now in
    let found = c.loop-pos.invariant.0 in
    omega (
      arith,
      ap length (added_last s c.loop-pos.at c.loop-pos.pos found (omega arith)),
      length-drop c.loop-pos.at s,
      found_within s c.loop-pos.at c.loop-pos.pos found (omega arith),
    )
