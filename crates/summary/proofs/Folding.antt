-- A buffer to which the pieces before a place are written, folded: with the others it is as promised, and each piece that is written
-- leaves it so.
use mathlib.Core.List.{List, ◌++◌}
use mathlib.Core.Path.{◌≡◌, sym, ap, ◌∙◌}
use Prim.Native.Nat.{ℕ, ◌+◌, ◌≤◌, ◌<◌}
use native.Mathlib.Omega.{arith}
use lib.ListN.{length, drop, length-append}
use Rattle.rules.specs.Lines.{inner}
use Rattle.rules.specs.Lists.{run}
use Rattle.rules.specs.Summary.{added, folded, pieces}
use Rattle.copy.specs.Onto.{onto}
use Rattle.copy.proofs.Onto.{onto-append}
use Rattle.summary.proofs.Pieces.{piece, added_at}

-- `out` with the pieces before `at` written, `len` bytes: with the others it is as promised
pub record Begun (text out₀ out : List ℕ) (len at : ℕ) : Type 0 where
  pub size : len + length (added (pieces (drop at text))) ≡ length (added (pieces text))
  pub promised : onto len (added (pieces (drop at text))) out ≡ added (pieces text) ++ drop (length (added (pieces text))) out₀

-- the piece from `at` to an LF at `pos` is written
module _ (s out₀ out : List ℕ) (len at pos : ℕ) (e : pos ≡ at + length (run inner (drop at s))) (h : pos < length s)
    (b : Begun s out₀ out len at) (fits : length (added (pieces s)) ≤ length out) where
  pub room : len + length (folded (piece s at pos)) + length (added (pieces (drop (pos + 1) s))) ≡ length (added (pieces s))
  room = omega (arith, b.size, ap length (added_at s at pos e h), length-append (folded (piece s at pos)) (added (pieces (drop (pos + 1) s))))

  pub turn : Begun s out₀ (onto len (folded (piece s at pos)) out) (len + length (folded (piece s at pos))) (pos + 1)
  turn =
      let both = onto-append len (folded (piece s at pos)) (added (pieces (drop (pos + 1) s))) out (omega (arith, room)) in
      let w = ap (λ (v : List ℕ). onto len v out) (added_at s at pos e h) in
      record { size = room; promised = sym both ∙ sym w ∙ b.promised }
