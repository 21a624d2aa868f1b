-- The pieces of an input one after the other, by the places of the LFs. Assumes nothing.
use Rattle.std.specs.Prelude.{if◌then◌else◌}
use mathlib.Core.Bool.{Bool, true, false, not}
use mathlib.Core.List.{List, [], ◌∷◌, ◌++◌}
use mathlib.Core.Path.{◌≡◌, refl, ap}
use Prim.Native.Nat.{ℕ, suc, ◌+◌, ◌-◌, ◌≤◌, ◌<◌}
use native.Mathlib.Omega.{arith}
use lib.Dec.{eqb}
use lib.ListN.{length, take, drop, length-append, length-drop}
use lib.Seq.{length-take-le, drop-drop}
use Rattle.rules.specs.Bytes.{LF}
use Rattle.rules.specs.Lines.{inner}
use Rattle.rules.specs.Lists.{run}
use Rattle.rules.specs.Summary.{added, ahead, folded, pieces}
use Rattle.rules.proofs.Lists.{run_past}

-- there is a piece
pub some_piece : (s : List ℕ) → (p : List ℕ) × (ps : List (List ℕ)) × (pieces s ≡ p ∷ ps)
some_piece [] = ([], [], refl)
some_piece (c ∷ s) = let (p, ps, e) = some_piece s in rw e (at (eqb c LF) p ps)
  where
    at : (b : Bool) (p : List ℕ) (ps : List (List ℕ)) → (q : List ℕ) × (qs : List (List ℕ)) × (ahead b c (p ∷ ps) ≡ q ∷ qs)
    at true p ps = ([], p ∷ ps, refl)
    at false p ps = (c ∷ p, ps, refl)

-- the first piece runs up to the first LF, and the others come behind it; or there is no LF
first_piece : (s : List ℕ) → length (run inner s) < length s →
    pieces s ≡ take (length (run inner s)) s ∷ pieces (drop (suc (length (run inner s))) s)
first_piece [] h = absurd (omega arith)
first_piece (c ∷ s) h = at (eqb c LF) h (first_piece s)
  where
    at : (b : Bool) → length (if not b then c ∷ run inner s else []) < suc (length s) →
        (length (run inner s) < length s → pieces s ≡ take (length (run inner s)) s ∷ pieces (drop (suc (length (run inner s))) s)) →
        (let n : ℕ = length (if not b then c ∷ run inner s else []) in ahead b c (pieces s) ≡ take n (c ∷ s) ∷ pieces (drop (suc n) (c ∷ s)))
    at true h r = refl
    at false h r = rw (r (omega arith))

last_piece : (s : List ℕ) → length s ≤ length (run inner s) → pieces s ≡ s ∷ []
last_piece [] h = refl
last_piece (c ∷ s) h = at (eqb c LF) h (last_piece s)
  where
    at : (b : Bool) → suc (length s) ≤ length (if not b then c ∷ run inner s else []) →
        (length s ≤ length (run inner s) → pieces s ≡ s ∷ []) → ahead b c (pieces s) ≡ (c ∷ s) ∷ []
    at true h r = absurd (omega arith)
    at false h r = rw (r (omega arith))

-- the piece of `s` from `at` to `pos`
abbrev pub piece : List ℕ → ℕ → ℕ → List ℕ
piece s at pos = take (pos - at) (drop at s)

pub piece-length : (s : List ℕ) (at pos : ℕ) → at ≤ pos → pos ≤ length s → length (piece s at pos) ≡ pos - at
piece-length s at pos h k = length-take-le (pos - at) (drop at s) (omega (arith, length-drop at s))

-- the pieces from a place on, where `pos` is the place of the first LF from there on
module _ (s : List ℕ) (at pos : ℕ) (e : pos ≡ at + length (run inner (drop at s))) where
  pub found_within : at ≤ length s → pos ≤ length s
  found_within h = omega (arith, simp length-append at (ap length (run_past inner (drop at s))), length-drop at s)

  pub piece_at : pos < length s → pieces (drop at s) ≡ piece s at pos ∷ pieces (drop (pos + 1) s)
  piece_at h =
      let n : length (run inner (drop at s)) ≡ pos - at = omega arith in
      let k : at + suc (pos - at) ≡ pos + 1 = omega arith in
      rw (n, drop-drop, k) at (first_piece (drop at s) (omega (arith, length-drop at s)))

  pub last_piece_at : length s ≤ pos → pieces (drop at s) ≡ drop at s ∷ []
  last_piece_at h = last_piece (drop at s) (omega (arith, length-drop at s))

  -- what they add up to
  pub added_at : pos < length s → added (pieces (drop at s)) ≡ folded (piece s at pos) ++ added (pieces (drop (pos + 1) s))
  added_at h = let (q, ps, o) = some_piece (drop (pos + 1) s) in rw (piece_at h, o)

  pub added_last : length s ≤ pos → added (pieces (drop at s)) ≡ drop at s
  added_last h = rw (last_piece_at h)
