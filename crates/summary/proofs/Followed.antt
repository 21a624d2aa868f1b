-- Bytes that an LF directly follows, searched by runs and byte by byte. Assumes nothing.
use Rattle.std.specs.Prelude.{if◌then◌else◌}
use mathlib.Core.Bool.{Bool, true, false, and-false, not, ◌&&◌, ◌||◌}
use mathlib.Core.List.{List, [], ◌∷◌}
use mathlib.Core.Path.{◌≡◌, refl, sym, ◌∙◌}
use Prim.Native.Nat.{ℕ, zero, suc, ◌+◌, ◌≤◌, ◌<◌}
use native.Mathlib.Nat.{zero-add}
use native.Mathlib.Numerals.{add-one}
use native.Mathlib.Omega.{arith}
use lib.Dec.{eqb}
use lib.ListN.{length, take, drop, get_or, length-drop}
use lib.Seq.{drop-cons, drop-drop}
use Rattle.rules.specs.Bytes.{LF, within}
use Rattle.rules.specs.Lists.{run}
use Rattle.rules.proofs.Lists.{or_none}
use Rattle.find.specs.Find.{is_lf, until_lf}
use Rattle.summary.specs.Followed.{any_followed, followed, until_followed}

module _ (low high : ℕ) where
  -- ---- a whole run without one is passed: its last byte is only looked at as the next one

  pub run_front : (n : ℕ) (s : List ℕ) → n < length s → any_followed low high (take (suc n) s) ≡ false →
      until_followed low high s ≡ n + until_followed low high (drop n s)
  run_front zero s h e = sym (zero-add (until_followed low high s))
  run_front (suc n) [] h e = absurd (omega arith)
  run_front (suc n) (c ∷ []) h e = absurd (omega arith)
  run_front (suc n) (c ∷ d ∷ s) h e =
      let (none, behind) = or_none (followed low high c d) (any_followed low high (d ∷ take n s)) e in
      rw none (omega (arith, run_front n (d ∷ s) (omega arith) behind))

  pub run_passed : (s : List ℕ) (i n : ℕ) → i + n < length s → any_followed low high (take (suc n) (drop i s)) ≡ false →
      (i + n) + until_followed low high (drop (i + n) s) ≡ i + until_followed low high (drop i s)
  run_passed s i n h e =
      let front = run_front n (drop i s) (omega (arith, length-drop i s)) e in
      omega (arith, rw (drop-drop n i s) at front)

  -- ---- byte by byte: a byte that is there, and the one after it

  two_ahead : (s : List ℕ) (i : ℕ) → i + 1 < length s → drop i s ≡ get_or s i 0 ∷ get_or s (i + 1) 0 ∷ drop (i + 1 + 1) s
  two_ahead s i h = drop-cons s i 0 (omega arith) ∙ rw (← add-one i, drop-cons s (i + 1) 0 h, ← add-one (i + 1))

  next_ahead : (s : List ℕ) (i : ℕ) → i + 1 < length s → drop (i + 1) s ≡ get_or s (i + 1) 0 ∷ drop (i + 1 + 1) s
  next_ahead s i h = drop-cons s (i + 1) 0 h ∙ rw (← add-one (i + 1))

  pub later : (s : List ℕ) (i : ℕ) → i + 1 < length s → followed low high (get_or s i 0) (get_or s (i + 1) 0) ≡ false →
      until_followed low high (drop i s) ≡ suc (until_followed low high (drop (i + 1) s))
  later s i h e = rw (two_ahead s i h, e, next_ahead s i h)

  -- ---- after the last byte but one there is none

  pub short : (s : List ℕ) → length s ≤ 1 → (any_followed low high s ≡ false) × (until_followed low high s ≡ length s)
  short [] h = (refl, refl)
  short (c ∷ []) h = (refl, refl)
  short (c ∷ d ∷ s) h = absurd (omega arith)

  pub at_end : (s : List ℕ) (i : ℕ) → length s ≤ i + 1 → i ≤ length s →
      (any_followed low high (drop i s) ≡ false) × (i + until_followed low high (drop i s) ≡ length s)
  at_end s i h k =
      let (none, all) = short (drop i s) (omega (arith, length-drop i s)) in
      (none, omega (arith, all, length-drop i s))

  -- ---- the search ends at the end at the latest

  pub until_fits : (s : List ℕ) → until_followed low high s ≤ length s
  until_fits [] = omega arith
  until_fits (c ∷ []) = omega arith
  until_fits (c ∷ d ∷ s) = by (followed low high c d) (until_fits (d ∷ s))
    where
      by : (b : Bool) → until_followed low high (d ∷ s) ≤ suc (length s) → (if b then 0 else suc (until_followed low high (d ∷ s))) ≤ suc (suc (length s))
      by true r = omega arith
      by false r = omega arith

  pub none_behind : (c : ℕ) (s : List ℕ) → any_followed low high (c ∷ s) ≡ false → any_followed low high s ≡ false
  none_behind c [] e = refl
  none_behind c (d ∷ s) e = (or_none (followed low high c d) (any_followed low high (d ∷ s)) e).1

  -- ---- before the first LF there is none

  pub no_lf_none : (n : ℕ) (s : List ℕ) → n ≤ until_lf s → any_followed low high (take n s) ≡ false
  no_lf_none zero s h = refl
  no_lf_none (suc n) [] h = refl
  no_lf_none (suc zero) (c ∷ s) h = refl
  no_lf_none (suc (suc n)) (c ∷ []) h = refl
  no_lf_none (suc (suc n)) (c ∷ d ∷ s) h = by (eqb c LF) (eqb d LF) h (no_lf_none (suc n) (d ∷ s))
    where
      by : (b e : Bool) → suc (suc n) ≤ length (if not b then c ∷ (if not e then d ∷ run (λ x. not (is_lf x)) s else []) else []) →
          (suc n ≤ length (if not e then d ∷ run (λ x. not (is_lf x)) s else []) → any_followed low high (d ∷ take n s) ≡ false) →
          ((within low high c && e) || any_followed low high (d ∷ take n s)) ≡ false
      by true e k more = absurd (omega arith)
      by false true k more = absurd (omega arith)
      by false false k more = rw (and-false (within low high c)) (more (omega arith))
