-- What the first byte up to the space tells that an LF follows: before it no summary stops, and no blank goes. Assumes nothing.
use Rattle.std.specs.Prelude.{if◌then◌else◌}
use mathlib.Core.Bool.{Bool, true, false, not, and-false, or-true, ◌&&◌, ◌||◌}
use mathlib.Core.List.{List, [], ◌∷◌}
use mathlib.Core.Path.{◌≡◌, refl, sym, ap, ◌∙◌}
use Prim.Native.Nat.compare
use Prim.Native.Nat.{ℕ, zero, suc, ◌+◌, ◌-◌, ◌≤◌, ◌<◌}
use native.Mathlib.Nat.{zero-add}
use native.Mathlib.Omega.{arith}
use borrow.Author.Tests.{eqb-true, le-leb, lt-leb}
use lib.Dec.{eqb, leb}
use lib.ListN.{length, take, drop, get_or}
use lib.Seq.{drop-drop, get_or-take, length-take-le}
use Rattle.rules.specs.Bytes.{LF, within}
use Rattle.rules.specs.Lists.{run}
use Rattle.find.specs.Find.{is_lf, until_lf}
use Rattle.summary.specs.Followed.{any_followed, followed, until_followed}
use Rattle.summary.proofs.Followed.{run_front}
use Rattle.summary.proofs.Stop.{lf_alone}

-- ---- where a summary stops

module _ (low high : ℕ) where
  -- from where the search ends, it ends at once
  found_there : (s : List ℕ) → until_followed low high (drop (until_followed low high s) s) ≡ 0
  found_there [] = refl
  found_there (c ∷ []) = refl
  found_there (c ∷ d ∷ s) = by (followed low high c d) refl (found_there (d ∷ s))
    where
      by : (b : Bool) → followed low high c d ≡ b → until_followed low high (drop (until_followed low high (d ∷ s)) (d ∷ s)) ≡ 0
          → until_followed low high (drop (if b then 0 else suc (until_followed low high (d ∷ s))) (c ∷ d ∷ s)) ≡ 0
      by true e r = rw e
      by false e r = r

-- two LFs are such a place too
one_less : (c d : ℕ) → followed 0 32 c d ≡ false → followed LF LF c d ≡ false
one_less c d e = rw (lf_alone c) (by (eqb c LF) refl)
  where
    by : (b : Bool) → eqb c LF ≡ b → (b && eqb d LF) ≡ false
    by false q = refl
    by true q = rw (eqb-true c LF q) at e

stop_behind : (s : List ℕ) → until_followed 0 32 s + until_followed LF LF (drop (until_followed 0 32 s) s) ≡ until_followed LF LF s
stop_behind [] = refl
stop_behind (c ∷ []) = refl
stop_behind (c ∷ d ∷ s) = by (followed 0 32 c d) refl (stop_behind (d ∷ s))
  where
    by : (b : Bool) → followed 0 32 c d ≡ b → until_followed 0 32 (d ∷ s) + until_followed LF LF (drop (until_followed 0 32 (d ∷ s)) (d ∷ s)) ≡ until_followed LF LF (d ∷ s)
        → (if b then 0 else suc (until_followed 0 32 (d ∷ s))) + until_followed LF LF (drop (if b then 0 else suc (until_followed 0 32 (d ∷ s))) (c ∷ d ∷ s))
        ≡ until_followed LF LF (c ∷ d ∷ s)
    by true e r = zero-add (until_followed LF LF (c ∷ d ∷ s))
    by false e r = rw (one_less c d e) (omega (arith, r))

pub stop_here : (s : List ℕ) → until_followed 0 32 (LF ∷ s) ≡ 0 → until_followed LF LF (LF ∷ s) ≡ 0
stop_here [] e = absurd (omega arith)
stop_here (d ∷ s) e = by (eqb d LF) e
  where
    by : (b : Bool) → (if b then 0 else suc (until_followed 0 32 (d ∷ s))) ≡ 0 → (if b then 0 else suc (until_followed LF LF (d ∷ s))) ≡ 0
    by true q = refl
    by false q = absurd (omega arith)

-- the two searches, one behind the other
module _ (m : List ℕ) (first blank : ℕ) (b : blank ≡ first + until_followed 0 32 (drop first m)) where
  pub blank_there : until_followed 0 32 (drop blank m) ≡ 0
  blank_there = rw (b, ← drop-drop (until_followed 0 32 (drop first m)) first m) (found_there 0 32 (drop first m))

  pub stop_from : (end : ℕ) → end ≡ blank + until_followed LF LF (drop blank m) → end ≡ first + until_followed LF LF (drop first m)
  stop_from end e =
      let n = until_followed 0 32 (drop first m) in
      let there : drop blank m ≡ drop n (drop first m) = ap (λ k. drop k m) b ∙ sym (drop-drop n first m) in
      omega (arith, rw there at e, stop_behind (drop first m))

-- ---- whether blanks go

module _ (low high : ℕ) where
  -- among the first n bytes there is one where the search ends before the last of them
  among : (n : ℕ) (s : List ℕ) → suc n ≤ length s → leb n (until_followed low high s) ≡ not (any_followed low high (take (suc n) s))
  among n [] h = absurd (omega arith)
  among zero (c ∷ s) h = le-leb 0 (until_followed low high (c ∷ s)) (omega arith)
  among (suc n) (c ∷ []) h = absurd (omega arith)
  among (suc n) (c ∷ d ∷ s) h = by (followed low high c d) (among n (d ∷ s) (omega arith))
    where
      by : (b : Bool) → leb n (until_followed low high (d ∷ s)) ≡ not (any_followed low high (d ∷ take n s))
          → leb (suc n) (if b then 0 else suc (until_followed low high (d ∷ s))) ≡ not (b || any_followed low high (d ∷ take n s))
      by true r = lt-leb (suc n) 0 (omega arith)
      by false r = rw (compare.suc-suc n (until_followed low high (d ∷ s))) r

  -- one is there
  there : (s : List ℕ) (i : ℕ) → suc i < length s → followed low high (get_or s i 0) (get_or s (suc i) 0) ≡ true → any_followed low high s ≡ true
  there [] i h e = absurd (omega arith)
  there (c ∷ []) i h e = absurd (omega arith)
  there (c ∷ d ∷ s) zero h e = rw e
  there (c ∷ d ∷ s) (suc i) h e = rw (there (d ∷ s) i (omega arith) e) (or-true (followed low high c d))

  -- up to the first LF there is none, if the byte before it is none
  up_to : (s : List ℕ) → until_lf s < length s → ((i : ℕ) → i + 1 ≡ until_lf s → within low high (get_or s i 0) ≡ false)
      → any_followed low high (take (suc (until_lf s)) s) ≡ false
  up_to [] h e = absurd (omega arith)
  up_to (c ∷ []) h e = elim (eqb c LF) as (λ b. any_followed low high (take (suc (length (if not b then c ∷ [] else []))) (c ∷ [])) ≡ false) [ true ↦ refl | false ↦ refl ]
  up_to (c ∷ d ∷ s) h e = by (eqb c LF) h e (up_to (d ∷ s))
    where
      until : ℕ
      until = until_lf (d ∷ s)

      Later : Type 0
      Later = until < length (d ∷ s) → ((i : ℕ) → i + 1 ≡ until → within low high (get_or (d ∷ s) i 0) ≡ false) → any_followed low high (take (suc until) (d ∷ s)) ≡ false

      none : (b : Bool) → eqb d LF ≡ b → (0 ≡ length (if not b then d ∷ run (λ x. not (is_lf x)) s else []) → within low high c ≡ false) → (within low high c && b) ≡ false
      none true q before = rw (before refl)
      none false q before = and-false (within low high c)

      by : (b : Bool) → length (if not b then c ∷ run (λ x. not (is_lf x)) (d ∷ s) else []) < length (c ∷ d ∷ s)
          → ((i : ℕ) → i + 1 ≡ length (if not b then c ∷ run (λ x. not (is_lf x)) (d ∷ s) else []) → within low high (get_or (c ∷ d ∷ s) i 0) ≡ false)
          → Later → any_followed low high (take (suc (length (if not b then c ∷ run (λ x. not (is_lf x)) (d ∷ s) else []))) (c ∷ d ∷ s)) ≡ false
      by true k f later = refl
      by false k f later =
          let behind = later (omega arith) (λ i q. f (suc i) (omega (arith, q))) in
          rw (behind, none (eqb d LF) refl (λ q. f 0 (omega (arith, q))))

lf_there : (s : List ℕ) → until_lf s < length s → get_or s (until_lf s) 0 ≡ LF
lf_there [] h = absurd (omega arith)
lf_there (c ∷ s) h = by (eqb c LF) refl h (lf_there s)
  where
    by : (b : Bool) → eqb c LF ≡ b → length (if not b then c ∷ run (λ x. not (is_lf x)) s else []) < suc (length s)
        → (until_lf s < length s → get_or s (until_lf s) 0 ≡ LF) → get_or (c ∷ s) (length (if not b then c ∷ run (λ x. not (is_lf x)) s else [])) 0 ≡ LF
    by true q k r = eqb-true c LF q
    by false q k r = r (omega arith)

-- ---- by the first LF, what stands before it, and the first such byte behind

module _ (m : List ℕ) (kept first : ℕ) (fits : kept ≤ length m) (e : first ≡ until_lf m) (behind : first < kept) where
  pub blank_before : (i : ℕ) → i + 1 ≡ first → get_or m i 0 ≤ 32 → any_followed 0 32 (take kept m) ≡ true
  blank_before i n h =
      let w : within 0 32 (get_or m i 0) ≡ true = rw (le-leb 0 (get_or m i 0) (omega arith), le-leb (get_or m i 0) 32 h) in
      let lf : get_or m (suc i) 0 ≡ LF = ap (λ k. get_or m k 0) (omega (arith, e)) ∙ lf_there m (omega (arith, e)) in
      there 0 32 (take kept m) i (omega (arith, length-take-le kept m fits)) (rw (get_or-take kept m i 0 (omega arith), get_or-take kept m (suc i) 0 (omega arith), w, lf))

  pub plain_is : (blank : ℕ) → blank ≡ first + until_followed 0 32 (drop first m) → ((i : ℕ) → i + 1 ≡ first → 32 < get_or m i 0)
      → leb (kept - 1) blank ≡ not (any_followed 0 32 (take kept m))
  plain_is blank b solid =
      let none : (i : ℕ) → i + 1 ≡ until_lf m → within 0 32 (get_or m i 0) ≡ false = λ i q. rw (lt-leb (get_or m i 0) 32 (solid i (q ∙ sym e))) (and-false (leb 0 (get_or m i 0))) in
      let front : any_followed 0 32 (take (suc first) m) ≡ false = rw e (up_to 0 32 m (omega (arith, e)) none) in
      let until : blank ≡ until_followed 0 32 m = b ∙ sym (run_front 0 32 first m (omega arith) front) in
      let whole : suc (kept - 1) ≡ kept = omega arith in
      rw until (among 0 32 (kept - 1) m (omega arith) ∙ rw whole)

-- a byte up to the space right before the first LF is such a byte
pub blank_first : (m : List ℕ) (kept : ℕ) → kept ≤ length m → until_lf m < kept → 0 < until_lf m → get_or m (until_lf m - 1) 0 ≤ 32
    → any_followed 0 32 (take kept m) ≡ true
blank_first m kept fits behind some h = blank_before m kept (until_lf m) fits refl behind (until_lf m - 1) (omega arith) h
