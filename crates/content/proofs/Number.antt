-- A number read digit by digit: what is read so far and the digits behind it make the number; 7 digits make less than ten million.
-- Assumes nothing.
use mathlib.Core.Bool.{true}
use mathlib.Core.List.{List, [], ◌∷◌}
use mathlib.Core.Path.{◌≡◌, refl, sym, ap, ◌∙◌}
use Prim.Native.Nat.{ℕ, ◌+◌, ◌-◌, ◌*◌, ◌≤◌, ◌<◌}
use native.Mathlib.Numerals.{add-one}
use native.Mathlib.Omega.{arith}
use lib.Dec.{T}
use lib.ListN.{length, drop, get_or}
use lib.Seq.{drop-cons}
use Rattle.rules.specs.Lists.{all}
use Rattle.rules.proofs.Lists.{and_left, and_right, is_true}
use Rattle.closing.specs.Contents.{digit, number_from, number_of}
use Rattle.closing.proofs.Contents.{digit_bounds, tenfold, number_grows}

-- ---- at most 7 digits

tenfold_rises : (s : List ℕ) (n m : ℕ) → n ≤ m → tenfold s n ≤ tenfold s m
tenfold_rises [] n m l = l
tenfold_rises (c ∷ s) n m l = tenfold_rises s (n * 10) (m * 10) (omega arith)

number_below : (s : List ℕ) (n m : ℕ) → T (all digit s) → n < m → number_from n s < tenfold s m
number_below [] n m a l = l
number_below (c ∷ s) n m a l =
    let (low, high) = digit_bounds c (and_left (digit c) (all digit s) a) in
    number_below s (n * 10 + (c - 48)) (m * 10) (and_right (digit c) (all digit s) a) (omega arith)

seven_tenfold : (s : List ℕ) → length s ≤ 7 → tenfold s 1 ≤ 10_000_000
seven_tenfold [] l = omega arith
seven_tenfold (a ∷ []) l = omega arith
seven_tenfold (a ∷ b ∷ []) l = omega arith
seven_tenfold (a ∷ b ∷ c ∷ []) l = omega arith
seven_tenfold (a ∷ b ∷ c ∷ d ∷ []) l = omega arith
seven_tenfold (a ∷ b ∷ c ∷ d ∷ e ∷ []) l = omega arith
seven_tenfold (a ∷ b ∷ c ∷ d ∷ e ∷ f ∷ []) l = omega arith
seven_tenfold (a ∷ b ∷ c ∷ d ∷ e ∷ f ∷ g ∷ []) l = omega arith
seven_tenfold (a ∷ b ∷ c ∷ d ∷ e ∷ f ∷ g ∷ h ∷ s) l = absurd (omega arith)

pub seven_digits : (v : List ℕ) → length v ≤ 7 → all digit v ≡ true → number_of v < 10_000_000
unfolding number_of
seven_digits v l a = omega (arith, number_below v 0 1 (rw a tt) (omega arith), seven_tenfold v l)

-- ---- digit by digit

-- `n` is what the digits before `i` make
pub record Half (v : List ℕ) (n i : ℕ) : Type 0 where
  pub within : i ≤ length v
  pub digits : all digit (drop i v) ≡ true
  pub whole : number_from n (drop i v) ≡ number_of v

pub half_start : (v : List ℕ) → all digit v ≡ true → Half v 0 0
unfolding number_of
half_start v a = record { within = omega arith; digits = a; whole = refl }

module _ {v : List ℕ} {n i : ℕ} (h : Half v n i) where
  module _ (l : i < length v) where
    next : drop i v ≡ get_or v i 0 ∷ drop (i + 1) v
    next = rw (add-one i) (drop-cons v i 0 l)

    all_next : T (all digit (get_or v i 0 ∷ drop (i + 1) v))
    all_next = let e : all digit (get_or v i 0 ∷ drop (i + 1) v) ≡ true = sym (ap (all digit) next) ∙ h.digits in rw e tt

    pub next_digit : (48 ≤ get_or v i 0) × (get_or v i 0 ≤ 57)
    next_digit = digit_bounds (get_or v i 0) (and_left (digit (get_or v i 0)) (all digit (drop (i + 1) v)) all_next)

    pub half_step : Half v (n * 10 + (get_or v i 0 - 48)) (i + 1)
    half_step = record {
      within = omega arith;
      digits = is_true (all digit (drop (i + 1) v)) (and_right (digit (get_or v i 0)) (all digit (drop (i + 1) v)) all_next);
      whole = sym (ap (number_from n) next) ∙ h.whole;
    }

    -- the number does not overflow on the way
    pub next_below : length v ≤ 7 → all digit v ≡ true → n * 10 + (get_or v i 0 - 48) < 10_000_000
    next_below s a =
        omega (arith, seven_digits v s a, half_step.whole, number_grows (n * 10 + (get_or v i 0 - 48)) (drop (i + 1) v))
