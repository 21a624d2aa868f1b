-- The tests say what the definitions say (good_is, is_good); a decimal has one number and a number one decimal. Assumes nothing.
use mathlib.Core.Bool.{true, false, ◌&&◌}
use mathlib.Core.List.{List, [], ◌∷◌, ◌++◌, append_assoc, append-nil}
use mathlib.Core.Logic.{inl, inr}
use mathlib.Core.Path.{◌≡◌, refl, ap}
use Prim.Native.Nat.{ℕ, ◌+◌, ◌-◌, ◌*◌, ◌≤◌, ◌<◌}
use native.Mathlib.Omega.{arith}
use lib.Dec.{T, T_not, not_T, eqb, eqb→eq, leb, leb→le, le→leb}
use lib.ListN.{length}
use Rattle.rules.specs.Bytes.{within}
use Rattle.rules.specs.Lists.{All, all, equal, filled}
use Rattle.rules.proofs.White.{equal_self}
use Rattle.rules.proofs.Lists.{and_both, and_left, and_right, is_true, or_cases, or_left, or_right, equal_is, filled-append}
use Rattle.closing.specs.Contents.{digit, Decimal, one, more, state_word, most_records, Good, number_from, number_of, no_needless_zero, decimal, good_vehicle, good_records, good_state, good}
use Rattle.closing.specs.declared.Field.{Field}

-- ---- digits and numbers

pub digit_bounds : (c : ℕ) → T (digit c) → (48 ≤ c) × (c ≤ 57)
unfolding digit
digit_bounds c t = (leb→le 48 c (and_left (leb 48 c) (leb c 57) t), leb→le c 57 (and_right (leb 48 c) (leb c 57) t))

pub number_behind : (n : ℕ) (s : List ℕ) (c : ℕ) → number_from n (s ++ c ∷ []) ≡ number_from n s * 10 + (c - 48)
number_behind n [] c = refl
number_behind n (d ∷ s) c = number_behind (n * 10 + (d - 48)) s c

pub number_grows : (n : ℕ) (s : List ℕ) → n ≤ number_from n s
number_grows n [] = omega arith
number_grows n (c ∷ s) = omega (arith, number_grows (n * 10 + (c - 48)) s)

all_behind : (s : List ℕ) (c : ℕ) → T (all digit s) → T (digit c) → T (all digit (s ++ c ∷ []))
all_behind [] c a t = and_both (digit c) true t tt
all_behind (d ∷ s) c a t =
    and_both (digit d) (all digit (s ++ c ∷ [])) (and_left (digit d) (all digit s) a) (all_behind s c (and_right (digit d) (all digit s) a) t)

-- ---- a decimal passes the test and has its number; what passes is one

-- 0 alone, or no 0 in front
zero_behind : (s : List ℕ) (c : ℕ) → T (filled s) → 0 < number_of s → T (no_needless_zero s) → T (no_needless_zero (s ++ c ∷ []))
unfolding number_of
zero_behind [] c f p z = tt
zero_behind (x ∷ []) c f p z = not_T (eqb x 48) (λ e. omega (arith, eqb→eq x 48 e))
zero_behind (x ∷ y ∷ s) c f p z = z

-- the test's three parts
pub record DecimalTest (v : List ℕ) : Type 0 where
  pub has_digits : T (filled v)
  pub all_digits : T (all digit v)
  pub without_needless_zero : T (no_needless_zero v)

pub test_parts : (v : List ℕ) → T (decimal v) → DecimalTest v
test_parts v t =
    let l : T (filled v && all digit v) = and_left (filled v && all digit v) (no_needless_zero v) t in
    record {
      has_digits = and_left (filled v) (all digit v) l;
      all_digits = and_right (filled v) (all digit v) l;
      without_needless_zero = and_right (filled v && all digit v) (no_needless_zero v) t;
    }

pub parts_test : (v : List ℕ) → DecimalTest v → T (decimal v)
parts_test v p =
    and_both (filled v && all digit v) (no_needless_zero v) (and_both (filled v) (all digit v) p.has_digits p.all_digits) p.without_needless_zero

tested : {v : List ℕ} {n : ℕ} → Decimal v n → DecimalTest v × (number_of v ≡ n)
unfolding number_of
tested (one c t) = (record { has_digits = tt; all_digits = and_both (digit c) true t tt; without_needless_zero = tt }, omega arith)
tested (more s n c d p t) =
    let (h, e) = tested d in (
      record {
        has_digits = filled-append s (c ∷ []) h.has_digits;
        all_digits = all_behind s c h.all_digits t;
        without_needless_zero = zero_behind s c h.has_digits (omega arith) h.without_needless_zero;
      },
      omega (arith, number_behind 0 s c),
    )

pub decimal_only : {v : List ℕ} {n : ℕ} → Decimal v n → T (decimal v) × (number_of v ≡ n)
decimal_only {v} d = (parts_test v (tested d).0, (tested d).1)

longer : (s u : List ℕ) (n : ℕ) → Decimal u n → 0 < n → T (all digit s) → Decimal (u ++ s) (number_from n s)
longer [] u n d p a = rw (append-nil u) d
longer (c ∷ s) u n d p a =
    let t : T (digit c) = and_left (digit c) (all digit s) a in
    let k : Decimal ((u ++ c ∷ []) ++ s) (number_from (n * 10 + (c - 48)) s) =
    longer s (u ++ c ∷ []) (n * 10 + (c - 48)) (more u n c d p t) (omega arith) (and_right (digit c) (all digit s) a) in
    rw (append_assoc u (c ∷ []) s) at k

pub decimal_of : (v : List ℕ) → T (decimal v) → Decimal v (number_of v)
unfolding number_of
decimal_of [] t = absurd t
decimal_of (c ∷ []) t =
    let p : DecimalTest (c ∷ []) = test_parts (c ∷ []) t in
    let e : 0 * 10 + (c - 48) ≡ c - 48 = omega arith in
    rw e (one c (and_left (digit c) true p.all_digits))
decimal_of (c ∷ d ∷ s) t =
    let p : DecimalTest (c ∷ d ∷ s) = test_parts (c ∷ d ∷ s) t in
    let k : T (digit c) = and_left (digit c) (all digit (d ∷ s)) p.all_digits in
    let e : 0 * 10 + (c - 48) ≡ c - 48 = omega arith in
    let z : c ≡ 48 → ⊥ = λ h. T_not (eqb c 48) p.without_needless_zero (rw h tt) in
    let (low, high) = digit_bounds c k in
    rw e (longer (d ∷ s) (c ∷ []) (c - 48) (one c k) (omega arith) (and_right (digit c) (all digit (d ∷ s)) p.all_digits))

-- a number has one decimal
pub one_decimal : {v w : List ℕ} {n m : ℕ} → Decimal v n → Decimal w m → n ≡ m → v ≡ w
one_decimal (one c t) (one d u) e =
    let (a, b) = digit_bounds c t in
    let (x, y) = digit_bounds d u in
    let h : c ≡ d = omega arith in
    ap (λ (k : ℕ). k ∷ []) h
one_decimal (one c t) (more s n d k p u) e = let (a, b) = digit_bounds c t in absurd (omega arith)
one_decimal (more s n c k p t) (one d u) e = let (a, b) = digit_bounds d u in absurd (omega arith)
one_decimal (more s n c k p t) (more r m d l q u) e =
    let (a, b) = digit_bounds c t in
    let (x, y) = digit_bounds d u in
    let h : c ≡ d = omega arith in
    rw (one_decimal k l (omega arith), h)

-- ---- at most 7 digits write a number up to 1,000,000

-- ten times for each digit
abbrev pub tenfold : List ℕ → ℕ → ℕ
tenfold [] n = n
tenfold (c ∷ s) n = tenfold s (n * 10)

tenfold_grows : (s : List ℕ) (n : ℕ) → n ≤ tenfold s n
tenfold_grows [] n = omega arith
tenfold_grows (c ∷ s) n = omega (arith, tenfold_grows s (n * 10))

number_tenfold : (s : List ℕ) (n k : ℕ) → k ≤ n → tenfold s k ≤ number_from n s
number_tenfold [] n k l = l
number_tenfold (c ∷ s) n k l = number_tenfold s (n * 10 + (c - 48)) (k * 10) (omega arith)

pub at_most_seven : (v : List ℕ) → T (good_records v) → length v ≤ 7
unfolding good_records number_of
at_most_seven v t = short v (test_parts v (and_left (decimal v) (leb (number_of v) most_records) t)) (leb→le (number_of v) most_records (and_right (decimal v) (leb (number_of v) most_records) t))
  where
    short : (v : List ℕ) → DecimalTest v → number_of v ≤ most_records → length v ≤ 7
    short [] p l = omega arith
    short (a ∷ []) p l = omega arith
    short (a ∷ b ∷ []) p l = omega arith
    short (a ∷ b ∷ c ∷ []) p l = omega arith
    short (a ∷ b ∷ c ∷ d ∷ []) p l = omega arith
    short (a ∷ b ∷ c ∷ d ∷ e ∷ []) p l = omega arith
    short (a ∷ b ∷ c ∷ d ∷ e ∷ f ∷ []) p l = omega arith
    short (a ∷ b ∷ c ∷ d ∷ e ∷ f ∷ g ∷ []) p l = omega arith
    short (a ∷ b ∷ c ∷ d ∷ e ∷ f ∷ g ∷ h ∷ s) p l =
        let k : T (digit a) = and_left (digit a) (all digit (b ∷ c ∷ d ∷ e ∷ f ∷ g ∷ h ∷ s)) p.all_digits in
        let z : a ≡ 48 → ⊥ = λ q. T_not (eqb a 48) p.without_needless_zero (rw q tt) in
        let (low, high) = digit_bounds a k in
        let m : tenfold s 10_000_000 ≤ number_of (a ∷ b ∷ c ∷ d ∷ e ∷ f ∷ g ∷ h ∷ s) =
        number_tenfold (b ∷ c ∷ d ∷ e ∷ f ∷ g ∷ h ∷ s) (0 * 10 + (a - 48)) 1 (omega arith) in
        absurd (omega (arith, tenfold_grows s 10_000_000))

-- so it is read as a number
pub few_digits : (v : List ℕ) → T (good_records v) → (length v ≤ 7) × (all digit v ≡ true)
unfolding good_records
few_digits v t =
    (at_most_seven v t, is_true (all digit v) (test_parts v (and_left (decimal v) (leb (number_of v) most_records) t)).all_digits)

-- ---- the tests say what the definitions say

all_of_test : (v : List ℕ) → T (all digit v) → All digit v
all_of_test [] a = tt
all_of_test (c ∷ v) a = (and_left (digit c) (all digit v) a, all_of_test v (and_right (digit c) (all digit v) a))

test_of_all : (v : List ℕ) → All digit v → T (all digit v)
test_of_all [] a = tt
test_of_all (c ∷ v) a = and_both (digit c) (all digit v) a.0 (test_of_all v a.1)

equal_of : (a b : List ℕ) → a ≡ b → T (equal a b)
equal_of a b e = rw e (equal_self b)

pub good_is : (f : Field) (v : List ℕ) → T (good f v) → Good f v
unfolding good_vehicle good_records good_state
good_is Field.Vehicle v t =
    let w : T (within 1 6 (length v)) = and_right (all digit v) (within 1 6 (length v)) t in (
      all_of_test v (and_left (all digit v) (within 1 6 (length v)) t),
      leb→le 1 (length v) (and_left (leb 1 (length v)) (leb (length v) 6) w),
      leb→le (length v) 6 (and_right (leb 1 (length v)) (leb (length v) 6) w),
    )
good_is Field.Records v t = (
  number_of v,
  decimal_of v (and_left (decimal v) (leb (number_of v) most_records) t),
  leb→le (number_of v) most_records (and_right (decimal v) (leb (number_of v) most_records) t),
)
good_is Field.OffloadState v t =
    elim (or_cases (equal v (state_word true)) (equal v (state_word false)) t) [
      | inl e ↦ (true, equal_is v (state_word true) e)
      | inr e ↦ (false, equal_is v (state_word false) e)
    ]

pub is_good : (f : Field) (v : List ℕ) → Good f v → T (good f v)
unfolding good_vehicle good_records good_state
is_good Field.Vehicle v (a, l, m) =
    and_both (all digit v) (within 1 6 (length v)) (test_of_all v a)
    (and_both (leb 1 (length v)) (leb (length v) 6) (le→leb 1 (length v) l) (le→leb (length v) 6 m))
is_good Field.Records v (n, d, l) =
    let (t, e) = decimal_only d in
    and_both (decimal v) (leb (number_of v) most_records) t (le→leb (number_of v) most_records (rw e l))
is_good Field.OffloadState v (true, e) = or_left (equal v (state_word true)) (equal v (state_word false)) (equal_of v (state_word true) e)
is_good Field.OffloadState v (false, e) = or_right (equal v (state_word true)) (equal v (state_word false)) (equal_of v (state_word false) e)
