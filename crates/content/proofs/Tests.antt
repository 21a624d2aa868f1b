-- The tests of a content as the code makes them, one after the other. Assumes nothing.
use mathlib.Core.Bool.{true, false}
use mathlib.Core.List.{List, [], ◌∷◌}
use mathlib.Core.Path.{◌≡◌, sym}
use Prim.Native.Nat.{ℕ, ◌≤◌}
use native.Mathlib.Omega.{arith}
use lib.Dec.{T, T_not, not_T, eqb, eqb→eq, eqb_refl, leb, leb→le, le→leb}
use lib.ListN.{length, get_or}
use Rattle.rules.specs.Bytes.{within}
use Rattle.rules.specs.Lists.{all, filled}
use Rattle.rules.proofs.Lists.{and_both, and_left, and_right, is_true, is_false, same_test}
use Rattle.closing.specs.Contents.{digit, most_records, number_of, no_needless_zero, decimal, good_vehicle, good_records}
use Rattle.closing.proofs.Contents.{digit_bounds, DecimalTest, test_parts, parts_test, at_most_seven}

-- ---- Vehicle

vehicle_parts : (v : List ℕ) → T (good_vehicle v) → T (all digit v) × (1 ≤ length v) × (length v ≤ 6)
unfolding good_vehicle
vehicle_parts v t =
    let w : T (within 1 6 (length v)) = and_right (all digit v) (within 1 6 (length v)) t in (
      and_left (all digit v) (within 1 6 (length v)) t,
      leb→le 1 (length v) (and_left (leb 1 (length v)) (leb (length v) 6) w),
      leb→le (length v) 6 (and_right (leb 1 (length v)) (leb (length v) 6) w),
    )

pub vehicle_other : (v : List ℕ) → (1 ≤ length v → length v ≤ 6 → ⊥) → false ≡ good_vehicle v
vehicle_other v n = sym (is_false (good_vehicle v) (not_T (good_vehicle v) (λ t. n (vehicle_parts v t).1 (vehicle_parts v t).2)))

pub vehicle_digits : (v : List ℕ) → 1 ≤ length v → length v ≤ 6 → all digit v ≡ good_vehicle v
unfolding good_vehicle
vehicle_digits v l m =
    same_test (all digit v) (good_vehicle v)
    (λ a. and_both (all digit v) (within 1 6 (length v)) a
    (and_both (leb 1 (length v)) (leb (length v) 6) (le→leb 1 (length v) l) (le→leb (length v) 6 m)))
    (λ t. (vehicle_parts v t).0)

-- ---- Records

records_parts : (v : List ℕ) → T (good_records v) → DecimalTest v × T (leb (number_of v) most_records)
unfolding good_records
records_parts v t = (
  test_parts v (and_left (decimal v) (leb (number_of v) most_records) t),
  and_right (decimal v) (leb (number_of v) most_records) t,
)

parts_records : (v : List ℕ) → DecimalTest v → T (leb (number_of v) most_records) → T (good_records v)
unfolding good_records
parts_records v d l = and_both (decimal v) (leb (number_of v) most_records) (parts_test v d) l

refused : (v : List ℕ) → (T (good_records v) → ⊥) → false ≡ good_records v
refused v n = sym (is_false (good_records v) (not_T (good_records v) n))

filled-length : (v : List ℕ) → T (filled v) → 1 ≤ length v
filled-length [] t = absurd t
filled-length (c ∷ v) t = omega arith

length-filled : (v : List ℕ) → 1 ≤ length v → T (filled v)
length-filled [] l = absurd (omega arith)
length-filled (c ∷ v) l = tt

pub records_other : (v : List ℕ) → (1 ≤ length v → length v ≤ 7 → ⊥) → false ≡ good_records v
records_other v n = refused v (λ t. n (filled-length v (records_parts v t).0.has_digits) (at_most_seven v t))

pub records_others : (v : List ℕ) → all digit v ≡ false → false ≡ good_records v
records_others v a = refused v (λ t. rw a at (records_parts v t).0.all_digits)

pub records_one : (v : List ℕ) → length v ≡ 1 → all digit v ≡ true → true ≡ good_records v
unfolding number_of
records_one [] l a = absurd (omega arith)
records_one (c ∷ d ∷ v) l a = absurd (omega arith)
records_one (c ∷ []) l a =
    let t : T (all digit (c ∷ [])) = rw a tt in
    let (low, high) = digit_bounds c (and_left (digit c) true t) in
    sym (is_true (good_records (c ∷ [])) (parts_records (c ∷ [])
    (record { has_digits = tt; all_digits = t; without_needless_zero = tt })
    (le→leb (number_of (c ∷ [])) most_records (omega arith))))

pub records_digit : (v : List ℕ) → length v ≡ 1 → all digit v ≡ good_records v
records_digit v l =
    same_test (all digit v) (good_records v)
    (λ a. rw (← records_one v l (is_true (all digit v) a)) tt)
    (λ t. (records_parts v t).0.all_digits)

zero_first : (v : List ℕ) → 2 ≤ length v → get_or v 0 0 ≡ 48 → T (no_needless_zero v) → ⊥
zero_first [] l z t = omega arith
zero_first (c ∷ []) l z t = omega arith
zero_first (c ∷ d ∷ v) l z t = T_not (eqb c 48) t (rw z (eqb_refl 48))

pub records_zero : (v : List ℕ) → 2 ≤ length v → get_or v 0 0 ≡ 48 → false ≡ good_records v
records_zero v l z = refused v (λ t. zero_first v l z (records_parts v t).0.without_needless_zero)

no_zero_first : (v : List ℕ) → (get_or v 0 0 ≡ 48 → ⊥) → T (no_needless_zero v)
no_zero_first [] n = tt
no_zero_first (c ∷ []) n = tt
no_zero_first (c ∷ d ∷ v) n = not_T (eqb c 48) (λ e. n (eqb→eq c 48 e))

pub records_number : (v : List ℕ) → 2 ≤ length v → all digit v ≡ true → (get_or v 0 0 ≡ 48 → ⊥) → leb (number_of v) 1_000_000 ≡ good_records v
records_number v l a n =
    same_test (leb (number_of v) most_records) (good_records v)
    (λ m. parts_records v (record { has_digits = length-filled v (omega arith); all_digits = rw a tt; without_needless_zero = no_zero_first v n }) m)
    (λ t. (records_parts v t).1)

-- the tests in the order of the code
pub ruleset vehicle_tests = (vehicle_digits, vehicle_other)

pub ruleset records_tests = (records_others, records_digit, records_zero, records_number, records_other)
