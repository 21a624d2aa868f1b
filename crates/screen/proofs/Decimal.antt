-- The decimal of a number: it is the only one without needless zeros (decimal_is, decimal_only), it is what the library's `decimal`
-- writes (fewest_is), and it is short (decimal_short). Assumes nothing.
use Rattle.std.specs.Prelude.{if◌then◌else◌}
use mathlib.Core.Bool.{Bool, true, false}
use mathlib.Core.List.{List, [], ◌∷◌, ◌++◌}
use mathlib.Core.Path.{◌≡◌, refl, sym, subst}
use Prim.Native.Nat.{ℕ, zero, suc, ◌+◌, ◌-◌, ◌*◌, ◌/◌, ◌%◌, ◌^◌, ◌≤◌, ◌<◌}
use native.Mathlib.Nat.{one-le-pow, pow-suc}
use native.Mathlib.Omega.{arith}
use borrow.Author.Tests.{le-leb, le-ltb, lt-ltb, ltb-true, ltb-false}
use lib.Dec.{T, ltb}
use lib.ListN.{length, length-append}
use Rattle.closing.specs.Contents.{Decimal, digit, one, more}
use Rattle.closing.proofs.Contents.{one_decimal}
use Rattle.io.specs.Digits.{IsDigitCount, last_digits, hex_digit_ascii}
use Rattle.screen.specs.Listing.{decimal, digits_of}

-- ---- one digit

a_digit : (n : ℕ) → n < 10 → T (digit (48 + n))
unfolding digit
a_digit n h = rw (le-leb 48 (48 + n) (omega arith), le-leb (48 + n) 57 (omega arith)) tt

one_digit : (n : ℕ) → n < 10 → Decimal ((48 + n) ∷ []) n
one_digit n h = subst (λ (k : ℕ). Decimal ((48 + n) ∷ []) k) (let e : 48 + n - 48 ≡ n = omega arith in e) (one (48 + n) (a_digit n h))

more_digits : (s : List ℕ) (n : ℕ) → 10 ≤ n → Decimal s (n / 10) → Decimal (s ++ (48 + n % 10) ∷ []) n
more_digits s n h d =
    subst (λ (k : ℕ). Decimal (s ++ (48 + n % 10) ∷ []) k) (let e : n / 10 * 10 + (48 + n % 10 - 48) ≡ n = omega arith in e)
    (more s (n / 10) (48 + n % 10) d (omega arith) (a_digit (n % 10) (omega arith)))

-- ---- all of them

digits_are : (f n : ℕ) → n ≤ f → Decimal (digits_of f n) n
digits_are zero n h =
    let e : n % 10 ≡ n = omega arith in
    rw e (one_digit n (omega arith))
digits_are (suc f) n h = by (ltb n 10) refl (λ k. digits_are f (n / 10) k)
  where
    by : (b : Bool) → ltb n 10 ≡ b → (n / 10 ≤ f → Decimal (digits_of f (n / 10)) (n / 10))
        → Decimal (if b then (48 + n) ∷ [] else digits_of f (n / 10) ++ ((48 + n % 10) ∷ [])) n
    by true q tenth = one_digit n (ltb-true n 10 q)
    by false q tenth = let k : 10 ≤ n = ltb-false n 10 q in more_digits (digits_of f (n / 10)) n k (tenth (omega arith))

pub decimal_is : (n : ℕ) → Decimal (decimal n) n
unfolding decimal
decimal_is n = digits_are n n (omega arith)

pub decimal_only : {v : List ℕ} {n : ℕ} → Decimal v n → v ≡ decimal n
decimal_only {v} {n} d = one_decimal d (decimal_is n) refl

-- ---- the library's digits: the fewest that hold the number

last_digit : (n : ℕ) → hex_digit_ascii (n % 10) ≡ 48 + n % 10
last_digit n = rw (lt-ltb (n % 10) 10 (omega arith))

digits_one : (f n : ℕ) → n < 10 → (48 + n % 10) ∷ [] ≡ digits_of f n
digits_one zero n h = refl
digits_one (suc f) n h =
    let e : n % 10 ≡ n = omega arith in
    rw (lt-ltb n 10 h, e)

held : (k f n : ℕ) → IsDigitCount 10 1 n k → n ≤ f → last_digits 10 k n ≡ digits_of f n
held zero f n w h = absurd (omega (arith, w.0))
held (suc zero) f n w h =
    let small : n < 10 = w.1 in
    rw (last_digit n) (digits_one f n small)
held (suc (suc k)) zero n w h =
    let e : suc (suc k) - 1 ≡ suc k = omega arith in
    let low : 10 ^ suc k ≤ n = subst (λ (j : ℕ). 10 ^ j ≤ n) e (w.2 (omega arith)) in
    absurd (omega (arith, pow-suc 10 k, one-le-pow k 10 (omega arith)))
held (suc (suc k)) (suc f) n w h =
    let e : suc (suc k) - 1 ≡ suc k = omega arith in
    let low : 10 ^ suc k ≤ n = subst (λ (j : ℕ). 10 ^ j ≤ n) e (w.2 (omega arith)) in
    let large : 10 ≤ n = omega (arith, pow-suc 10 k, one-le-pow k 10 (omega arith)) in
    let less : suc k - 1 ≡ k = omega arith in
    let tenth : IsDigitCount 10 1 (n / 10) (suc k) =
    (omega arith, omega (arith, w.1, pow-suc 10 (suc k)), λ (l : 1 < suc k). subst (λ (j : ℕ). 10 ^ j ≤ n / 10) (sym less) (omega (arith, pow-suc 10 k))) in
    rw (le-ltb n 10 large, last_digit n, held (suc k) f (n / 10) tenth (omega arith))

pub fewest_is : (k n : ℕ) → IsDigitCount 10 1 n k → last_digits 10 k n ≡ decimal n
unfolding decimal
fewest_is k n w = held k n n w (omega arith)

-- ---- how many there are

short : (k f n : ℕ) → n < 10 ^ suc k → length (digits_of f n) ≤ suc k
short k zero n h = omega arith
short zero (suc f) n h =
    let small : n < 10 = h in
    rw (lt-ltb n 10 small) (omega arith)
short (suc k) (suc f) n h = by (ltb n 10) (short k f (n / 10) (omega (arith, pow-suc 10 (suc k))))
  where
    by : (b : Bool) → length (digits_of f (n / 10)) ≤ suc k → length (if b then (48 + n) ∷ [] else digits_of f (n / 10) ++ ((48 + n % 10) ∷ [])) ≤ suc (suc k)
    by true l = omega arith
    by false l = omega (arith, length-append (digits_of f (n / 10)) ((48 + n % 10) ∷ []))

-- a number below the power of ten with k and one zeros has at most as many digits
pub decimal_short : (k n : ℕ) → n < 10 ^ suc k → length (decimal n) ≤ suc k
unfolding decimal
decimal_short k n h = short k n n h
