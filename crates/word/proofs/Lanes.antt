-- Numbers that are made of bytes: an operation on two of them works on each byte by itself, and flags tell where the first and the last byte
-- stand that does not pass. Assumes nothing.
use mathlib.Core.Bool.{Bool, true, false, false≢true, ◌&&◌}
use mathlib.Core.List.{List, [], ◌∷◌}
use mathlib.Core.Logic.{◌⊎◌, inl, inr}
use mathlib.Core.Path.{◌≡◌, refl, sym, ap, ap₂, ◌∙◌}
use Prim.Native.Nat.{ℕ, zero, suc, ◌+◌, ◌-◌, ◌*◌, ◌/◌, ◌%◌, ◌^◌, ◌≤◌, ◌<◌}
use native.Mathlib.Nat.{mul_assoc, pow-suc}
use native.Mathlib.Omega.{arith}
use borrow.Author.Tests.{eqb-false, eqb-true}
use lib.Bits.{bit_and, bit_or, bit_xor, and_block, or_block, xor_block}
use lib.Count.{leading_of_zero, leading_unique, count_leading_zeros, count_trailing_zeros}
use lib.Dec.{eqb, ltb, ltb→lt}
use lib.ListN.{length, get_or}
use lib.Pow.{pow-add}
use Rattle.std.specs.Int.{from_le_bytes, w64}
use Rattle.rules.specs.Lists.{run}
use Rattle.word.specs.Word.{Bytes, each, flag, packed}

-- ---- every byte

-- whether all numbers below n pass
abbrev pub below : ℕ → (ℕ → Bool) → Bool
below zero p = true
below (suc n) p = p n && below n p

both : (a b : Bool) → (a && b) ≡ true → (a ≡ true) × (b ≡ true)
both true b e = (refl, e)
both false b e = absurd (false≢true e)

passes : (n : ℕ) (p : ℕ → Bool) → below n p ≡ true → (b : ℕ) → b < n → p b ≡ true
passes zero p e b h = absurd (omega arith)
passes (suc n) p e b h = let r = both (p n) (below n p) e in go r.0 (passes n p r.1 b) (eqb b n) refl
  where
    go : p n ≡ true → (b < n → p b ≡ true) → (t : Bool) → eqb b n ≡ t → p b ≡ true
    go last rest true t = ap p (eqb-true b n t) ∙ last
    go last rest false t = let other = eqb-false b n t in rest (omega (arith, other))

-- two functions are the same on all bytes
abbrev pub Alike : (ℕ → ℕ) → (ℕ → ℕ) → Type 0
Alike f g = below 256 (λ b. eqb (f b) (g b)) ≡ true

-- a function gives a byte for each byte
abbrev pub Keeps : (ℕ → ℕ) → Type 0
Keeps f = below 256 (λ b. ltb (f b) 256) ≡ true

pub kept : (f : ℕ → ℕ) → Keeps f → (b : ℕ) → b < 256 → f b < 256
kept f k b h = ltb→lt (f b) 256 (rw (passes 256 (λ b. ltb (f b) 256) k b h) tt)

-- ---- an operation on each byte

pub each_alike : (f g : ℕ → ℕ) → Alike f g → (s : List ℕ) → Bytes s → each f s ≡ each g s
unfolding each
each_alike f g e [] h = refl
each_alike f g e (b ∷ s) h =
    ap₂ (λ x y. x * 2 ^ 8 + y) (each_alike f g e s (λ i. h (suc i))) (eqb-true (f b) (g b) (passes 256 (λ b. eqb (f b) (g b)) e b (h zero)))

each_add : (f g : ℕ → ℕ) (s : List ℕ) → each f s + each g s ≡ each (λ b. f b + g b) s
unfolding each
each_add f g [] = refl
each_add f g (b ∷ s) = omega (arith, each_add f g s)

each_times : (f : ℕ → ℕ) (s : List ℕ) → each (λ b. f b * 4) s ≡ each f s * 4
unfolding each
each_times f [] = refl
each_times f (b ∷ s) = omega (arith, each_times f s)

module _ (op : ℕ → ℕ → ℕ) (block : (a b r s : ℕ) → r < 2 ^ 8 → s < 2 ^ 8 → op (a * 2 ^ 8 + r) (b * 2 ^ 8 + s) ≡ op a b * 2 ^ 8 + op r s)
    (none : op 0 0 ≡ 0) where
  each_op : (f g : ℕ → ℕ) → Keeps f → Keeps g → (s : List ℕ) → Bytes s → op (each f s) (each g s) ≡ each (λ b. op (f b) (g b)) s
  unfolding each
  each_op f g kf kg [] h = none
  each_op f g kf kg (b ∷ s) h =
      block (each f s) (each g s) (f b) (g b) (kept f kf b (h zero)) (kept g kg b (h zero))
      ∙ ap (λ x. x * 2 ^ 8 + op (f b) (g b)) (each_op f g kf kg s (λ i. h (suc i)))

-- the number of some bytes, each as f gives it
module _ (s : List ℕ) (h : Bytes s) where
  pub anded : (f g : ℕ → ℕ) {n m : ℕ} → Keeps f → Keeps g → n ≡ each f s → m ≡ each g s → bit_and n m ≡ each (λ b. bit_and (f b) (g b)) s
  anded f g kf kg p q = ap₂ bit_and p q ∙ each_op bit_and (and_block 8) refl f g kf kg s h

  pub ored : (f g : ℕ → ℕ) {n m : ℕ} → Keeps f → Keeps g → n ≡ each f s → m ≡ each g s → bit_or n m ≡ each (λ b. bit_or (f b) (g b)) s
  ored f g kf kg p q = ap₂ bit_or p q ∙ each_op bit_or (or_block 8) refl f g kf kg s h

  pub xored : (f g : ℕ → ℕ) {n m : ℕ} → Keeps f → Keeps g → n ≡ each f s → m ≡ each g s → bit_xor n m ≡ each (λ b. bit_xor (f b) (g b)) s
  xored f g kf kg p q = ap₂ bit_xor p q ∙ each_op bit_xor (xor_block 8) refl f g kf kg s h

  pub added : (f g : ℕ → ℕ) {n m : ℕ} → n ≡ each f s → m ≡ each g s → n + m ≡ each (λ b. f b + g b) s
  added f g p q = ap₂ (λ x y. x + y) p q ∙ each_add f g s

  pub quartered : (f : ℕ → ℕ) {n : ℕ} → Alike f (λ b. f b / 4 * 4) → n ≡ each f s → n / 2 ^ 2 ≡ each (λ b. f b / 4) s
  quartered f a p =
      let four = p ∙ each_alike f (λ b. f b / 4 * 4) a s h ∙ each_times (λ b. f b / 4) s in
      omega (arith, four)

-- the same byte eight times
unfoldable pub eight : ℕ → ℕ
eight k = each (λ _. k) (0 ∷ 0 ∷ 0 ∷ 0 ∷ 0 ∷ 0 ∷ 0 ∷ 0 ∷ [])

pub each_of : (k : ℕ) (s : List ℕ) → length s ≡ 8 → eight k ≡ each (λ _. k) s
unfolding each eight
each_of k s e = like (0 ∷ 0 ∷ 0 ∷ 0 ∷ 0 ∷ 0 ∷ 0 ∷ 0 ∷ []) s (sym e)
  where
    like : (t s : List ℕ) → length t ≡ length s → each (λ _. k) t ≡ each (λ _. k) s
    like [] [] e = refl
    like [] (x ∷ s) e = absurd (omega arith)
    like (y ∷ t) [] e = absurd (omega arith)
    like (y ∷ t) (x ∷ s) e = ap (λ n. n * 2 ^ 8 + k) (like t s (omega arith))

-- ---- the first flag

even : (k a : ℕ) → count_trailing_zeros (suc k) (a * 2) ≡ suc (count_trailing_zeros k a)
unfolding count_trailing_zeros
even k a =
    let digit : a * 2 % 2 ≡ 0 = omega arith in
    let rest : a * 2 / 2 ≡ a = omega arith in
    rw (digit, rest)

odd : (k a : ℕ) → count_trailing_zeros (suc k) (a * 2 + 1) ≡ 0
unfolding count_trailing_zeros
odd k a = let digit : (a * 2 + 1) % 2 ≡ 1 = omega arith in rw digit

-- below j more digits that are not set
shifted : (j k a : ℕ) → count_trailing_zeros (j + k) (a * 2 ^ j) ≡ j + count_trailing_zeros k a
shifted zero k a =
    let size : 0 + k ≡ k = omega arith in
    let same : a * 2 ^ 0 ≡ a = omega arith in
    let sum : 0 + count_trailing_zeros k a ≡ count_trailing_zeros k a = omega arith in
    rw (size, same, sum)
shifted (suc j) k a =
    let size : suc j + k ≡ suc (j + k) = omega arith in
    let twice : a * 2 ^ suc j ≡ a * 2 ^ j * 2 = ap (λ x. a * x) (pow-suc 2 j) ∙ sym (mul_assoc a (2 ^ j) 2) in
    rw (size, twice) (even (j + k) (a * 2 ^ j) ∙ ap suc (shifted j k a) ∙ (omega arith))

-- how many digits some bytes have
digits : List ℕ → ℕ
digits [] = 0
digits (b ∷ s) = 8 + digits s

digits_are : (s : List ℕ) → digits s ≡ 8 * length s
unfolding digits
digits_are [] = refl
digits_are (b ∷ s) = omega (arith, digits_are s)

flagged : (k a : ℕ) → count_trailing_zeros (8 + k) (a * 2 ^ 8 + 128) ≡ 7
flagged k a =
    let size : 8 + k ≡ 7 + suc k = omega arith in
    let there : a * 2 ^ 8 + 128 ≡ (a * 2 + 1) * 2 ^ 7 = omega arith in
    rw (size, there) (shifted 7 (suc k) (a * 2 + 1) ∙ ap (λ n. 7 + n) (odd k a))

plain : (k a : ℕ) → count_trailing_zeros (8 + k) (a * 2 ^ 8 + 0) ≡ 8 + count_trailing_zeros k a
plain k a = let there : a * 2 ^ 8 + 0 ≡ a * 2 ^ 8 = omega arith in rw there (shifted 8 k a)

zeros : (q : ℕ → Bool) (s : List ℕ) → (r : ℕ) × (r ≤ 7) × (count_trailing_zeros (digits s) (each (flag q) s) ≡ 8 * length (run q s) + r)
unfolding digits each count_trailing_zeros
zeros q [] = (0, omega arith, refl)
zeros q (b ∷ s) = by (q b) refl (zeros q s)
  where
    by : (t : Bool) → q b ≡ t → (r : ℕ) × (r ≤ 7) × (count_trailing_zeros (digits s) (each (flag q) s) ≡ 8 * length (run q s) + r)
        → (r : ℕ) × (r ≤ 7) × (count_trailing_zeros (8 + digits s) (each (flag q) s * 2 ^ 8 + flag q b) ≡ 8 * length (run q (b ∷ s)) + r)
    by true t (r, h, e) = (r, h, rw t (omega (arith, plain (digits s) (each (flag q) s), e)))
    by false t z = (7, omega arith, rw t (flagged (digits s) (each (flag q) s)))

-- so many bytes pass before the first that does not
pub before_flag : (q : ℕ → Bool) (s : List ℕ) → length s ≡ 8 → count_trailing_zeros 64 (each (flag q) s) / 8 ≡ length (run q s)
before_flag q s e =
    let z = zeros q s in
    let size : digits s ≡ 64 = omega (arith, digits_are s, e) in
    let t : count_trailing_zeros 64 (each (flag q) s) ≡ 8 * length (run q s) + z.0 = rw size at z.2 in
    omega (arith, t, z.1)

-- ---- the last flag

-- after the last byte that does not pass; 0 where all pass
abbrev pub next : ℕ → Bool → ℕ
next (suc n) t = suc (suc n)
next zero true = zero
next zero false = 1

unfoldable pub behind_last : (ℕ → Bool) → List ℕ → ℕ
behind_last q [] = 0
behind_last q (b ∷ s) = next (behind_last q s) (q b)

-- a number's top byte is the k-th, and it is a flag
Top : List ℕ → ℕ → ℕ → Type 0
Top s n e = (k : ℕ) × (n ≡ suc k) × (suc k ≤ length s) × (2 ^ (8 * k) * 128 ≤ e) × (e < 2 ^ (8 * k) * 256)

higher : (k : ℕ) → 2 ^ (8 * suc k) ≡ 2 ^ (8 * k) * 256
higher k = let size : 8 * suc k ≡ 8 * k + 8 = omega arith in rw size (pow-add 2 (8 * k) 8)

tops : (q : ℕ → Bool) (s : List ℕ) → ((behind_last q s ≡ 0) × (each (flag q) s ≡ 0)) ⊎ Top s (behind_last q s) (each (flag q) s)
unfolding behind_last each Top
tops q [] = inl (refl, refl)
tops q (b ∷ s) = by (q b) refl (tops q s)
  where
    by : (t : Bool) → q b ≡ t → ((behind_last q s ≡ 0) × (each (flag q) s ≡ 0)) ⊎ Top s (behind_last q s) (each (flag q) s)
        → ((next (behind_last q s) (q b) ≡ 0) × (each (flag q) s * 2 ^ 8 + flag q b ≡ 0))
        ⊎ Top (b ∷ s) (next (behind_last q s) (q b)) (each (flag q) s * 2 ^ 8 + flag q b)
    by true t (inl z) = inl (rw (z.0, t), rw (z.1, t))
    by false t (inl z) = inr (0, rw (z.0, t), omega arith, rw (z.1, t) (omega arith), rw (z.1, t) (omega arith))
    by true t (inr (k, n, l, lo, hi)) = inr (suc k, rw n, omega arith, rw (higher k, t) (omega arith), rw (higher k, t) (omega arith))
    by false t (inr (k, n, l, lo, hi)) = inr (suc k, rw n, omega arith, rw (higher k, t) (omega arith), rw (higher k, t) (omega arith))

pub behind_flag : (q : ℕ → Bool) (s : List ℕ) → length s ≡ 8 → 8 - count_leading_zeros 64 (each (flag q) s) / 8 ≡ behind_last q s
unfolding Top
behind_flag q s e = by (tops q s)
  where
    by : ((behind_last q s ≡ 0) × (each (flag q) s ≡ 0)) ⊎ Top s (behind_last q s) (each (flag q) s) → 8 - count_leading_zeros 64 (each (flag q) s) / 8 ≡ behind_last q s
    by (inl z) = rw (z.0, z.1, leading_of_zero 64)
    by (inr (k, n, l, lo, hi)) =
        let low : 2 ^ (8 * suc k) ≤ 2 * each (flag q) s + 1 = rw (higher k) (omega arith) in
        let high : each (flag q) s < 2 ^ (8 * suc k) = rw (higher k) (omega arith) in
        let z = leading_unique 64 (each (flag q) s) (64 - 8 * suc k) (8 * suc k) (omega arith) high low in
        omega (arith, z, n)

-- ---- the bytes themselves

listed : ℕ → (ℕ → ℕ) → List ℕ
listed zero f = []
listed (suc n) f = f 0 ∷ listed n (λ i. f (suc i))

listed_are : (n : ℕ) (s : List ℕ) → length s ≡ n → listed n (λ i. get_or s i 0) ≡ s
unfolding listed
listed_are zero [] e = refl
listed_are zero (x ∷ s) e = absurd (omega arith)
listed_are (suc n) [] e = absurd (omega arith)
listed_are (suc n) (x ∷ s) e = ap (λ t. x ∷ t) (listed_are n s (omega arith))

-- the number that the library makes of eight bytes, the first of them lowest
by_place : (s : List ℕ) → from_le_bytes w64 s ≡ packed (listed 8 (λ i. get_or s i 0))
unfolding listed each
by_place s = omega arith

pub packed_is : (s : List ℕ) → length s ≡ 8 → from_le_bytes w64 s ≡ packed s
packed_is s e = by_place s ∙ ap packed (listed_are 8 s e)
