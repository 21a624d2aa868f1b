-- LFs in a word, and in the parts of a search: the flags that the code computes are those of the LFs, and they tell where the first and the last
-- LF stand. Assumes nothing.
use Rattle.std.specs.Prelude.{if◌then◌else◌}
use mathlib.Core.Bool.{Bool, true, false, false≢true, not, or-false, ◌||◌}
use mathlib.Core.List.{List, [], ◌∷◌}
use mathlib.Core.Path.{◌≡◌, refl, sym, ap, ◌∙◌}
use Prim.Native.Nat.{ℕ, zero, suc, ◌+◌, ◌-◌, ◌/◌, ◌≤◌, ◌<◌}
use native.Mathlib.Omega.{arith}
use borrow.Author.Tests.{lt-ltb}
use lib.Bits.{bit_and, bit_or, bit_xor}
use lib.Count.{count_leading_zeros, count_trailing_zeros}
use lib.Dec.{leb-suc-suc, ltb}
use lib.ListN.{length, take, drop, get_or}
use lib.Seq.{get_or-take, get_or-drop, length-take-le}
use Rattle.rules.specs.Lists.{any}
use Rattle.word.proofs.Lanes.{added, anded, before_flag, behind_flag, behind_last, each_alike, each_of, eight, next, ored, xored}
use Rattle.word.specs.Word.{Bytes, each, flag, packed}
use Rattle.find.specs.Find.{behind_lf, is_lf, other, until_lf}
use Rattle.find.proofs.Runs.{any_next}

-- ---- the flags

-- 0x0a, 0x7f and 0x80, eight times
abbrev LFs : ℕ
LFs = 723401728380766730

abbrev lows : ℕ
lows = 9187201950435737471

abbrev highs : ℕ
highs = 9259542123273814144

-- what the code makes of each byte
abbrev differing : ℕ → ℕ
differing b = bit_xor b 10

abbrev carrying : ℕ → ℕ
carrying b = bit_and (differing b) 127 + 127

pub lf_flags : (w : ℕ) (s : List ℕ) → length s ≡ 8 → Bytes s → w ≡ packed s
    → bit_xor (bit_and (bit_or (bit_and (bit_xor w LFs) lows + lows) (bit_xor w LFs)) highs) highs ≡ each (flag other) s
unfolding each eight
lf_flags w s e h q =
    let lf : LFs ≡ each (λ _. 10) s = each_of 10 s e in
    let low : lows ≡ each (λ _. 127) s = each_of 127 s e in
    let high : highs ≡ each (λ _. 128) s = each_of 128 s e in
    let differs = xored s h (λ b. b) (λ _. 10) refl refl q lf in
    let carries = added s h (λ b. bit_and (differing b) 127) (λ _. 127) (anded s h differing (λ _. 127) refl refl differs low) low in
    let some = ored s h carrying differing refl refl carries differs in
    let masked = anded s h (λ b. bit_or (carrying b) (differing b)) (λ _. 128) refl refl some high in
    xored s h (λ b. bit_and (bit_or (carrying b) (differing b)) 128) (λ _. 128) refl refl masked high
    ∙ each_alike (λ b. bit_xor (bit_and (bit_or (carrying b) (differing b)) 128) 128) (flag other) refl s h

pub first_lf : (s : List ℕ) → length s ≡ 8 → count_trailing_zeros 64 (each (flag other) s) / 8 ≡ until_lf s
first_lf s e = before_flag other s e

-- ---- after the last LF

-- one byte more at the front
front : (x : ℕ) (s : List ℕ) (i : ℕ) → behind_lf (x ∷ s) (suc i) ≡ next (behind_lf s i) (other x)
unfolding behind_lf
front x s zero = by (is_lf x) refl
  where
    by : (b : Bool) → is_lf x ≡ b → (if is_lf x then 1 else 0) ≡ next 0 (not (is_lf x))
    by true q = rw q
    by false q = rw q
front x s (suc i) = by (is_lf (get_or s i 0)) refl (front x s i)
  where
    by : (b : Bool) → is_lf (get_or s i 0) ≡ b → behind_lf (x ∷ s) (suc i) ≡ next (behind_lf s i) (other x)
        → (if is_lf (get_or s i 0) then suc (suc i) else behind_lf (x ∷ s) (suc i)) ≡ next (if is_lf (get_or s i 0) then suc i else behind_lf s i) (other x)
    by true q r = rw q
    by false q r = rw q r

last : (n : ℕ) (s : List ℕ) → length s ≡ n → behind_lf s n ≡ behind_last other s
unfolding behind_lf behind_last
last zero [] e = refl
last zero (x ∷ s) e = absurd (omega arith)
last (suc n) [] e = absurd (omega arith)
last (suc n) (x ∷ s) e = front x s n ∙ ap (λ k. next k (other x)) (last n s (omega arith))

pub last_lf : (s : List ℕ) → length s ≡ 8 → 8 - count_leading_zeros 64 (each (flag other) s) / 8 ≡ behind_lf s 8
last_lf s e = behind_flag other s e ∙ sym (last 8 s e)

pub behind_fits : (s : List ℕ) (n : ℕ) → behind_lf s n ≤ n
unfolding behind_lf
behind_fits s zero = omega arith
behind_fits s (suc n) = by (is_lf (get_or s n 0)) refl (behind_fits s n)
  where
    by : (b : Bool) → is_lf (get_or s n 0) ≡ b → behind_lf s n ≤ n → (if is_lf (get_or s n 0) then suc n else behind_lf s n) ≤ suc n
    by true q r = rw q (omega arith)
    by false q r = rw q (omega arith)

-- what stands after it does not matter
pub behind_taken : (s : List ℕ) (k n : ℕ) → n ≤ k → behind_lf (take k s) n ≡ behind_lf s n
unfolding behind_lf
behind_taken s k zero h = refl
behind_taken s k (suc n) h = rw (get_or-take k s n 0 (omega arith), behind_taken s k n (omega arith))

-- what is passed over, backward, in the part before `i` is passed over in the whole
pub before_part : (s : List ℕ) (i : ℕ) {r : ℕ} → i ≤ length s
    → let t = take i s in (r ≤ length t) × (behind_lf t r ≡ behind_lf t (length t)) → (r ≤ i) × (behind_lf s r ≡ behind_lf s i)
before_part s i {r} h e =
    let p : (r ≤ i) × (behind_lf (take i s) r ≡ behind_lf (take i s) i) = rw (length-take-le i s h) at e in
    (p.0, sym (behind_taken s i r p.0) ∙ p.1 ∙ behind_taken s i i (omega arith))

-- ---- of a part

module _ (p s : List ℕ) (j k : ℕ) (same : (m : ℕ) → m < k → get_or p m 0 ≡ get_or s (j + m) 0) where
  within : (n : ℕ) → n ≤ k
      → (0 < behind_lf p n → behind_lf s (j + n) ≡ j + behind_lf p n) × (behind_lf p n ≡ 0 → behind_lf s (j + n) ≡ behind_lf s j)
  unfolding behind_lf
  within zero h = let none : j + 0 ≡ j = omega arith in (λ x. absurd (omega arith), λ e. ap (behind_lf s) none)
  within (suc n) h = by (is_lf (get_or p n 0)) refl (within n (omega arith))
    where
      by : (b : Bool) → is_lf (get_or p n 0) ≡ b
          → (0 < behind_lf p n → behind_lf s (j + n) ≡ j + behind_lf p n) × (behind_lf p n ≡ 0 → behind_lf s (j + n) ≡ behind_lf s j)
          → (0 < behind_lf p (suc n) → behind_lf s (j + suc n) ≡ j + behind_lf p (suc n)) × (behind_lf p (suc n) ≡ 0 → behind_lf s (j + suc n) ≡ behind_lf s j)
      by true q r =
          let next : j + suc n ≡ suc (j + n) = omega arith in
          let there : is_lf (get_or s (j + n) 0) ≡ true = ap is_lf (sym (same n (omega arith))) ∙ q in
          (λ x. rw (next, there, q) (omega arith), λ e. absurd (let z : suc n ≡ 0 = rw q at e in omega arith))
      by false q r =
          let next : j + suc n ≡ suc (j + n) = omega arith in
          let there : is_lf (get_or s (j + n) 0) ≡ false = ap is_lf (sym (same n (omega arith))) ∙ q in
          (λ x. rw (next, there, q) (r.0 (rw q at x)), λ e. rw (next, there) (r.1 (rw q at e)))

-- the last LF before j + k is that of the k bytes there, or one before them
pub last_of_part : (k j : ℕ) (s : List ℕ) → let p = take k (drop j s) in
    (0 < behind_lf p k → behind_lf s (j + k) ≡ j + behind_lf p k) × (behind_lf p k ≡ 0 → behind_lf s (j + k) ≡ behind_lf s j)
last_of_part k j s =
    within (take k (drop j s)) s j k (λ m h. get_or-take k (drop j s) m 0 h ∙ get_or-drop j s m 0) k (omega arith)

-- an LF is found
pub some_last : (s : List ℕ) (n : ℕ) → n ≤ length s → any is_lf (take n s) ≡ true → 0 < behind_lf s n
unfolding behind_lf
some_last s zero h e = absurd (false≢true e)
some_last s (suc n) h e = by (is_lf (get_or s n 0)) refl (some_last s n (omega arith))
  where
    by : (b : Bool) → is_lf (get_or s n 0) ≡ b → (any is_lf (take n s) ≡ true → 0 < behind_lf s n) → 0 < (if is_lf (get_or s n 0) then suc n else behind_lf s n)
    by true q r = rw q (omega arith)
    by false q r = rw q (r (sym (or-false (any is_lf (take n s))) ∙ sym (ap (λ c. any is_lf (take n s) || c) q) ∙ sym (any_next is_lf s n (omega arith)) ∙ e))

-- ---- whether there is one

-- there is an LF just if the search ends before the end
pub found : (s : List ℕ) → ltb (until_lf s) (length s) ≡ any is_lf s
found [] = refl
found (x ∷ s) = by (is_lf x) refl (found s)
  where
    by : (b : Bool) → is_lf x ≡ b → ltb (until_lf s) (length s) ≡ any is_lf s → ltb (until_lf (x ∷ s)) (suc (length s)) ≡ (is_lf x || any is_lf s)
    by true q r = rw q (lt-ltb 0 (suc (length s)) (omega arith))
    by false q r = rw q (leb-suc-suc (suc (until_lf s)) (length s) ∙ r)
