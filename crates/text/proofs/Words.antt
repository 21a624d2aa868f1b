-- Equal byte strings by words: two words are the same where their bytes are, and a string starts with another where its parts are equal.
-- Assumes nothing.
use mathlib.Core.Bool.{Bool, true, false, false≢true, ◌&&◌}
use mathlib.Core.List.{List, [], ◌∷◌, map, map-id}
use mathlib.Core.Path.{◌≡◌, refl, sym, ap, ◌∙◌}
use Prim.Native.Nat.{ℕ, zero, suc, ◌+◌, ◌-◌, ◌*◌, ◌^◌, ◌≤◌, ◌<◌}
use native.Mathlib.Omega.{arith}
use borrow.Author.Tests.{eq-eqb, ne_eqb, eqb-true, eqb-false}
use lib.Dec.{eqb}
use lib.ListN.{length, take, drop, length-drop}
use lib.Seq.{take_all}
use Rattle.rules.specs.Lists.{equal, starts}
use Rattle.word.proofs.Lanes.{Keeps, kept}
use Rattle.word.specs.Word.{Bytes, each, packed}

digit : (x y m n : ℕ) → x < 256 → y < 256 → eqb (m * 2 ^ 8 + x) (n * 2 ^ 8 + y) ≡ (eqb x y && eqb m n)
digit x y m n hx hy = by (eqb x y) (eqb m n) refl refl
  where
    by : (a b : Bool) → eqb x y ≡ a → eqb m n ≡ b → eqb (m * 2 ^ 8 + x) (n * 2 ^ 8 + y) ≡ (eqb x y && eqb m n)
    by true true p q = rw (p, q) (eq-eqb (m * 2 ^ 8 + x) (n * 2 ^ 8 + y) (omega (arith, eqb-true x y p, eqb-true m n q)))
    by true false p q = rw (p, q) (ne_eqb (m * 2 ^ 8 + x) (n * 2 ^ 8 + y) (λ e. eqb-false m n q (omega arith)))
    by false b p q = rw p (ne_eqb (m * 2 ^ 8 + x) (n * 2 ^ 8 + y) (λ e. eqb-false x y p (omega arith)))

pub each_same : (f : ℕ → ℕ) → Keeps f → (a b : List ℕ) → length a ≡ length b → Bytes a → Bytes b → eqb (each f a) (each f b) ≡ equal (map f a) (map f b)
unfolding each
each_same f kf [] [] e h k = refl
each_same f kf [] (y ∷ b) e h k = absurd (omega arith)
each_same f kf (x ∷ a) [] e h k = absurd (omega arith)
each_same f kf (x ∷ a) (y ∷ b) e h k =
    digit (f x) (f y) (each f a) (each f b) (kept f kf x (h zero)) (kept f kf y (k zero))
    ∙ ap (λ t. eqb (f x) (f y) && t) (each_same f kf a b (omega arith) (λ i. h (suc i)) (λ i. k (suc i)))

pub packed_same : (a b : List ℕ) → length a ≡ length b → Bytes a → Bytes b → eqb (packed a) (packed b) ≡ equal a b
packed_same a b e h k = each_same (λ b. b) refl a b e h k ∙ rw (map-id a, map-id b)

-- by the first k bytes and the others
pub starts_parts : (k : ℕ) (p s : List ℕ) → k ≤ length p → length p ≤ length s → starts p s ≡ (equal (take k s) (take k p) && starts (drop k p) (drop k s))
starts_parts zero p s h l = refl
starts_parts (suc k) [] s h l = absurd (omega arith)
starts_parts (suc k) (x ∷ p) [] h l = absurd (omega arith)
starts_parts (suc k) (x ∷ p) (y ∷ s) h l = by (eqb x y) refl (starts_parts k p s (omega arith) (omega arith))
  where
    by : (b : Bool) → eqb x y ≡ b → starts p s ≡ (equal (take k s) (take k p) && starts (drop k p) (drop k s))
        → (eqb x y && starts p s) ≡ ((eqb y x && equal (take k s) (take k p)) && starts (drop k p) (drop k s))
    by true q r = let back : eqb y x ≡ true = eq-eqb y x (sym (eqb-true x y q)) in rw (q, back) r
    by false q r = let back : eqb y x ≡ false = ne_eqb y x (λ e. eqb-false x y q (sym e)) in rw (q, back)

-- equal bytes have equal fronts
equal_front : (j k : ℕ) (a b : List ℕ) → j ≤ k → equal (take k a) (take k b) ≡ true → equal (take j a) (take j b) ≡ true
equal_front zero k a b h e = refl
equal_front (suc j) zero a b h e = absurd (omega arith)
equal_front (suc j) (suc k) [] [] h e = refl
equal_front (suc j) (suc k) [] (y ∷ b) h e = e
equal_front (suc j) (suc k) (x ∷ a) [] h e = e
equal_front (suc j) (suc k) (x ∷ a) (y ∷ b) h e = by (eqb x y) refl (equal_front j k a b (omega arith))
  where
    by : (t : Bool) → eqb x y ≡ t → (equal (take k a) (take k b) ≡ true → equal (take j a) (take j b) ≡ true)
        → (eqb x y && equal (take j a) (take j b)) ≡ true
    by true q r = rw q (r (rw q at e))
    by false q r = absurd (false≢true (rw q at e))

-- nothing is left of the one
pub starts_all : (p s : List ℕ) → length p ≤ length s → starts p s ≡ equal (take (length p) s) p
starts_all [] s l = refl
starts_all (x ∷ p) [] l = absurd (omega arith)
starts_all (x ∷ p) (y ∷ s) l = by (eqb x y) refl (starts_all p s (omega arith))
  where
    by : (b : Bool) → eqb x y ≡ b → starts p s ≡ equal (take (length p) s) p → (eqb x y && starts p s) ≡ (eqb y x && equal (take (length p) s) p)
    by true q r = let back : eqb y x ≡ true = eq-eqb y x (sym (eqb-true x y q)) in rw (q, back) r
    by false q r = let back : eqb y x ≡ false = ne_eqb y x (λ e. eqb-false x y q (sym e)) in rw (q, back)

-- a shorter string does not start with a longer one
pub short : (p s : List ℕ) → length s < length p → starts p s ≡ false
short [] s h = absurd (omega arith)
short (x ∷ p) [] h = refl
short (x ∷ p) (y ∷ s) h = elim (eqb x y) as (λ b. b && starts p s ≡ false) [ true ↦ short p s (omega arith) | false ↦ refl ]

-- of eight to sixteen bytes, by the first eight and the last eight
pub two_words : (p s : List ℕ) → 8 ≤ length p → length p ≤ 16 → length p ≤ length s
    → starts p s ≡ (equal (take 8 s) (take 8 p) && equal (take 8 (drop (length p - 8) s)) (drop (length p - 8) p))
two_words p s long near l = by (equal (take 8 s) (take 8 p)) refl
  where
    last : (d : ℕ) → d + 8 ≡ length p → starts (drop d p) (drop d s) ≡ equal (take 8 (drop d s)) (drop d p)
    last d e =
        let size : length (drop d p) ≡ 8 = simp length-drop (omega arith) in
        starts_all (drop d p) (drop d s) (simp length-drop (omega arith)) ∙ rw size

    by : (b : Bool) → equal (take 8 s) (take 8 p) ≡ b
        → starts p s ≡ (equal (take 8 s) (take 8 p) && equal (take 8 (drop (length p - 8) s)) (drop (length p - 8) p))
    by false q = starts_parts 8 p s (omega arith) l ∙ rw q
    by true q =
        let d = length p - 8 in
        starts_parts d p s (omega arith) l ∙ rw (q, equal_front d 8 s p (omega arith) q) (last d (omega arith))

pub equal_words : (a b : List ℕ) → length a ≡ length b → 8 ≤ length b → length b ≤ 16
    → equal a b ≡ (equal (take 8 a) (take 8 b) && equal (drop (length b - 8) a) (drop (length b - 8) b))
equal_words a b e long near =
    let d = length b - 8 in
    let all : take (length b) a ≡ a = take_all (length b) a (omega arith) in
    let last : take 8 (drop d a) ≡ drop d a = take_all 8 (drop d a) (simp length-drop (omega arith)) in
    let whole : starts b a ≡ equal a b = starts_all b a (omega arith) ∙ rw all in
    sym whole ∙ two_words b a long near (omega arith) ∙ rw last
