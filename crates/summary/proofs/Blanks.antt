-- The ASCII blanks at the end of a piece: what the library's `trim_ascii_end` keeps is what stays without them. Assumes nothing.
use Rattle.std.proofs.lemmas.Bool.Decides.{nat_tests}
use Rattle.std.specs.Char.{is_ascii_whitespace}
use Rattle.std.specs.Str.{IsAsciiWhitespaceFrom, IsTrimAsciiEnd}
use mathlib.Core.Bool.{Bool, true, false, and-false, ◌||◌}
use mathlib.Core.List.{List, [], ◌∷◌}
use mathlib.Core.Logic.{inl, inr}
use mathlib.Core.Path.{◌≡◌, refl, sym, ◌∙◌}
use Prim.Native.Nat.{ℕ, zero, suc, ◌+◌, ◌-◌, ◌≤◌, ◌<◌}
use native.Mathlib.Omega.{arith}
use lib.Dec.{T, eqb, eqb→eq}
use lib.ListN.{length, take, get_or}
use Rattle.rules.specs.Bytes.{blank_byte, within}
use Rattle.rules.specs.Lists.{all}
use Rattle.rules.specs.Summary.{drop_blanks}
use Rattle.rules.proofs.Lists.{or_cases}

-- ---- the library's ASCII white space is the rules' ASCII blank

blank_is : (c : ℕ) → is_ascii_whitespace c ≡ blank_byte c
unfolding blank_byte
blank_is c = grind (arith, nat_tests)

-- ---- all of a piece is blank, or a byte of it is not

all_true : (p : List ℕ) → ((i : ℕ) → i < length p → is_ascii_whitespace (get_or p i 0) ≡ true) → all blank_byte p ≡ true
all_true [] h = refl
all_true (c ∷ p) h = rw (sym (blank_is c) ∙ h 0 (omega arith)) (all_true p (λ i k. h (suc i) (omega arith)))

all_false : (p : List ℕ) (i : ℕ) → i < length p → is_ascii_whitespace (get_or p i 0) ≡ false → all blank_byte p ≡ false
all_false [] i k e = absurd (omega arith)
all_false (c ∷ p) zero k e = rw (sym (blank_is c) ∙ e)
all_false (c ∷ p) (suc i) k e = rw (all_false p i (omega arith) e) (and-false (blank_byte c))

-- ---- what stays without the blanks at the end

front : (p : List ℕ) (n : ℕ) → n ≤ length p → IsAsciiWhitespaceFrom p n → ((i : ℕ) → n ≡ i + 1 → is_ascii_whitespace (get_or p i 0) ≡ false)
    → drop_blanks p ≡ take n p
front [] zero h w e = refl
front [] (suc n) h w e = absurd (omega arith)
front (c ∷ p) zero h w e = rw (all_true (c ∷ p) (λ i k. w i (omega arith) k))
front (c ∷ p) (suc n) h w e =
    let more = front p n (omega arith) (λ i k l. w (suc i) (omega arith) (omega arith)) (λ i k. e (suc i) (omega arith)) in
    rw (all_false (c ∷ p) n (omega arith) (e n (omega arith)), more)

pub trimmed : (p r : List ℕ) → IsTrimAsciiEnd p r → r ≡ drop_blanks p
trimmed p r (n, e, l, h, w, s) =
    e ∙ sym (front p n h w (λ i k. let last : i ≡ n - 1 = omega arith in rw last (s (omega arith))))

-- ---- no blank is above the space

or_at : (P : ℕ → Type 0) (b : Bool) (c x : ℕ) → P x → (T b → P c) → T (b || eqb c x) → P c
or_at P b c x f r t = elim (or_cases b (eqb c x) t) [ inl u ↦ r u | inr e ↦ rw (eqb→eq c x e) f ]

pub blank_low : (c : ℕ) → T (blank_byte c) → within 0 32 c ≡ true
unfolding blank_byte
blank_low c =
    let P : ℕ → Type 0 = λ d. within 0 32 d ≡ true in
    or_at P (eqb c 32 || eqb c 9 || eqb c 10 || eqb c 12) c 13 refl
    (or_at P (eqb c 32 || eqb c 9 || eqb c 10) c 12 refl
    (or_at P (eqb c 32 || eqb c 9) c 10 refl
    (or_at P (eqb c 32) c 9 refl
    (or_at P false c 32 refl (λ f. absurd f)))))
