-- The table of code points, and which of its entries are in question for a code point: the laws that the callers of `is_among` go
-- by. Assumes nothing.
use mathlib.Core.Bool.{Bool, true, false, ◌||◌}
use mathlib.Core.List.{List, [], ◌∷◌, ◌++◌}
use mathlib.Core.Logic.{inl, inr}
use mathlib.Core.Path.{◌≡◌, refl, sym, ap, ◌∙◌}
use Prim.Native.Nat.{ℕ, ◌≤◌, ◌<◌}
use native.Mathlib.Omega.{arith}
use lib.Dec.{T, eqb, leb, ltb, eqb→eq, leb→le, ltb→lt, not_T}
use lib.ListN.{take, drop, take-append-drop}
use Rattle.rules.specs.Lists.{all, any}
use Rattle.rules.specs.White.{white_space}
use Rattle.rules.proofs.Lists.{and_left, and_right, is_false, or_cases}

-- ---- what holds of every entry

each : (p : ℕ → Bool) (cs : List ℕ) (c : ℕ) → T (all p cs) → T (any (eqb c) cs) → T (p c)
each p [] c a t = absurd t
each p (x ∷ cs) c a t =
    elim (or_cases (eqb c x) (any (eqb c) cs) t) [
      | inl e ↦ rw (eqb→eq c x e) (and_left (p x) (all p cs) a)
      | inr m ↦ each p cs c (and_right (p x) (all p cs) a) m
    ]

table_low : T (all (λ c. ltb c 0x10000) white_space)
unfolding white_space
table_low = tt

pub entry_low : (c : ℕ) → T (any (eqb c) white_space) → c < 0x10000
entry_low c t = ltb→lt c 0x10000 (each (λ x. ltb x 0x10000) white_space c table_low t)

-- ---- the entries below 0x80, and the others

any_append : (c : ℕ) (xs ys : List ℕ) → any (eqb c) (xs ++ ys) ≡ any (eqb c) xs || any (eqb c) ys
any_append c [] ys = refl
any_append c (x ∷ xs) ys = at (eqb c x) (any_append c xs ys)
  where
    at : (b : Bool) {r : Bool} → r ≡ any (eqb c) xs || any (eqb c) ys → b || r ≡ (b || any (eqb c) xs) || any (eqb c) ys
    at true e = refl
    at false e = e

or_none : (a : Bool) → a || false ≡ a
or_none true = refl
or_none false = refl

both_parts : (c : ℕ) → any (eqb c) white_space ≡ any (eqb c) (take 6 white_space) || any (eqb c) (drop 6 white_space)
both_parts c = ap (any (eqb c)) (sym (take-append-drop 6 white_space)) ∙ any_append c (take 6 white_space) (drop 6 white_space)

first_low : T (all (λ c. ltb c 0x80) (take 6 white_space))
unfolding white_space
first_low = tt

others_high : T (all (leb 0x80) (drop 6 white_space))
unfolding white_space
others_high = tt

none_of : (p : ℕ → Bool) (c : ℕ) (cs : List ℕ) → T (all p cs) → (T (p c) → ⊥) → any (eqb c) cs ≡ false
none_of p c cs a n = is_false (any (eqb c) cs) (not_T (any (eqb c) cs) (λ t. n (each p cs c a t)))

pub low_part : (c : ℕ) → c < 0x80 → any (eqb c) (take 6 (drop 0 white_space)) ≡ any (eqb c) white_space
low_part c h =
    let none : any (eqb c) (drop 6 white_space) ≡ false =
    none_of (leb 0x80) c (drop 6 white_space) others_high (λ t. omega (arith, leb→le 0x80 c t)) in
    sym (both_parts c ∙ rw none (or_none (any (eqb c) (take 6 white_space))))

others : take 19 (drop 6 white_space) ≡ drop 6 white_space
unfolding white_space
others = refl

pub high_part : (c : ℕ) → 0x80 ≤ c → any (eqb c) (take 19 (drop 6 white_space)) ≡ any (eqb c) white_space
high_part c h =
    let none : any (eqb c) (take 6 white_space) ≡ false =
    none_of (λ x. ltb x 0x80) c (take 6 white_space) first_low (λ t. omega (arith, ltb→lt c 0x80 t)) in
    rw others (sym (both_parts c ∙ rw none))
