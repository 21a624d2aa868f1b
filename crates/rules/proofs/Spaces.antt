-- A space that is put in makes no white space: no form of several bytes holds a space or an LF (alone), so what begins and
-- ends with no form still does with a space and more behind it, or before it (begins_space, ends_space). And trimming a line
-- leaves no LF of it (no_lf_part, no_lf_line). For the theorems of K9. Assumes nothing.
use mathlib.Core.List.{List, [], ◌∷◌, ◌++◌, append_assoc, append-nil, nil≢cons}
use mathlib.Core.Logic.{inl, inr}
use mathlib.Core.Path.{◌≡◌, refl, sym, ap, ◌∙◌}
use Prim.Native.Nat.{ℕ}
use lib.Dec.{T}
use Rattle.rules.specs.Bytes.{LF, space}
use Rattle.rules.specs.Lines.{inner}
use Rattle.rules.specs.Lists.{All, filled}
use Rattle.rules.specs.White.{white_space, forms, Form, Trimmed, trim, trim_at}
use Rattle.rules.proofs.Lists.{all_left, all_right}
use Rattle.rules.proofs.White.{cuts, form_front, form_inside, BeginsWithNone, EndsWithNone, trimmed}

pub space_form : Form (space ∷ [])
unfolding forms white_space
space_form = tt

pub lf_form : Form (LF ∷ [])
unfolding forms white_space
lf_form = tt

-- a byte that is a form stands in a form only by itself: no form of several bytes holds a space or an LF
pub alone : (x : ℕ) (a b : List ℕ) → Form (x ∷ []) → Form (a ++ x ∷ b) → (a ≡ []) × (b ≡ [])
alone x [] b k m =
    let h : x ∷ b ≡ x ∷ [] = form_front (x ∷ b) [] (x ∷ []) b m k (append-nil (x ∷ b)) in
    (refl, cc)
alone x (c ∷ a) b k m = absurd (form_inside c a (x ∷ b) [] (x ∷ []) b m tt k (append-nil (x ∷ b)))

-- ---- a space put in makes no form at the front, and none at the end

pub begins_space : (s rest : List ℕ) → T (filled s) → BeginsWithNone s → BeginsWithNone (s ++ space ∷ rest)
begins_space [] rest k b f r m e = k
begins_space (c ∷ s) rest k b f r m e =
    elim (cuts (c ∷ s) (space ∷ rest) f r e) [
      | inl ([], p, q) ↦ b f [] m (sym (append-nil f ∙ p ∙ append-nil (c ∷ s)))
      | inl (d ∷ t, p, q) ↦ form_inside c s (d ∷ t) r (space ∷ []) rest (rw p at m) tt space_form (sym q)
      | inr (t, j, p, q) ↦ b f t m p
    ]

pub ends_space : (front s : List ℕ) → T (filled s) → EndsWithNone s → EndsWithNone (front ++ space ∷ s)
ends_space front s k n f r m e =
    elim (cuts front (space ∷ s) r f e) [
      | inl ([], p, q) ↦ holds_space [] (sym q)
      | inl (c ∷ t, p, q) ↦ n f t m (cc)
      | inr (t, j, p, q) ↦ holds_space t q
    ]
  where
    holds_space : (t : List ℕ) → f ≡ t ++ space ∷ s → ⊥
    holds_space t q =
        let h : s ≡ [] = (alone space t s space_form (rw q at m)).1 in
        rw h at k

-- ---- a part from the front begins, and a part to the end ends, as the whole does

pub begins_part : (s t : List ℕ) → BeginsWithNone (s ++ t) → BeginsWithNone s
begins_part s t b f rest m e = b f (rest ++ t) m (ap (λ (x : List ℕ). x ++ t) e ∙ append_assoc f rest t)

pub ends_part : (s t : List ℕ) → EndsWithNone (s ++ t) → EndsWithNone t
ends_part s t n f rest m e = n f (s ++ rest) m (ap (λ (x : List ℕ). s ++ x) e ∙ sym (append_assoc s rest f))

-- ---- no LF is left in a trimmed line: of one without LF, and of one that ends in it

pub no_lf_part : (s : List ℕ) → All inner s → All inner (trim s)
no_lf_part s a =
    let r : Trimmed s (trim s) (trim_at s) = trimmed s in
    all_left inner (trim s) r.back (all_right inner r.front (trim s ++ r.back) (rw r.read at a))

one_byte : (x : ℕ) (u v : List ℕ) → T (filled u) → x ∷ [] ≡ u ++ v → (u ≡ x ∷ []) × (v ≡ [])
one_byte x [] v k e = absurd k
one_byte x (c ∷ []) v k e = (cc, cc)
one_byte x (c ∷ d ∷ u) v k e = absurd (nil≢cons (tails e))
  where
    tails : {w : List ℕ} → x ∷ [] ≡ c ∷ w → [] ≡ w
    tails e = cc

no_lf_kept : (t front kept back : List ℕ) → All inner t → t ++ LF ∷ [] ≡ front ++ (kept ++ back) → EndsWithNone kept → All inner kept
no_lf_kept t front kept back a e n =
    elim (cuts (front ++ kept) back t (LF ∷ []) (append_assoc front kept back ∙ sym e)) [
      | inl (u, p, q) ↦ all_right inner front kept (all_left inner (front ++ kept) u (rw p at a))
      | inr (u, k, p, q) ↦
          elim (cuts front kept t (LF ∷ []) (p ∙ ap (λ (x : List ℕ). t ++ x) (one_byte LF u back k q).0)) [
            | inl (v, o, h) ↦ absurd (n (LF ∷ []) v lf_form h)
            | inr (v, j, o, h) ↦ rw (one_byte LF v kept j h).1 tt
          ]
    ]

pub no_lf_line : (t : List ℕ) → All inner t → All inner (trim (t ++ LF ∷ []))
no_lf_line t a =
    let s : List ℕ = t ++ LF ∷ [] in
    let r : Trimmed s (trim s) (trim_at s) = trimmed s in
    no_lf_kept t r.front (trim s) r.back a r.read r.ends_with_none
