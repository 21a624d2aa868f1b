-- What the pieces of a text add up to, byte by byte: an LF becomes a space, and a blank goes where only blanks stand between it and the next
-- LF (in_one). So nothing goes where no blank stands before an LF (in_one_plain), and a front that ends in no blank is put in one line by
-- itself (in_one-append). Assumes nothing.
use Rattle.std.specs.Prelude.{if◌then◌else◌}
use mathlib.Core.Bool.{Bool, true, false, false≢true, and-false, ◌&&◌, ◌||◌}
use mathlib.Core.List.{List, [], ◌∷◌, ◌++◌}
use mathlib.Core.Path.{◌≡◌, refl, sym, ap, ◌∙◌}
use Prim.Native.Nat.{ℕ, suc, ◌≤◌}
use native.Mathlib.Omega.{arith}
use lib.Dec.{eqb}
use lib.ListN.{length}
use Rattle.rules.specs.Bytes.{LF, space, blank_byte}
use Rattle.rules.specs.Lists.{all, Ends}
use Rattle.rules.specs.Summary.{added, ahead, drop_blanks, folded, pieces}
use Rattle.rules.proofs.Lists.{is_false}
use Rattle.summary.specs.Followed.{any_followed}
use Rattle.summary.specs.Spaces.{with_spaces}
use Rattle.summary.proofs.Blanks.{blank_low}
use Rattle.summary.proofs.Followed.{none_behind}
use Rattle.summary.proofs.Pieces.{some_piece}

-- only blanks stand before the next LF
abbrev pub goes : List ℕ → Bool
goes [] = false
goes (c ∷ s) = eqb c LF || (blank_byte c && goes s)

abbrev pub in_one : List ℕ → List ℕ
in_one [] = []
in_one (c ∷ s) = if eqb c LF then space ∷ in_one s else if blank_byte c && goes s then in_one s else c ∷ in_one s

-- ---- it is what the pieces add up to

-- the same of the pieces: there is a second, and the first is all blank
abbrev goes_of : List (List ℕ) → Bool
goes_of [] = false
goes_of (p ∷ []) = false
goes_of (p ∷ q ∷ ps) = all blank_byte p

goes_of_lem : (s : List ℕ) → goes s ≡ goes_of (pieces s)
goes_of_lem [] = refl
goes_of_lem (c ∷ s) = let (p, ps, e) = some_piece s in rw (goes_of_lem s, e) (by (eqb c LF) p ps)
  where
    by : (b : Bool) (p : List ℕ) (ps : List (List ℕ)) → (b || (blank_byte c && goes_of (p ∷ ps))) ≡ goes_of (ahead b c (p ∷ ps))
    by true p ps = refl
    by false p [] = and-false (blank_byte c)
    by false p (q ∷ ps) = refl

none_left : (p : List ℕ) → all blank_byte p ≡ true → drop_blanks p ≡ []
none_left [] e = refl
none_left (c ∷ p) e = rw e

module _ (c : ℕ) (p a : List ℕ) where
  -- of a piece with a byte more at its front
  one_more : (b d : Bool) → all blank_byte p ≡ d →
      ((if b && d then [] else c ∷ drop_blanks p) ++ space ∷ []) ++ a ≡ (if b && d then folded p ++ a else c ∷ (folded p ++ a))
  one_more true true e = rw (none_left p e)
  one_more true false e = refl
  one_more false d e = refl

pub in_one_lem : (s : List ℕ) → added (pieces s) ≡ in_one s
in_one_lem [] = refl
in_one_lem (c ∷ s) = let (p, ps, e) = some_piece s in rw (goes_of_lem s, ← in_one_lem s, e) (by (eqb c LF) p ps)
  where
    by : (b : Bool) (p : List ℕ) (ps : List (List ℕ)) → added (ahead b c (p ∷ ps))
        ≡ (if b then space ∷ added (p ∷ ps) else if blank_byte c && goes_of (p ∷ ps) then added (p ∷ ps) else c ∷ added (p ∷ ps))
    by true p ps = refl
    by false p [] = rw (and-false (blank_byte c))
    by false p (q ∷ ps) = one_more c p (added (q ∷ ps)) (blank_byte c) (all blank_byte p) refl

-- ---- it is no longer, and where no blank stands before an LF it is as long

pub in_one_short : (s : List ℕ) → length (in_one s) ≤ length s
in_one_short [] = omega arith
in_one_short (c ∷ s) = by (eqb c LF) (blank_byte c && goes s) (in_one_short s)
  where
    by : (b d : Bool) → length (in_one s) ≤ length s →
        length (if b then space ∷ in_one s else if d then in_one s else c ∷ in_one s) ≤ suc (length s)
    by true d h = omega arith
    by false true h = omega arith
    by false false h = omega arith

goes_followed : (s : List ℕ) (c : ℕ) → blank_byte c ≡ true → goes s ≡ true → any_followed 0 32 (c ∷ s) ≡ true
goes_followed [] c b e = absurd (false≢true e)
goes_followed (d ∷ s) c b e = rw (blank_low c (rw b tt)) (by (eqb d LF) (blank_byte d) refl e (goes_followed s d))
  where
    by : (a f : Bool) → blank_byte d ≡ f → (a || (f && goes s)) ≡ true → (blank_byte d ≡ true → goes s ≡ true → any_followed 0 32 (d ∷ s) ≡ true) →
        (a || any_followed 0 32 (d ∷ s)) ≡ true
    by true f k h more = refl
    by false true k h more = more k h
    by false false k h more = absurd (false≢true h)

pub in_one_plain : (s : List ℕ) → any_followed 0 32 s ≡ false → in_one s ≡ with_spaces s
in_one_plain [] e = refl
in_one_plain (c ∷ s) e = by (eqb c LF) (blank_byte c) (goes s) refl refl (in_one_plain s (none_behind 0 32 c s e))
  where
    by : (a b g : Bool) → blank_byte c ≡ b → goes s ≡ g → in_one s ≡ with_spaces s →
        (if a then space ∷ in_one s else if b && g then in_one s else c ∷ in_one s) ≡ (if a then space else c) ∷ with_spaces s
    by true b g p q h = ap (λ (r : List ℕ). space ∷ r) h
    by false true true p q h = absurd (false≢true (sym e ∙ goes_followed s c p q))
    by false true false p q h = ap (λ (r : List ℕ). c ∷ r) h
    by false false g p q h = ap (λ (r : List ℕ). c ∷ r) h

-- ---- a front that ends in no blank

goes-append : (c : ℕ) (k x : List ℕ) → Ends blank_byte (c ∷ k) → goes (c ∷ k ++ x) ≡ goes (c ∷ k)
goes-append c [] x n = rw (is_false (blank_byte c) n)
goes-append c (d ∷ k) x n = ap (λ (b : Bool). eqb c LF || (blank_byte c && b)) (goes-append d k x n)

pub in_one-append : (k x : List ℕ) → Ends blank_byte k → in_one (k ++ x) ≡ in_one k ++ in_one x
in_one-append [] x n = refl
in_one-append (c ∷ []) x n = rw (is_false (blank_byte c) n) (by (eqb c LF))
  where
    by : (b : Bool) → (if b then space ∷ in_one x else c ∷ in_one x) ≡ (if b then space ∷ [] else c ∷ []) ++ in_one x
    by true = refl
    by false = refl
in_one-append (c ∷ d ∷ k) x n =
    rw (goes-append d k x n, in_one-append (d ∷ k) x n) (by (eqb c LF) (blank_byte c && goes (d ∷ k)) (in_one (d ∷ k)))
  where
    by : (b g : Bool) (l : List ℕ) →
        (if b then space ∷ (l ++ in_one x) else if g then l ++ in_one x else c ∷ (l ++ in_one x))
        ≡ (if b then space ∷ l else if g then l else c ∷ l) ++ in_one x
    by true g l = refl
    by false true l = refl
    by false false l = refl
