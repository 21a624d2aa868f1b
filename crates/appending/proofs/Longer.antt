-- A paragraph with one line more at its end, of the first two kinds, stays accepted (accepted_longer), and its trailers are the
-- old ones, then the new one (walk-longer). Its last line may have been given the LF that it lacked. Assumes nothing.
use Rattle.std.specs.Prelude.{if◌then◌else◌}
use mathlib.Core.Bool.{Bool, true, false, not, ◌&&◌, ◌||◌}
use mathlib.Core.List.{List, [], ◌∷◌, ◌++◌, map, append_assoc, append-nil}
use mathlib.Core.Logic.{◌⊎◌, inl, inr}
use mathlib.Core.Path.{◌≡◌, refl, sym, ap, ◌∙◌}
use Prim.Native.Nat.{ℕ, suc, ◌+◌, ◌*◌}
use native.Mathlib.Omega.{arith}
use lib.Dec.{T, eqb, leb, leb→le, le→leb, lt→ltb, ltb}
use lib.ListN.{length}
use Rattle.rules.specs.Lines.{Line, folds}
use Rattle.rules.specs.Lists.{join, run}
use Rattle.rules.specs.Paragraph.{recognised, leads, group, Grouped, grouped, lead_count, other_count, any_recognised, accepts, accepted, onto, groups}
use Rattle.rules.specs.Trailer.{trailer, trailer_line, value_in, unfolded, walk}
use Rattle.rules.proofs.Lists.{and_both, and_left, and_right, is_false, is_true, or_cases, or_left, or_right}
use Rattle.appending.specs.Added.{told_of}
use Rattle.appending.proofs.Alike.{Alike, same_leads}

-- ---- the counts

abbrev pub Longer : Grouped → Grouped → Type 0
Longer (grouped top gs) (grouped up hs) =
    (length up ≡ length top) × (lead_count hs ≡ suc (lead_count gs)) × (other_count hs ≡ other_count gs) × (T (any_recognised gs) → T (any_recognised hs))

or_more : (a b c : Bool) → (T b → T c) → T (a || b) → T (a || c)
or_more true b c f t = tt
or_more false b c f t = f t

longer_onto : (b : Bool) (q : Line) (g h : Grouped) → Longer g h → Longer (onto b q g) (onto b q h)
longer_onto true q (grouped top gs) (grouped up hs) r = (omega arith, r.1, r.2, r.3)
longer_onto false q (grouped top gs) (grouped up hs) r =
    (refl, omega arith, rw (r.0, r.2), or_more (recognised q) (any_recognised gs) (any_recognised hs) r.3)

module _ (l k new : Line) (r : Alike l k) (f : T (not (folds new))) (t : T (leads new)) where
  longer_last : Longer (groups (l ∷ [])) (groups (k ∷ new ∷ []))
  longer_last = rw (is_false (folds new) f, r.same_folds) (by (folds l))
    where
      by : (b : Bool) → Longer (onto b l (grouped [] [])) (onto b k (grouped [] (group new [] ∷ [])))
      by true = rw (is_true (leads new) t) (refl, refl, refl, λ x. absurd x)
      by false = rw (is_true (leads new) t, same_leads r, r.same_recognised)
          (refl, omega arith, omega arith, or_more (recognised l) false (recognised new || false) (λ x. absurd x))

  pub longer : (ps : List Line) → Longer (groups (ps ++ l ∷ [])) (groups (ps ++ k ∷ new ∷ []))
  longer [] = longer_last
  longer (q ∷ ps) = longer_onto (folds q) q (groups (ps ++ l ∷ [])) (groups (ps ++ k ∷ new ∷ [])) (longer ps)

accepts_more : (t n : ℕ) (one two : Bool) → (T one → T two) → T (accepts t n one) → T (accepts (suc t) n two)
accepts_more t n one two f h = elim (or_cases (ltb 0 t && eqb n 0) (one && leb n (3 * t)) h) [
  | inl x ↦ or_left (ltb 0 (suc t) && eqb n 0) (two && leb n (3 * suc t)) (and_both (ltb 0 (suc t)) (eqb n 0) (lt→ltb 0 (suc t) (omega arith)) (and_right (ltb 0 t) (eqb n 0) x))
  | inr x ↦ or_right (ltb 0 (suc t) && eqb n 0) (two && leb n (3 * suc t))
      (and_both two (leb n (3 * suc t)) (f (and_left one (leb n (3 * t)) x)) (le→leb n (3 * suc t) (omega (arith, leb→le n (3 * t) (and_right one (leb n (3 * t)) x)))))
]

pub accepted_longer : (g h : Grouped) → Longer g h → T (accepted g) → T (accepted h)
unfolding accepted
accepted_longer (grouped top gs) (grouped up hs) r t =
    rw (r.0, r.1, r.2) (accepts_more (lead_count gs) (length top + other_count gs) (any_recognised gs) (any_recognised hs) r.3 t)

-- ---- the walk

module _ (l k : Line) (r : Alike l k) where
  run_last : (ps : List Line) →
      (join (run folds (ps ++ k ∷ [])) ≡ join (run folds (ps ++ l ∷ [])))
      ⊎ (join (run folds (ps ++ k ∷ [])) ≡ join (run folds (ps ++ l ∷ [])) ++ r.more)
  run_last [] = rw r.same_folds (by (folds l))
    where
      by : (b : Bool) → (join (if b then k ∷ [] else []) ≡ join (if b then l ∷ [] else []))
          ⊎ (join (if b then k ∷ [] else []) ≡ join (if b then l ∷ [] else []) ++ r.more)
      by true = inr (append-nil k ∙ r.is ∙ ap (λ (x : List ℕ). x ++ r.more) (sym (append-nil l)))
      by false = inl refl
  run_last (q ∷ ps) = by (folds q) (run_last ps)
    where
      by : (b : Bool) →
          (join (run folds (ps ++ k ∷ [])) ≡ join (run folds (ps ++ l ∷ [])))
          ⊎ (join (run folds (ps ++ k ∷ [])) ≡ join (run folds (ps ++ l ∷ [])) ++ r.more) →
          (join (if b then q ∷ run folds (ps ++ k ∷ []) else []) ≡ join (if b then q ∷ run folds (ps ++ l ∷ []) else []))
          ⊎ (join (if b then q ∷ run folds (ps ++ k ∷ []) else []) ≡ join (if b then q ∷ run folds (ps ++ l ∷ []) else []) ++ r.more)
      by true (inl e) = inl (ap (λ (x : List ℕ). q ++ x) e)
      by true (inr e) = inr (ap (λ (x : List ℕ). q ++ x) e ∙ sym (append_assoc q (join (run folds (ps ++ l ∷ []))) r.more))
      by false h = inl refl

  same_value : (v : List ℕ) (ps : List Line) →
      unfolded (v ++ join (run folds (ps ++ k ∷ []))) ≡ unfolded (v ++ join (run folds (ps ++ l ∷ [])))
  same_value v ps = elim (run_last ps) [
    | inl e ↦ ap (λ (x : List ℕ). unfolded (v ++ x)) e
    | inr e ↦ ap (λ (x : List ℕ). unfolded (v ++ x)) e
        ∙ ap unfolded (sym (append_assoc v (join (run folds (ps ++ l ∷ []))) r.more))
        ∙ r.unfolds (v ++ join (run folds (ps ++ l ∷ [])))
  ]

  pub walk_last : (at : ℕ) (ps : List Line) → map told_of (walk at (ps ++ k ∷ [])) ≡ map told_of (walk at (ps ++ l ∷ []))
  walk_last at [] = rw r.same_trailer (by (trailer_line l) refl)
    where
      by : (b : Bool) → trailer_line l ≡ b → map told_of (if b then trailer at k [] ∷ [] else []) ≡ map told_of (if b then trailer at l [] ∷ [] else [])
      by true e =
          let value : unfolded (value_in k ++ []) ≡ unfolded (value_in l ++ []) =
          ap unfolded (append-nil (value_in k) ∙ r.longer (rw e tt)) ∙ r.unfolds (value_in l) ∙ ap unfolded (sym (append-nil (value_in l))) in
          rw (value, r.same_token)
      by false e = refl
  walk_last at (q ∷ ps) = by (trailer_line q) (walk_last (at + length q) ps)
    where
      by : (b : Bool) → map told_of (walk (at + length q) (ps ++ k ∷ [])) ≡ map told_of (walk (at + length q) (ps ++ l ∷ [])) →
          map told_of (if b then trailer at q (run folds (ps ++ k ∷ [])) ∷ walk (at + length q) (ps ++ k ∷ []) else walk (at + length q) (ps ++ k ∷ []))
          ≡ map told_of (if b then trailer at q (run folds (ps ++ l ∷ [])) ∷ walk (at + length q) (ps ++ l ∷ []) else walk (at + length q) (ps ++ l ∷ []))
      by true h = rw (h, same_value (value_in q) ps)
      by false h = h
