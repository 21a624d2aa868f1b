-- Where a summary stops: of a message that is trimmed, it is what the pieces of its front add up to, up to where an LF directly follows an LF
-- and without the white space at the end (summary_stop). Assumes nothing.
use Rattle.std.specs.Prelude.{if◌then◌else◌}
use mathlib.Core.Bool.{Bool, true, false, false≢true, not, ◌&&◌}
use mathlib.Core.List.{List, [], ◌∷◌, ◌++◌, map, append_assoc}
use mathlib.Core.Path.{◌≡◌, refl, sym, ap, subst, ◌∙◌}
use Prim.Native.Nat.{ℕ, zero, suc, ◌+◌, ◌≤◌, ◌<◌}
use native.Mathlib.Nat.{zero-add}
use native.Mathlib.Omega.{arith}
use borrow.Author.Tests.{eqb-true, eqb-false}
use lib.Dec.{T, eqb, leb, leb→le}
use lib.ListN.{length, take, drop, length-append}
use lib.Seq.{length-take-le, take-take, take-append_seam}
use Rattle.rules.specs.Bytes.{LF, space, blank_byte, within}
use Rattle.rules.specs.Lists.{All, Ends, join, run}
use Rattle.rules.specs.Summary.{added, ahead, folded, pieces, spaced, stops, up_to}
use Rattle.rules.specs.White.{Form, White, none, more, trim, trim_end}
use Rattle.rules.proofs.Lists.{is_false}
use Rattle.rules.proofs.Spaces.{alone, ends_part, lf_form, space_form}
use Rattle.rules.proofs.SummaryTwice.{added_ends, blank_form, by_lfs, pieces_joined}
use Rattle.rules.proofs.White.{BeginsWithNone, EndsWithNone, back_trimmed, form_filled, trim_end-length, trim_end_of, trim_end_stop, trimmed, white_append, white_form}
use Rattle.find.specs.Find.{is_lf, until_lf}
use Rattle.summary.specs.Followed.{until_followed}
use Rattle.summary.proofs.Followed.{until_fits}
use Rattle.summary.proofs.InOne.{goes, in_one_lem, in_one-append, in_one}
use Rattle.summary.proofs.Pieces.{some_piece}

-- ---- the pieces before two LFs are those of the front

-- the front that the search finds
abbrev front : List ℕ → List ℕ
front s = take (until_followed LF LF s) s

pub lf_alone : (c : ℕ) → within LF LF c ≡ eqb c LF
lf_alone c = by (eqb c LF) refl
  where
    by : (b : Bool) → eqb c LF ≡ b → within LF LF c ≡ b
    by true e = rw (eqb-true c LF e)
    by false e = at (leb LF c) (leb c LF) refl refl
      where
        at : (x y : Bool) → leb LF c ≡ x → leb c LF ≡ y → (x && y) ≡ false
        at true true p q = absurd (eqb-false c LF e (omega (arith, leb→le LF c (rw p tt), leb→le c LF (rw q tt))))
        at true false p q = refl
        at false y p q = refl

-- byte by byte
front_more : (c d : ℕ) (s : List ℕ) → front (c ∷ d ∷ s) ≡ (if eqb c LF && eqb d LF then [] else c ∷ front (d ∷ s))
front_more c d s = rw (lf_alone c) (by (eqb c LF && eqb d LF))
  where
    by : (b : Bool) → take (if b then 0 else suc (until_followed LF LF (d ∷ s))) (c ∷ d ∷ s) ≡ (if b then [] else c ∷ front (d ∷ s))
    by true = refl
    by false = refl

moves : (c d : ℕ) (s : List ℕ) (a b : Bool) → eqb c LF ≡ a → eqb d LF ≡ b → (a && b) ≡ false → front (c ∷ d ∷ s) ≡ c ∷ front (d ∷ s)
moves c d s a b f g h = front_more c d s ∙ rw (f, g, h)

stops_more : (c : ℕ) (p : List ℕ) (ps : List (List ℕ)) → stops ((c ∷ p) ∷ ps) ≡ stops ps
stops_more c p [] = refl
stops_more c p (q ∷ ps) = refl

-- what the pieces behind the first one say of the front
abbrev Cut : List ℕ → List (List ℕ) → Type 0
Cut s [] = Unit {0}
Cut s (p ∷ ps) = (stops ps ≡ true → pieces (front s) ≡ p ∷ up_to ps) × (stops ps ≡ false → front s ≡ s)

module _ (c d : ℕ) (s : List ℕ) where
  -- a byte of the first piece
  grown : (b : Bool) → eqb c LF ≡ false → eqb d LF ≡ b → (p : List ℕ) (ps : List (List ℕ)) → Cut (d ∷ s) (p ∷ ps) → Cut (c ∷ d ∷ s) ((c ∷ p) ∷ ps)
  grown b f g p ps (stop, whole) =
      let m : front (c ∷ d ∷ s) ≡ c ∷ front (d ∷ s) = moves c d s false b f g refl in
      (λ t. ap pieces m ∙ rw (f, stop t), λ t. m ∙ ap (λ (r : List ℕ). c ∷ r) (whole t))

  cut_step : (a b : Bool) → eqb c LF ≡ a → eqb d LF ≡ b → (q : List ℕ) (qs : List (List ℕ)) → Cut (d ∷ s) (ahead b d (q ∷ qs)) →
      Cut (c ∷ d ∷ s) (ahead a c (ahead b d (q ∷ qs)))
  cut_step true true f g q qs later =
      let m : front (c ∷ d ∷ s) ≡ [] = front_more c d s ∙ rw (f, g) in
      (λ t. ap pieces m, λ t. absurd (false≢true (sym t)))
  cut_step true false f g q qs (stop, whole) =
      let m : front (c ∷ d ∷ s) ≡ c ∷ front (d ∷ s) = moves c d s true false f g refl in
      let n : stops ((d ∷ q) ∷ qs) ≡ stops qs = stops_more d q qs in
      (λ t. ap pieces m ∙ rw (f, stop (sym n ∙ t)), λ t. m ∙ ap (λ (r : List ℕ). c ∷ r) (whole (sym n ∙ t)))
  cut_step false true f g q qs later = grown true f g [] (q ∷ qs) later
  cut_step false false f g q qs later = grown false f g (d ∷ q) qs later

cut : (s : List ℕ) → Cut s (pieces s)
cut [] = (λ t. absurd (false≢true t), λ t. refl)
cut (c ∷ []) = by (eqb c LF)
  where
    by : (b : Bool) → Cut (c ∷ []) (ahead b c ([] ∷ []))
    by true = (λ t. absurd (false≢true t), λ t. refl)
    by false = (λ t. absurd (false≢true t), λ t. refl)
cut (c ∷ d ∷ s) =
    let (q, qs, e) = some_piece s in
    let later : Cut (d ∷ s) (ahead (eqb d LF) d (q ∷ qs)) = subst (λ (ps : List (List ℕ)). Cut (d ∷ s) (ahead (eqb d LF) d ps)) e (cut (d ∷ s)) in
    subst (λ (ps : List (List ℕ)). Cut (c ∷ d ∷ s) (ahead (eqb c LF) c (ahead (eqb d LF) d ps))) (sym e)
    (cut_step c d s (eqb c LF) (eqb d LF) refl refl q qs later)

-- ---- an LF more at the end: the last piece is folded too

pieces_lf : (s : List ℕ) → pieces (s ++ LF ∷ []) ≡ pieces s ++ [] ∷ []
pieces_lf [] = refl
pieces_lf (c ∷ s) = let (p, ps, e) = some_piece s in rw (pieces_lf s, e) (by (eqb c LF) p ps)
  where
    by : (b : Bool) (p : List ℕ) (ps : List (List ℕ)) → ahead b c (p ∷ ps ++ [] ∷ []) ≡ ahead b c (p ∷ ps) ++ [] ∷ []
    by true p ps = refl
    by false p ps = refl

added_lf : (p : List ℕ) (ps : List (List ℕ)) → added (p ∷ ps ++ [] ∷ []) ≡ join (map folded (p ∷ ps))
added_lf p [] = refl
added_lf p (q ∷ ps) = ap (λ (r : List ℕ). folded p ++ r) (added_lf q ps)

all_folded : (s : List ℕ) → join (map folded (pieces s)) ≡ in_one (s ++ LF ∷ [])
all_folded s =
    let (p, ps, e) = some_piece s in
    sym (ap (λ (qs : List (List ℕ)). added (qs ++ [] ∷ [])) e ∙ added_lf p ps ∙ ap (λ (qs : List (List ℕ)). join (map folded qs)) (sym e))
    ∙ ap added (sym (pieces_lf s)) ∙ in_one_lem (s ++ LF ∷ [])

-- ---- white space in one line is white space

-- no byte of a form of several is a blank
form_solid : (a f : List ℕ) → Form (a ++ f) → 1 < length (a ++ f) → All (λ c. not (blank_byte c)) f
form_solid a [] m h = tt
form_solid a (c ∷ f) m h =
    let k : a ++ c ∷ f ≡ (a ++ c ∷ []) ++ f = sym (append_assoc a (c ∷ []) f) in
    (by (blank_byte c) refl, form_solid (a ++ c ∷ []) f (rw k at m) (rw k at h))
  where
    by : (b : Bool) → blank_byte c ≡ b → T (not b)
    by true e = let (p, q) = alone c a f (blank_form c (rw e tt)) m in absurd (omega (arith, length-append a (c ∷ f), ap length p, ap length q))
    by false e = tt

no_lf : (c : ℕ) → T (not (blank_byte c)) → eqb c LF ≡ false
unfolding blank_byte
no_lf c n = by (eqb c LF) refl
  where
    by : (b : Bool) → eqb c LF ≡ b → b ≡ false
    by true e = absurd (rw (eqb-true c LF e) at n)
    by false e = refl

solid_front : (f x : List ℕ) → All (λ c. not (blank_byte c)) f → in_one (f ++ x) ≡ f ++ in_one x
solid_front [] x a = refl
solid_front (c ∷ f) x (n, a) = rw (no_lf c n, is_false (blank_byte c) n) (ap (λ (r : List ℕ). c ∷ r) (solid_front f x a))

white_in_one : {w : List ℕ} → White w → White (in_one w)
white_in_one none = none
white_in_one (more f {s} m w) = at f m (white_in_one w)
  where
    one : (b g : Bool) (c : ℕ) → Form (c ∷ []) → White (in_one s) → White (if b then space ∷ in_one s else if g then in_one s else c ∷ in_one s)
    one true g c m v = more (space ∷ []) space_form v
    one false true c m v = v
    one false false c m v = more (c ∷ []) m v

    at : (f : List ℕ) → Form f → White (in_one s) → White (in_one (f ++ s))
    at [] m v = absurd (form_filled [] m)
    at (c ∷ []) m v = one (eqb c LF) (blank_byte c && goes s) c m v
    at (c ∷ d ∷ f) m v = rw (solid_front (c ∷ d ∷ f) s (form_solid [] (c ∷ d ∷ f) m (omega arith))) (more (c ∷ d ∷ f) m v)

-- ---- so trimming before and behind is the same

ends_solid : (k : List ℕ) → EndsWithNone k → Ends blank_byte k
ends_solid [] n = tt
ends_solid (c ∷ []) n = by (blank_byte c) refl
  where
    by : (b : Bool) → blank_byte c ≡ b → T (not b)
    by true e = absurd (n (c ∷ []) [] (blank_form c (rw e tt)) refl)
    by false e = tt
ends_solid (c ∷ d ∷ k) n = ends_solid (d ∷ k) (ends_part (c ∷ []) (d ∷ k) n)

in_one_ends : (k : List ℕ) → EndsWithNone k → EndsWithNone (in_one k)
in_one_ends k n =
    let (p, ps, e) = some_piece k in
    let j : by_lfs (p ∷ ps) ≡ k = ap by_lfs (sym e) ∙ pieces_joined k in
    let o : added (p ∷ ps) ≡ in_one k = ap added (sym e) ∙ in_one_lem k in
    subst EndsWithNone o (added_ends ps p (subst EndsWithNone (sym j) n))

trim_in_one : (u : List ℕ) → trim_end (in_one (u ++ LF ∷ [])) ≡ in_one (trim_end u)
trim_in_one u =
    let (back, v, q, n) = back_trimmed u in
    let k : List ℕ = trim_end u in
    let w : White (in_one (back ++ LF ∷ [])) = white_in_one (white_append v (white_form (LF ∷ []) lf_form)) in
    let e : u ++ LF ∷ [] ≡ k ++ (back ++ LF ∷ []) = ap (λ (x : List ℕ). x ++ LF ∷ []) q ∙ append_assoc k back (LF ∷ []) in
    ap (λ (x : List ℕ). trim_end (in_one x)) e ∙ ap trim_end (in_one-append k (back ++ LF ∷ []) (ends_solid k n))
    ∙ trim_end_of (in_one k) (in_one (back ++ LF ∷ [])) (in_one_ends k n) w

-- ---- the summary

-- of a message whose first piece is not empty
summary_cut : (m : List ℕ) (c : ℕ) (p : List ℕ) (ps : List (List ℕ)) → pieces m ≡ (c ∷ p) ∷ ps → EndsWithNone m →
    spaced (pieces m) ≡ added (pieces (trim_end (front m)))
unfolding spaced
summary_cut m c p ps e n = by (stops ps) refl
  where
    both : Cut m ((c ∷ p) ∷ ps)
    both = subst (Cut m) e (cut m)

    by : (b : Bool) → stops ps ≡ b → spaced (pieces m) ≡ added (pieces (trim_end (front m)))
    by true t =
        let s : spaced ((c ∷ p) ∷ ps) ≡ trim_end (join (map folded ((c ∷ p) ∷ up_to ps))) = rw (stops_more c p ps ∙ t) in
        ap spaced e ∙ s ∙ ap (λ (qs : List (List ℕ)). trim_end (join (map folded qs))) (sym (both.0 t))
        ∙ ap trim_end (all_folded (front m)) ∙ trim_in_one (front m) ∙ sym (in_one_lem (trim_end (front m)))
    by false t =
        let s : spaced ((c ∷ p) ∷ ps) ≡ added ((c ∷ p) ∷ ps) = rw (stops_more c p ps ∙ t) in
        let w : trim_end (front m) ≡ m = ap trim_end (both.1 t) ∙ trim_end_stop m n in
        ap spaced e ∙ s ∙ ap added (sym e) ∙ ap (λ (x : List ℕ). added (pieces x)) (sym w)

pub summary_stop : (m : List ℕ) → trim m ≡ m → spaced (pieces m) ≡ added (pieces (trim_end (take (until_followed LF LF m) m)))
unfolding spaced
summary_stop m e = by m (subst BeginsWithNone e (trimmed m).begins_with_none) (subst EndsWithNone e (trimmed m).ends_with_none)
  where
    by : (m : List ℕ) → BeginsWithNone m → EndsWithNone m → spaced (pieces m) ≡ added (pieces (trim_end (front m)))
    by [] b n = rw (trim_end_stop [] n)
    by (c ∷ s) b n =
        let (p, ps, o) = some_piece s in
        summary_cut (c ∷ s) c p ps (rw (first (eqb c LF) refl, o)) n
      where
        first : (a : Bool) → eqb c LF ≡ a → eqb c LF ≡ false
        first true q = absurd (b (LF ∷ []) s lf_form (rw (eqb-true c LF q)))
        first false q = q

-- ---- as it is read

-- before the first LF there are no two
first_two : (n : ℕ) (s : List ℕ) → n ≤ until_lf s → until_followed LF LF s ≡ n + until_followed LF LF (drop n s)
first_two zero s h = sym (zero-add (until_followed LF LF s))
first_two (suc n) [] h = absurd (omega arith)
first_two (suc n) (c ∷ s) h = by (eqb c LF) refl h (first_two n s)
  where
    by : (b : Bool) → eqb c LF ≡ b → suc n ≤ length (if not b then c ∷ run (λ x. not (is_lf x)) s else []) →
        (n ≤ until_lf s → until_followed LF LF s ≡ n + until_followed LF LF (drop n s)) →
        until_followed LF LF (c ∷ s) ≡ suc n + until_followed LF LF (drop n s)
    by true e k later = absurd (omega arith)
    by false e k later = omega (arith, passed s, later (omega arith))
      where
        passed : (s : List ℕ) → until_followed LF LF (c ∷ s) ≡ suc (until_followed LF LF s)
        passed [] = refl
        passed (d ∷ s) = rw (lf_alone c, e)

-- the first LF of a message that is trimmed, the place of two, and how much stays before that
module _ (m : List ℕ) (first end : ℕ) (f : first ≡ until_lf m) (e : end ≡ first + until_followed LF LF (drop first m)) where
  stop : end ≡ until_followed LF LF m
  stop = omega (arith, first_two first m (omega arith))

  pub stop_fits : end ≤ length m
  stop_fits = omega (arith, stop, until_fits LF LF m)

  module _ (kept : ℕ) (k : kept ≡ length (trim_end (take end m))) where
    pub kept_fits : kept ≤ end
    kept_fits = omega (arith, trim_end-length (take end m), length-take-le end m stop_fits)

    kept_front : take kept m ≡ trim_end (take end m)
    kept_front =
        let (back, w, q, n) = back_trimmed (take end m) in
        sym (take-take kept end m kept_fits) ∙ rw k (ap (take (length (trim_end (take end m)))) q ∙ take-append_seam (trim_end (take end m)) back)

    pub kept_summary : trim m ≡ m → added (pieces (take kept m)) ≡ spaced (pieces m)
    kept_summary t = ap (λ (x : List ℕ). added (pieces x)) (kept_front ∙ ap (λ (n : ℕ). trim_end (take n m)) stop) ∙ sym (summary_stop m t)
