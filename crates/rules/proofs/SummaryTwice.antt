-- K9: a summary has no LF (summary_no_lf), is its own trim (summary_trims), and summarising it changes nothing (summary_twice).
-- Assumes nothing.
use Rattle.std.specs.Prelude.{if◌then◌else◌}
use mathlib.Core.Bool.{Bool, true, false, not, ◌&&◌, ◌||◌}
use mathlib.Core.List.{List, [], ◌∷◌, ◌++◌, map, append_assoc, append-nil}
use mathlib.Core.Logic.{inl, inr}
use mathlib.Core.Path.{◌≡◌, refl, sym, ap, ◌∙◌}
use Prim.Native.Nat.{ℕ}
use lib.Dec.{T, eqb, eqb→eq}
use Rattle.rules.specs.Bytes.{LF, space, blank_byte}
use Rattle.rules.specs.Lines.{inner}
use Rattle.rules.specs.Lists.{All, any, all, filled, join}
use Rattle.rules.specs.Summary.{ahead, pieces, drop_blanks, folded, added, stops, up_to, spaced, summary, summary_is_written}
use Rattle.rules.specs.White.{white_space, forms, Form, trim, trim_at, trim_end}
use Rattle.rules.proofs.Lists.{all_append, all_left, filled-append, nor, or_cases, is_false}
use Rattle.rules.proofs.Spaces.{lf_form, begins_space, ends_space, begins_part, ends_part}
use Rattle.rules.proofs.Summary.{many-pieces, summary_one}
use Rattle.rules.proofs.White.{BeginsWithNone, EndsWithNone, nil_begins, back_trimmed, trimmed, trims_itself}

-- ---- the pieces with an LF between each two are the input, and none holds an LF

abbrev pub by_lfs : List (List ℕ) → List ℕ
by_lfs [] = []
by_lfs (p ∷ []) = p
by_lfs (p ∷ q ∷ ps) = p ++ LF ∷ by_lfs (q ∷ ps)

-- what is behind the first piece
abbrev behind : List (List ℕ) → List ℕ
behind [] = []
behind (q ∷ ps) = LF ∷ by_lfs (q ∷ ps)

by_lfs_lem : (p : List ℕ) (ps : List (List ℕ)) → by_lfs (p ∷ ps) ≡ p ++ behind ps
by_lfs_lem p [] = sym (append-nil p)
by_lfs_lem p (q ∷ ps) = refl

-- there is a piece
abbrev Some : List (List ℕ) → Type 0
Some ps = (q : List ℕ) × (qs : List (List ℕ)) × (ps ≡ q ∷ qs)

ahead_some : (b : Bool) (c : ℕ) (ps : List (List ℕ)) → Some (ahead b c ps)
ahead_some true c ps = ([], ps, refl)
ahead_some false c [] = (c ∷ [], [], refl)
ahead_some false c (p ∷ ps) = (c ∷ p, ps, refl)

pieces_some : (s : List ℕ) → Some (pieces s)
pieces_some [] = ([], [], refl)
pieces_some (c ∷ s) = ahead_some (eqb c LF) c (pieces s)

ahead_joined : (b : Bool) (c : ℕ) (q : List ℕ) (qs : List (List ℕ)) → b ≡ eqb c LF → by_lfs (ahead b c (q ∷ qs)) ≡ c ∷ by_lfs (q ∷ qs)
ahead_joined true c q qs e = let h : c ≡ LF = eqb→eq c LF (rw (← e) tt) in rw h
ahead_joined false c q [] e = refl
ahead_joined false c q (p ∷ qs) e = refl

pub pieces_joined : (s : List ℕ) → by_lfs (pieces s) ≡ s
pieces_joined [] = refl
pieces_joined (c ∷ s) =
    let (q, qs, e) = pieces_some s in
    ap (λ (ps : List (List ℕ)). by_lfs (ahead (eqb c LF) c ps)) e ∙ ahead_joined (eqb c LF) c q qs refl
    ∙ ap (λ (ps : List (List ℕ)). c ∷ by_lfs ps) (sym e) ∙ ap (λ (r : List ℕ). c ∷ r) (pieces_joined s)

abbrev AllInner : List (List ℕ) → Type 0
AllInner [] = Unit {0}
AllInner (p ∷ ps) = All inner p × AllInner ps

ahead-inner : (b : Bool) (c : ℕ) (ps : List (List ℕ)) → b ≡ eqb c LF → AllInner ps → AllInner (ahead b c ps)
ahead-inner true c ps e a = (tt, a)
ahead-inner false c [] e a = ((rw (← e) tt, tt), tt)
ahead-inner false c (p ∷ ps) e a = ((rw (← e) tt, a.0), a.1)

pieces-inner : (s : List ℕ) → AllInner (pieces s)
pieces-inner [] = (tt, tt)
pieces-inner (c ∷ s) = ahead-inner (eqb c LF) c (pieces s) refl (pieces-inner s)

-- ---- no LF is left: each becomes a space, or the summary stops there

-- what is dropped stands behind what is left
pub dropped : (p : List ℕ) → (blanks : List ℕ) × (p ≡ drop_blanks p ++ blanks)
dropped [] = ([], refl)
dropped (c ∷ p) = at (all blank_byte (c ∷ p)) (dropped p)
  where
    at : (b : Bool) → ((blanks : List ℕ) × (p ≡ drop_blanks p ++ blanks))
        → (blanks : List ℕ) × (c ∷ p ≡ (if b then [] else c ∷ drop_blanks p) ++ blanks)
    at true r = (c ∷ p, refl)
    at false (blanks, e) = (blanks, ap (λ (r : List ℕ). c ∷ r) e)

folded-inner : (p : List ℕ) → All inner p → All inner (folded p)
folded-inner p a =
    let (blanks, e) = dropped p in
    all_append inner (drop_blanks p) (space ∷ []) (all_left inner (drop_blanks p) blanks (rw e at a)) (tt, tt)

added-inner : (ps : List (List ℕ)) → AllInner ps → All inner (added ps)
added-inner [] a = tt
added-inner (p ∷ []) a = a.0
added-inner (p ∷ q ∷ ps) a = all_append inner (folded p) (added (q ∷ ps)) (folded-inner p a.0) (added-inner (q ∷ ps) a.1)

up_to-inner : (ps : List (List ℕ)) → AllInner ps → All inner (join (map folded (up_to ps)))
up_to-inner [] a = tt
up_to-inner ([] ∷ ps) a = tt
up_to-inner ((c ∷ p) ∷ ps) a =
    all_append inner (folded (c ∷ p)) (join (map folded (up_to ps))) (folded-inner (c ∷ p) a.0) (up_to-inner ps a.1)

trim_end-inner : (s : List ℕ) → All inner s → All inner (trim_end s)
trim_end-inner s a = let (back, w, e, n) = back_trimmed s in all_left inner (trim_end s) back (rw e at a)

spaced-inner : (b : Bool) (ps : List (List ℕ)) → AllInner ps
    → All inner (if b then trim_end (join (map folded (up_to ps))) else added ps)
spaced-inner true ps a = trim_end-inner (join (map folded (up_to ps))) (up_to-inner ps a)
spaced-inner false ps a = added-inner ps a

pub summary_no_lf : (s : List ℕ) → All inner (summary s)
unfolding summary spaced
summary_no_lf s = spaced-inner (stops (pieces (trim s))) (pieces (trim s)) (pieces-inner (trim s))

-- ---- it begins with no white space: something is left of the first piece, which is the front of what was trimmed

pub blank_form : (c : ℕ) → T (blank_byte c) → Form (c ∷ [])
unfolding blank_byte forms white_space
blank_form c t =
    let found : (k : ℕ) → Form (k ∷ []) → T (eqb c k) → Form (c ∷ []) = λ k m e. rw (eqb→eq c k e) m in
    elim (or_cases (eqb c 32 || eqb c 9 || eqb c 10 || eqb c 12) (eqb c 13) t) [
      | inr e ↦ found 13 tt e
      | inl t ↦ elim (or_cases (eqb c 32 || eqb c 9 || eqb c 10) (eqb c 12) t) [
        | inr e ↦ found 12 tt e
        | inl t ↦ elim (or_cases (eqb c 32 || eqb c 9) (eqb c 10) t) [
          | inr e ↦ found 10 tt e
          | inl t ↦ elim (or_cases (eqb c 32) (eqb c 9) t) [ inl e ↦ found 32 tt e | inr e ↦ found 9 tt e ]
        ]
      ]
    ]

-- what begins with no white space is not all blank, so something is left of it
left_of : (c : ℕ) (p : List ℕ) → BeginsWithNone (c ∷ p) → T (filled (drop_blanks (c ∷ p)))
left_of c p b = at (blank_byte c) refl
  where
    at : (t : Bool) → blank_byte c ≡ t → T (filled (if t && all blank_byte p then [] else c ∷ drop_blanks p))
    at true e = absurd (b (c ∷ []) p (blank_form c (rw e tt)) refl)
    at false e = tt

folded_begins : (c : ℕ) (p rest : List ℕ) → BeginsWithNone (c ∷ p) → BeginsWithNone (folded (c ∷ p) ++ rest)
folded_begins c p rest b =
    let (blanks, e) = dropped (c ∷ p) in
    let d : BeginsWithNone (drop_blanks (c ∷ p)) = begins_part (drop_blanks (c ∷ p)) blanks (λ f r m h. b f r m (e ∙ h)) in
    let k : BeginsWithNone (drop_blanks (c ∷ p) ++ space ∷ rest) = begins_space (drop_blanks (c ∷ p)) rest (left_of c p b) d in
    λ f r m h. k f r m (sym (append_assoc (drop_blanks (c ∷ p)) (space ∷ []) rest) ∙ h)

first_begins : (p : List ℕ) (ps : List (List ℕ)) → BeginsWithNone (by_lfs (p ∷ ps)) → BeginsWithNone p
first_begins p ps b = begins_part p (behind ps) (λ f r m h. b f r m (by_lfs_lem p ps ∙ h))

trim_end_begins : (s : List ℕ) → BeginsWithNone s → BeginsWithNone (trim_end s)
trim_end_begins s b = let (back, w, e, n) = back_trimmed s in begins_part (trim_end s) back (λ f r m h. b f r m (e ∙ h))

spaced_begins : (b : Bool) (p : List ℕ) (ps : List (List ℕ)) → BeginsWithNone (by_lfs (p ∷ ps))
    → BeginsWithNone (if b then trim_end (join (map folded (up_to (p ∷ ps)))) else added (p ∷ ps))
spaced_begins true [] ps b = trim_end_begins [] nil_begins
spaced_begins true (c ∷ p) ps b =
    let rest : List ℕ = join (map folded (up_to ps)) in
    trim_end_begins (folded (c ∷ p) ++ rest) (folded_begins c p rest (first_begins (c ∷ p) ps b))
spaced_begins false p [] b = b
spaced_begins false [] (q ∷ ps) b = absurd (b (LF ∷ []) (by_lfs (q ∷ ps)) lf_form refl)
spaced_begins false (c ∷ p) (q ∷ ps) b = folded_begins c p (added (q ∷ ps)) (first_begins (c ∷ p) (q ∷ ps) b)

-- ---- it ends with no white space: it is trimmed there, or it ends as the last piece does

folded-filled : (p : List ℕ) → T (filled (folded p))
folded-filled p = at (drop_blanks p)
  where
    at : (s : List ℕ) → T (filled (s ++ space ∷ []))
    at [] = tt
    at (c ∷ s) = tt

added-filled : (p q : List ℕ) (ps : List (List ℕ)) → EndsWithNone (by_lfs (p ∷ q ∷ ps)) → T (filled (added (q ∷ ps)))
added-filled p [] [] n = absurd (n (LF ∷ []) p lf_form refl)
added-filled p (c ∷ q) [] n = tt
added-filled p q (r ∷ ps) n = filled-append (folded q) (added (r ∷ ps)) (folded-filled q)

pub added_ends : (ps : List (List ℕ)) (p : List ℕ) → EndsWithNone (by_lfs (p ∷ ps)) → EndsWithNone (added (p ∷ ps))
added_ends [] p n = n
added_ends (q ∷ ps) p n =
    let rest : List ℕ = added (q ∷ ps) in
    let m : EndsWithNone (by_lfs (q ∷ ps)) = ends_part (LF ∷ []) (by_lfs (q ∷ ps)) (ends_part p (LF ∷ by_lfs (q ∷ ps)) n) in
    let k : EndsWithNone (drop_blanks p ++ space ∷ rest) = ends_space (drop_blanks p) rest (added-filled p q ps n) (added_ends ps q m) in
    λ f r o h. k f r o (sym (append_assoc (drop_blanks p) (space ∷ []) rest) ∙ h)

spaced_ends : (b : Bool) (p : List ℕ) (ps : List (List ℕ)) → EndsWithNone (by_lfs (p ∷ ps))
    → EndsWithNone (if b then trim_end (join (map folded (up_to (p ∷ ps)))) else added (p ∷ ps))
spaced_ends true p ps n = let (back, w, e, m) = back_trimmed (join (map folded (up_to (p ∷ ps)))) in m
spaced_ends false p ps n = added_ends ps p n

spaced_trims : (s : List ℕ) → BeginsWithNone s → EndsWithNone s
    → (trim (spaced (pieces s)) ≡ spaced (pieces s)) × (trim_at (spaced (pieces s)) ≡ 0)
unfolding spaced
spaced_trims s b n =
    let (p, ps, e) = pieces_some s in
    let j : by_lfs (p ∷ ps) ≡ s = ap by_lfs (sym e) ∙ pieces_joined s in
    rw e (trims_itself (if stops (p ∷ ps) then trim_end (join (map folded (up_to (p ∷ ps)))) else added (p ∷ ps))
    (spaced_begins (stops (p ∷ ps)) p ps (rw j b))
    (spaced_ends (stops (p ∷ ps)) p ps (rw j n)))

pub summary_trims : (s : List ℕ) → (trim (summary s) ≡ summary s) × (trim_at (summary s) ≡ 0)
unfolding summary
summary_trims s = spaced_trims (trim s) (trimmed s).begins_with_none (trimmed s).ends_with_none

-- ---- so it is its own summary: with no LF left there is one piece

inner_none : (s : List ℕ) → All inner s → T (not (any (λ c. eqb c LF) s))
inner_none [] a = tt
inner_none (c ∷ s) a = nor (eqb c LF) (any (λ c. eqb c LF) s) a.0 (inner_none s a.1)

-- summarised again it is answered as a part, with nothing written
pub summary_is_part : (s : List ℕ) → summary_is_written (summary s) ≡ false
unfolding summary_is_written
summary_is_part s =
    rw (summary_trims s).0 (many-pieces (summary s) ∙ is_false (any (λ c. eqb c LF) (summary s)) (inner_none (summary s) (summary_no_lf s)))

-- "summarising a summary, changes nothing"
pub summary_twice : (s : List ℕ) → summary (summary s) ≡ summary s
summary_twice s = summary_one (summary s) (rw (summary_is_part s) tt) ∙ (summary_trims s).0
