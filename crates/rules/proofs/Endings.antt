-- K2: a line is its text and its ending's bytes, in exactly one way (ended, ended_only, exactly_one_ending). The ending of a line is
-- that of any bytes that end with it, so a trailer's raw value tells how its last line ended (raw_ending). Assumes nothing.
use Rattle.std.specs.Prelude.{if◌then◌else◌}
use mathlib.Core.Bool.{Bool, true, false, not}
use mathlib.Core.List.{List, [], ◌∷◌, ◌++◌, append_assoc, append-nil}
use mathlib.Core.Path.{◌≡◌, refl, sym, ap, subst, ◌∙◌}
use Prim.Native.Nat.{ℕ}
use lib.Dec.{T, T_not, eqb, eqb→eq, eqb_refl}
use Rattle.rules.specs.Bytes.{LF, CR, blank_byte, colon}
use Rattle.rules.specs.Lines.{Line, Ended, bare, cr, crlf, lf, ending, ends_with, blank, indented, folds, text, without}
use Rattle.rules.specs.Lists.{All, all, join}
use Rattle.rules.specs.Trailer.{gap_in, last_line, token_in, trailer_line, value_in}
use Rattle.rules.specs.declared.Ending.{Ending}
use Rattle.rules.proofs.Lists.{and_left, and_right, is_false, is_true}
use Rattle.rules.proofs.Trailer.{trailer_line_lem}

-- ---- the last byte

ends_last : (x : ℕ) (t : List ℕ) (y : ℕ) → ends_with x (t ++ y ∷ []) ≡ eqb y x
ends_last x [] y = refl
ends_last x (c ∷ []) y = refl
ends_last x (c ∷ d ∷ t) y = ends_last x (d ∷ t) y

without_last : (x : ℕ) (t : List ℕ) (y : ℕ) → without x (t ++ y ∷ []) ≡ t ++ (if eqb y x then [] else y ∷ [])
without_last x [] y = refl
without_last x (c ∷ []) y = refl
without_last x (c ∷ d ∷ t) y = ap (λ (r : List ℕ). c ∷ r) (without_last x (d ∷ t) y)

pub stays : (x : ℕ) (l : List ℕ) → T (not (ends_with x l)) → without x l ≡ l
stays x [] n = refl
stays x (c ∷ []) n = rw (is_false (eqb c x) n)
stays x (c ∷ d ∷ s) n = ap (λ (r : List ℕ). c ∷ r) (stays x (d ∷ s) n)

pub goes : (x : ℕ) (l : List ℕ) → T (ends_with x l) → without x l ++ x ∷ [] ≡ l
goes x [] e = absurd e
goes x (c ∷ []) e = rw (is_true (eqb c x) e) (ap (λ (z : ℕ). z ∷ []) (sym (eqb→eq c x e)))
goes x (c ∷ d ∷ s) e = ap (λ (r : List ℕ). c ∷ r) (goes x (d ∷ s) e)

-- ---- a line has an ending

made : {l t : List ℕ} {e : Ending} → text l ≡ t → ending l ≡ e → Ended l t e → Ended l (text l) (ending l)
made p q r = rw (p, q) r

with_lf : (l m : List ℕ) → without LF l ≡ m → m ++ LF ∷ [] ≡ l → ends_with LF l ≡ true → Ended l (text l) (ending l)
unfolding text ending
with_lf l m w e q = by (ends_with CR m) refl
  where
    by : (b : Bool) → ends_with CR m ≡ b → Ended l (text l) (ending l)
    by true r =
        let whole : without CR m ++ CR ∷ LF ∷ [] ≡ l =
        sym (append_assoc (without CR m) (CR ∷ []) (LF ∷ [])) ∙ ap (λ (x : List ℕ). x ++ LF ∷ []) (goes CR m (rw r tt)) ∙ e in
        made {t = without CR m} (rw w) (rw (q, w, r)) (subst (λ (x : Line). Ended x (without CR m) Ending.CrLf) whole (crlf (without CR m)))
    by false r =
        made {t = m} (rw w (stays CR m (rw r tt))) (rw (q, w, r)) (subst (λ (x : Line). Ended x m Ending.Lf) e (lf m (rw r tt)))

without_lf : (l : List ℕ) → ends_with LF l ≡ false → Ended l (text l) (ending l)
unfolding text ending
without_lf l q = by (ends_with CR l) refl
  where
    same : without LF l ≡ l
    same = stays LF l (rw q tt)

    by : (b : Bool) → ends_with CR l ≡ b → Ended l (text l) (ending l)
    by true r =
        made {t = without CR l} (rw same) (rw (q, r)) (subst (λ (x : Line). Ended x (without CR l) Ending.Cr) (goes CR l (rw r tt)) (cr (without CR l)))
    by false r = made {t = l} (rw same (stays CR l (rw r tt))) (rw (q, r)) (bare l (rw q tt) (rw r tt))

-- "A line's text drops LF, or CR LF, or a single CR [..]", and the line rule "must now also answer which ending it dropped"
pub ended : (l : Line) → Ended l (text l) (ending l)
ended l = by (ends_with LF l) refl
  where
    by : (b : Bool) → ends_with LF l ≡ b → Ended l (text l) (ending l)
    by true q = with_lf l (without LF l) refl (goes LF l (rw q tt)) q
    by false q = without_lf l q

-- ---- and no other

cut_last : (x : ℕ) (t : List ℕ) → without x (t ++ x ∷ []) ≡ t
cut_last x t = without_last x t x ∙ rw (is_true (eqb x x) (eqb_refl x)) (append-nil t)

pub ended_only : {l : Line} {t : List ℕ} {e : Ending} → Ended l t e → (t ≡ text l) × (e ≡ ending l)
unfolding text ending
ended_only (lf t n) = (
  sym (rw (cut_last LF t) (stays CR t n)),
  rw (ends_last LF t LF, cut_last LF t, is_false (ends_with CR t) n),
)
ended_only (crlf t) =
    let whole : t ++ CR ∷ LF ∷ [] ≡ (t ++ CR ∷ []) ++ LF ∷ [] = sym (append_assoc t (CR ∷ []) (LF ∷ [])) in (
      rw (whole, cut_last LF (t ++ CR ∷ []), cut_last CR t),
      rw (whole, ends_last LF (t ++ CR ∷ []) LF, cut_last LF (t ++ CR ∷ []), ends_last CR t CR),
    )
ended_only (cr t) = (
  sym (rw (without_last LF t CR) (cut_last CR t)),
  rw (ends_last LF t CR, ends_last CR t CR),
)
ended_only (bare t n m) = (
  sym (rw (stays LF t n) (stays CR t m)),
  rw (is_false (ends_with LF t) n, is_false (ends_with CR t) m),
)

-- a line is its text and its ending's bytes in exactly one way
pub exactly_one_ending : (l : Line) →
    (t : List ℕ) × (e : Ending) × Ended l t e × ((u : List ℕ) (f : Ending) → Ended l u f → (u ≡ t) × (f ≡ e))
exactly_one_ending l = (text l, ending l, ended l, λ u f r. ended_only r)

-- ---- bytes in front of a line do not change its ending

ends_front : (x : ℕ) (a : List ℕ) (c : ℕ) (s : List ℕ) → ends_with x (a ++ c ∷ s) ≡ ends_with x (c ∷ s)
ends_front x [] c s = refl
ends_front x (b ∷ []) c s = refl
ends_front x (b ∷ d ∷ a) c s = ends_front x (d ∷ a) c s

without_front : (x : ℕ) (a : List ℕ) (c : ℕ) (s : List ℕ) → without x (a ++ c ∷ s) ≡ a ++ without x (c ∷ s)
without_front x [] c s = refl
without_front x (b ∷ []) c s = refl
without_front x (b ∷ d ∷ a) c s = ap (λ (r : List ℕ). b ∷ r) (without_front x (d ∷ a) c s)

-- of a line of two bytes or more, and behind a byte that belongs to no ending
ending_front : (a : List ℕ) (c d : ℕ) (s : List ℕ) → ending (a ++ c ∷ d ∷ s) ≡ ending (c ∷ d ∷ s)
unfolding ending
ending_front a c d s =
    rw (ends_front LF a c (d ∷ s), without_front LF a c (d ∷ s), ends_front CR a c (without LF (d ∷ s)), ends_front CR a c (d ∷ s))

ending_behind : (a : List ℕ) (s : List ℕ) → ending (a ++ colon ∷ s) ≡ ending s
unfolding ending
ending_behind a [] = rw (ends_last LF a colon, ends_last CR a colon)
ending_behind a (c ∷ []) =
    ending_front a colon c [] ∙ elim (eqb c LF) as (λ b. (if b then (if ends_with CR (colon ∷ (if b then [] else c ∷ [])) then Ending.CrLf else Ending.Lf)
    else if eqb c CR then Ending.Cr else Ending.None)
    ≡ (if b then (if ends_with CR (if b then [] else c ∷ []) then Ending.CrLf else Ending.Lf) else if eqb c CR then Ending.Cr else Ending.None)) [
      | true ↦ refl
      | false ↦ refl
    ]
ending_behind a (c ∷ d ∷ s) =
    ap ending (sym (append_assoc a (colon ∷ []) (c ∷ d ∷ s))) ∙ ending_front (a ++ colon ∷ []) c d s

-- ---- a trailer's raw value tells how its last line ended

-- an indented line that is not blank has two bytes or more
one_blank : (c : ℕ) → T (blank_byte c) → T (blank (c ∷ []))
unfolding blank text
one_blank c b =
    elim (eqb c LF) as (λ x. T (all blank_byte (without CR (if x then [] else c ∷ [])))) [
      | true ↦ tt
      | false ↦ elim (eqb c CR) as (λ x. T (all blank_byte (if x then [] else c ∷ []))) [ true ↦ tt | false ↦ rw (is_true (blank_byte c) b) tt ]
    ]

fold_ending : (a : List ℕ) (j : Line) → T (folds j) → ending (a ++ j) ≡ ending j
unfolding folds indented
fold_ending a [] f = absurd f
fold_ending a (c ∷ []) f =
    absurd (T_not (blank (c ∷ [])) (and_right (blank_byte c) (not (blank (c ∷ []))) f) (one_blank c (and_left (blank_byte c) (not (blank (c ∷ []))) f)))
fold_ending a (c ∷ d ∷ s) f = ending_front a c d s

folds-ending : (a : List ℕ) (j : Line) (js : List Line) → All folds (j ∷ js) → ending (a ++ join (j ∷ js)) ≡ ending (last_line j js)
folds-ending a j [] f = ap (λ (x : List ℕ). ending (a ++ x)) (append-nil j) ∙ fold_ending a j f.0
folds-ending a j (k ∷ js) f = ap ending (sym (append_assoc a j (join (k ∷ js)))) ∙ folds-ending (a ++ j) k js f.1

pub raw_ending : (l : Line) (js : List Line) → T (trailer_line l) → All folds js → ending (value_in l ++ join js) ≡ ending (last_line l js)
raw_ending l [] t f =
    let read = (trailer_line_lem l t).read in
    ap ending (append-nil (value_in l)) ∙ sym (ap ending (read ∙ sym (append_assoc (token_in l) (gap_in l) (colon ∷ value_in l))) ∙ ending_behind (token_in l ++ gap_in l) (value_in l))
raw_ending l (j ∷ js) t f = folds-ending (value_in l) j js f
