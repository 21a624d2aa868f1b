-- Lines for those who walk them by `line_len` and `line_start`: the first line and the lines after it, the last line and the
-- lines before it; and a blank line is known by its bytes, with its ending or without. Assumes nothing.
use Rattle.std.specs.Prelude.{if◌then◌else◌}
use mathlib.Core.Bool.{Bool, true, false, not}
use mathlib.Core.List.{List, [], ◌∷◌, ◌++◌}
use mathlib.Core.Path.{◌≡◌, refl, sym, ap, ◌∙◌}
use Prim.Native.Nat.{ℕ, zero, suc, ◌+◌, ◌-◌, ◌≤◌, ◌<◌}
use native.Mathlib.Numerals.{sub-one}
use native.Mathlib.Omega.{arith}
use lib.Dec.{T, eqb, eqb→eq}
use lib.ListN.{length, take, drop, get_or, length-append, length-drop, drop_of_length-le}
use lib.Seq.{take-append_seam, drop-append_seam, take-suc, length-take-le, drop-append-le, take-take, drop-drop}
use Rattle.rules.specs.Bytes.{LF, CR, blank_byte}
use Rattle.rules.specs.Lines.{Line, inner, LineStart, without, text, blank, before, lines}
use Rattle.rules.specs.Lists.{All, all, join, run}
use Rattle.rules.proofs.Lists.{is_false, all_append}
use Rattle.rules.proofs.Lines.{join-lines, lines_suffix, lines_from}
use Rattle.find.specs.Find.{behind_lf, is_lf, until_lf}
use Rattle.text.specs.Lines.{first_length, line_start}

-- ---- the first line

first_is : (s : List ℕ) (l : Line) (ls : List Line) → lines s ≡ l ∷ ls → (take (length l) s ≡ l) × (lines (drop (length l) s) ≡ ls)
first_is s l ls e =
    let j : s ≡ l ++ join ls = sym (join-lines s) ∙ ap join e in
    (rw (j, take-append_seam), ap lines (ap (drop (length l)) j ∙ drop-append_seam l (join ls)) ∙ lines_suffix s (l ∷ []) ls e)

pub first_line : (s : List ℕ) → 0 < length s → lines s ≡ take (first_length (lines s)) s ∷ lines (drop (first_length (lines s)) s)
first_line s h = cut (lines s) refl
  where
    cut : (ls : List Line) → lines s ≡ ls → ls ≡ take (first_length ls) s ∷ lines (drop (first_length ls) s)
    cut [] e = absurd (omega (arith, ap length (sym (join-lines s) ∙ ap join e)))
    cut (l ∷ ls) e = rw ((first_is s l ls e).0, (first_is s l ls e).1)

pub first_some : (s : List ℕ) → 0 < length s → 0 < first_length (lines s)
first_some [] h = h
first_some (c ∷ s) h = some (eqb c LF) (lines s)
  where
    some : (b : Bool) (ls : List Line) → 0 < first_length (before b c ls)
    some true ls = omega arith
    some false [] = omega arith
    some false (l ∷ ls) = omega arith

pub first_within : (s : List ℕ) → first_length (lines s) ≤ length s
first_within s = within (lines s) (join-lines s)
  where
    within : (ls : List Line) → join ls ≡ s → first_length ls ≤ length s
    within [] e = omega arith
    within (l ∷ ls) e = omega (arith, simp length-append at (ap length e))

-- it ends with the first LF; where there is none, it is all
abbrev Ended : ℕ → ℕ → ℕ → Type 0
Ended len until first = (until < len → first ≡ suc until) × (until ≡ len → first ≡ len)

pub first_more : (c : ℕ) (ls : List Line) → first_length (before false c ls) ≡ suc (first_length ls)
first_more c [] = refl
first_more c (l ∷ ls) = refl

pub first_ends : (s : List ℕ) → Ended (length s) (until_lf s) (first_length (lines s))
first_ends [] = (λ h. absurd (omega arith), λ e. refl)
first_ends (c ∷ s) = by (is_lf c) (first_ends s)
  where
    by : (b : Bool) → Ended (length s) (until_lf s) (first_length (lines s))
        → Ended (suc (length s)) (length (if not b then c ∷ run (λ d. not (is_lf d)) s else [])) (first_length (before b c (lines s)))
    by true later = (λ h. refl, λ e. absurd (omega arith))
    by false later = rw (first_more c (lines s)) (λ h. ap suc (later.0 (omega arith)), λ e. ap suc (later.1 (omega arith)))

-- the same of the lines from a place on
pub first_line_at : (s : List ℕ) (i : ℕ) → i < length s
    → lines (drop i s) ≡ take (first_length (lines (drop i s))) (drop i s) ∷ lines (drop (i + first_length (lines (drop i s))) s)
first_line_at s i h = first_line (drop i s) (omega (arith, length-drop i s)) ∙ simp drop-drop

-- ---- the last line

pub behind_le : (s : List ℕ) (i : ℕ) → behind_lf s i ≤ i
unfolding behind_lf
behind_le s zero = omega arith
behind_le s (suc i) = elim (eqb (get_or s i 0) LF) as (λ b. (if b then suc i else behind_lf s i) ≤ suc i) [
  | true ↦ omega arith
  | false ↦ omega (arith, behind_le s i)
]

pub line_start-before : (s : List ℕ) (at : ℕ) → 0 < at → line_start s at < at
line_start-before s at h = omega (arith, behind_le s (at - 1))

-- a line starts there
line_start_snoc : (s : List ℕ) (c : ℕ) → T (eqb c LF) → LineStart (s ++ c ∷ [])
line_start_snoc [] c t = t
line_start_snoc (d ∷ []) c t = t
line_start_snoc (d ∷ e ∷ s) c t = line_start_snoc (e ∷ s) c t

behind_starts : (s : List ℕ) (i : ℕ) → i ≤ length s → LineStart (take (behind_lf s i) s)
unfolding behind_lf
behind_starts s zero h = tt
behind_starts s (suc i) h = starts (eqb (get_or s i 0) LF) refl (behind_starts s i (omega arith))
  where
    starts : (b : Bool) → b ≡ eqb (get_or s i 0) LF → LineStart (take (behind_lf s i) s) → LineStart (take (if b then suc i else behind_lf s i) s)
    starts true e r = rw (take-suc s i 0) (line_start_snoc (take i s) (get_or s i 0) (rw (← e) tt))
    starts false e r = r

pub line_start_starts : (s : List ℕ) (at : ℕ) → at ≤ length s → LineStart (take (line_start s at) s)
line_start_starts s at h = behind_starts s (at - 1) (omega arith)

-- and no line ends between that place and the last byte
drop_snoc : (s : List ℕ) (k i : ℕ) → k ≤ i → i < length s → drop k (take (suc i) s) ≡ drop k (take i s) ++ get_or s i 0 ∷ []
drop_snoc s k i h l =
    let n : k ≤ length (take i s) = omega (arith, length-take-le i s (omega arith)) in
    rw (take-suc s i 0, drop-append-le)

behind_inner : (s : List ℕ) (i : ℕ) → i ≤ length s → All inner (drop (behind_lf s i) (take i s))
unfolding behind_lf
behind_inner s zero h = tt
behind_inner s (suc i) h = goes (eqb (get_or s i 0) LF) refl (behind_inner s i (omega arith))
  where
    goes : (b : Bool) → b ≡ eqb (get_or s i 0) LF → All inner (drop (behind_lf s i) (take i s))
        → All inner (drop (if b then suc i else behind_lf s i) (take (suc i) s))
    goes true e a =
        let n : length (take (suc i) s) ≤ suc i = omega (arith, length-take-le (suc i) s h) in
        rw (drop_of_length-le (take (suc i) s) n) tt
    goes false e a =
        rw (drop_snoc s (behind_lf s i) i (behind_le s i) h)
        (all_append inner (drop (behind_lf s i) (take i s)) (get_or s i 0 ∷ []) a (rw (← e) tt, tt))

one_line : (t : List ℕ) (c : ℕ) → All inner t → lines (t ++ c ∷ []) ≡ (t ++ c ∷ []) ∷ []
one_line [] c a = elim (eqb c LF) as (λ b. before b c [] ≡ (c ∷ []) ∷ []) [ true ↦ refl | false ↦ refl ]
one_line (d ∷ t) c a = rw (is_false (eqb d LF) a.0, one_line t c a.1)

last_one : (s : List ℕ) (i : ℕ) → i < length s → lines (drop (behind_lf s i) (take (suc i) s)) ≡ drop (behind_lf s i) (take (suc i) s) ∷ []
last_one s i h =
    rw (drop_snoc s (behind_lf s i) i (behind_le s i) h)
    (one_line (drop (behind_lf s i) (take i s)) (get_or s i 0) (behind_inner s i (omega arith)))

pub last_line : (s : List ℕ) (at : ℕ) → 0 < at → at ≤ length s
    → lines (take at s) ≡ lines (take (line_start s at) s) ++ drop (line_start s at) (take at s) ∷ []
last_line s zero z h = absurd (omega arith)
last_line s (suc i) z h =
    let k : ℕ = behind_lf s i in
    let t : take k (take (suc i) s) ≡ take k s = take-take k (suc i) s (omega (arith, behind_le s i)) in
    rw (sub-one, ← t, ← last_one s i h) (lines_from k (take (suc i) s) (rw t (behind_starts s i (omega arith))))

-- ---- blank lines

-- a byte that passes may stand at the end or not
all_without : (p : ℕ → Bool) (x : ℕ) → p x ≡ true → (l : List ℕ) → all p (without x l) ≡ all p l
all_without p x px [] = refl
all_without p x px (c ∷ []) = ends (eqb c x) refl
  where
    ends : (b : Bool) → b ≡ eqb c x → all p (if b then [] else c ∷ []) ≡ all p (c ∷ [])
    ends true e = let h : c ≡ x = eqb→eq c x (rw (← e) tt) in rw (h, px)
    ends false e = refl
all_without p x px (c ∷ d ∷ l) = rw (all_without p x px (d ∷ l))

pub blank-all : (l : Line) → blank l ≡ all blank_byte l
unfolding blank text blank_byte
blank-all l = all_without blank_byte CR refl (without LF l) ∙ all_without blank_byte LF refl l
