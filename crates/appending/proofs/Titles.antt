-- The body by lines (body-lines): its lines are those behind the first line, other than the message's first, that is a line
-- end alone. So what is changed behind a line of the body moves neither the title's end nor the body's start. Assumes nothing.
use Rattle.std.specs.Prelude.{if◌then◌else◌}
use mathlib.Core.Bool.{Bool, true, false, not, ◌||◌}
use mathlib.Core.List.{List, [], ◌∷◌, ◌++◌, nil≢cons}
use mathlib.Core.Logic.{◌⊎◌, inl, inr}
use mathlib.Core.Path.{◌≡◌, refl, sym, ap, ◌∙◌}
use Prim.Native.Nat.{ℕ, zero, suc, ◌+◌, ◌-◌, ◌<◌}
use native.Mathlib.Omega.{arith}
use lib.Dec.{T, T_not, not_T}
use lib.ListN.{length, take, drop}
use lib.Seq.{drop-drop, drop-nil}
use Rattle.rules.specs.Bytes.{CR, LF}
use Rattle.rules.specs.Lines.{Line, lines}
use Rattle.rules.specs.Lists.{equal, first, join, starts}
use Rattle.rules.specs.Title.{body, body_start, line_end}
use Rattle.rules.proofs.Lines.{join-lines}
use Rattle.rules.proofs.Lists.{equal_is, is_false, is_true, or_cases}
use Rattle.rules.proofs.Parts.{rest}
use Rattle.rules.proofs.White.{starts-append, starts_is}
use Rattle.text.specs.Lines.{first_length}
use Rattle.text.proofs.Lines.{first_line}
use Rattle.title.proofs.ByLines.{line_ended, line_passed}

-- a line that is a line end alone
abbrev pub is_end : Line → Bool
is_end l = equal l (LF ∷ []) || equal l (CR ∷ LF ∷ [])

-- what is behind the first such line
abbrev pub behind_end : List Line → List Line
behind_end [] = []
behind_end (l ∷ ls) = if is_end l then ls else behind_end ls

-- the message's first line is the title's in any case
abbrev pub after_title : List Line → List Line
after_title [] = []
after_title (l ∷ ls) = behind_end ls

-- ---- the line end at the front, as a line

abbrev FrontLine : List ℕ → ℕ → Type 0
FrontLine s zero = T (not (first is_end (lines s)))
FrontLine s (suc m) = (l : Line) × T (is_end l) × (lines s ≡ l ∷ lines (drop (suc m) s))

no_end : (s : List ℕ) (ls : List Line) → join ls ≡ s → starts (CR ∷ LF ∷ []) s ≡ false → starts (LF ∷ []) s ≡ false → T (first is_end ls) → ⊥
no_end s [] e p q t = t
no_end s (l ∷ ls) e p q t = elim (or_cases (equal l (LF ∷ [])) (equal l (CR ∷ LF ∷ [])) t) [
  | inl h ↦ T_not (starts (LF ∷ []) s) (rw q tt) (rw (← e, equal_is l (LF ∷ []) h) (starts-append (LF ∷ []) (join ls)))
  | inr h ↦ T_not (starts (CR ∷ LF ∷ []) s) (rw p tt) (rw (← e, equal_is l (CR ∷ LF ∷ []) h) (starts-append (CR ∷ LF ∷ []) (join ls)))
]

front_crlf : (s r : List ℕ) → s ≡ CR ∷ LF ∷ r → FrontLine s 2
front_crlf s r e = (CR ∷ LF ∷ [], tt, rw e)

front_lf : (s r : List ℕ) → s ≡ LF ∷ r → FrontLine s 1
front_lf s r e = (LF ∷ [], tt, rw e)

front_line : (s : List ℕ) → FrontLine s (line_end s)
unfolding line_end
front_line s = by (starts (CR ∷ LF ∷ []) s) (starts (LF ∷ []) s) refl refl
  where
    by : (a b : Bool) → starts (CR ∷ LF ∷ []) s ≡ a → starts (LF ∷ []) s ≡ b → FrontLine s (if a then 2 else if b then 1 else 0)
    by true b p q = front_crlf s (drop 2 s) (starts_is (CR ∷ LF ∷ []) s (rw p tt))
    by false true p q = front_lf s (drop 1 s) (starts_is (LF ∷ []) s (rw q tt))
    by false false p q = not_T (first is_end (lines s)) (no_end s (lines s) (join-lines s) p q)

-- ---- the lines of the body

no_end_first : (ls : List Line) → T (not (first is_end ls)) → behind_end ls ≡ after_title ls
no_end_first [] n = refl
no_end_first (l ∷ ls) n = rw (is_false (is_end l) n)

end_first : (ls : List Line) (l : Line) (rest : List Line) → T (is_end l) → ls ≡ l ∷ rest → behind_end ls ≡ rest
end_first ls l rest t e = rw (e, is_true (is_end l) t)

-- s is a first line of n bytes and what is behind it, which begins with a line end of m bytes
module _ (s : List ℕ) (n : ℕ) (h : 0 < length s) (e : n ≡ first_length (lines s)) where
  same_place : 0 + n ≡ n
  same_place = omega arith

  handed_on : n ≡ first_length (lines (take (length s - 0) (drop 0 s)))
  handed_on = rw (rest s 0) e

  behind_it : (m : ℕ) → m ≡ line_end (drop n s) → m ≡ line_end (take (length s - (0 + n)) (drop (0 + n) s))
  behind_it m f = rw (rest s (0 + n), same_place) f

  behind_first : (m : ℕ) → m ≡ line_end (drop n s) → FrontLine (drop n s) m → lines (body (drop n s)) ≡ after_title (lines (drop n s))
      → lines (body s) ≡ behind_end (lines (drop n s))
  behind_first zero f front later =
      let start : body_start s ≡ n + body_start (drop n s) = rw same_place at (line_passed s 0 n 0 h handed_on (behind_it 0 f) refl).1 in
      ap (λ (k : ℕ). lines (drop k s)) start ∙ ap lines (sym (drop-drop (body_start (drop n s)) n s))
      ∙ later ∙ sym (no_end_first (lines (drop n s)) front)
  behind_first (suc m) f (l, t, q) later =
      let start : body_start s ≡ n + suc m = (line_ended s 0 n (suc m) h handed_on (behind_it (suc m) f) (λ z. omega arith)).1 in
      ap (λ (k : ℕ). lines (drop k s)) start ∙ ap lines (sym (drop-drop (suc m) n s))
      ∙ sym (end_first (lines (drop n s)) l (lines (drop (suc m) (drop n s))) t q)

no_line : (s : List ℕ) → lines s ≡ [] → s ≡ []
no_line s e = sym (join-lines s) ∙ ap join e

some_line : (s : List ℕ) (l : Line) (ls : List Line) → lines s ≡ l ∷ ls → 0 < length s
some_line [] l ls e = absurd (nil≢cons e)
some_line (c ∷ s) l ls e = omega arith

body_by : (ls : List Line) (s : List ℕ) → lines s ≡ ls → lines (body s) ≡ after_title ls
body_by [] s e = rw (no_line s e) (ap lines (drop-nil (body_start [])))
body_by (l ∷ ls) s e =
    let n : ℕ = first_length (lines s) in
    let h : 0 < length s = some_line s l ls e in
    let behind : lines (drop n s) ≡ ls = let q : take n s ∷ lines (drop n s) ≡ l ∷ ls = sym (first_line s h) ∙ e in cc in
    behind_first s n h refl (line_end (drop n s)) refl (front_line (drop n s)) (body_by ls (drop n s) behind ∙ ap after_title (sym behind)) ∙ ap behind_end behind

pub body-lines : (message : List ℕ) → lines (body message) ≡ after_title (lines message)
body-lines message = body_by (lines message) message refl

-- ---- what stands behind a line that is no line end alone: the body has that line, or it has only what is behind it

module _ (l k : Line) (n : T (not (is_end l))) (o : T (not (is_end k))) (bs cs : List Line) where
  abbrev Cut : (List Line → List Line) → List Line → Type 0
  Cut f us =
      ((y : List Line) × (f (us ++ l ∷ bs) ≡ y ++ l ∷ bs) × (f (us ++ k ∷ cs) ≡ y ++ k ∷ cs))
      ⊎ ((f (us ++ l ∷ bs) ≡ behind_end bs) × (f (us ++ k ∷ cs) ≡ behind_end cs))

  behind_cut : (us : List Line) → Cut behind_end us
  behind_cut [] = inr (rw (is_false (is_end l) n), rw (is_false (is_end k) o))
  behind_cut (u ∷ us) = by (is_end u) (behind_cut us)
    where
      by : (b : Bool) → Cut behind_end us →
          ((y : List Line) × ((if b then us ++ l ∷ bs else behind_end (us ++ l ∷ bs)) ≡ y ++ l ∷ bs)
          × ((if b then us ++ k ∷ cs else behind_end (us ++ k ∷ cs)) ≡ y ++ k ∷ cs))
          ⊎ (((if b then us ++ l ∷ bs else behind_end (us ++ l ∷ bs)) ≡ behind_end bs)
          × ((if b then us ++ k ∷ cs else behind_end (us ++ k ∷ cs)) ≡ behind_end cs))
      by true c = inl (us, refl, refl)
      by false c = c

  pub title_cut : (us : List Line) → Cut after_title us
  title_cut [] = inr (refl, refl)
  title_cut (u ∷ us) = behind_cut us
