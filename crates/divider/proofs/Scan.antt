-- A divider known by its bytes, and the message's end found line by line. Assumes nothing.
use mathlib.Core.Bool.{Bool, true, false, ◌&&◌, ◌||◌}
use mathlib.Core.List.{List, [], ◌∷◌, ◌++◌}
use mathlib.Core.Logic.{⊎_elim}
use mathlib.Core.Path.{◌≡◌, refl, sym, ap, ◌∙◌}
use Prim.Native.Nat.{ℕ, ◌+◌, ◌-◌, ◌≤◌, ◌<◌}
use native.Mathlib.Omega.{arith}
use borrow.Author.Tests.{eq-eqb}
use lib.Dec.{T, eqb, eqb→eq}
use lib.ListN.{length, take, drop, get_or, length-append, drop_of_length-le}
use Rattle.rules.specs.Bytes.{LF, CR, bytes, space}
use Rattle.rules.specs.Lines.{Line, lines, text, without}
use Rattle.rules.specs.Lists.{equal, join, run, starts}
use Rattle.rules.proofs.Lines.{text_ending}
use Rattle.rules.proofs.Lists.{equal_is, or_cases, same_test}
use Rattle.rules.proofs.White.{starts_is}
use Rattle.text.specs.Lines.{first_length}
use Rattle.text.proofs.ByLines.{line_length, line_then}
use Rattle.divider.specs.Divider.{cut, divider, plain}

-- ---- a divider begins with three hyphens

begins : (l rest : List ℕ) → l ≡ bytes "---" ++ rest → T (starts (bytes "---") l)
begins l rest e = rw e tt

hyphens_first : (l : Line) → T (divider l) → T (starts (bytes "---") l)
unfolding divider
hyphens_first l t =
    let (e, k, q) = text_ending l in
    ⊎_elim
    (λ same. begins l e (q ∙ ap (λ (s : List ℕ). s ++ e) (equal_is (text l) (bytes "---") same)))
    (λ more. begins l (space ∷ (drop 4 (text l) ++ e)) (q ∙ ap (λ (s : List ℕ). s ++ e) (starts_is (bytes "--- ") (text l) more)))
    (or_cases (equal (text l) (bytes "---")) (starts (bytes "--- ") (text l)) t)

pub no_divider : (l : Line) → starts (bytes "---") l ≡ false → divider l ≡ false
no_divider l n = by (divider l) (hyphens_first l)
  where
    by : (b : Bool) → (T b → T (starts (bytes "---") l)) → b ≡ false
    by true f = absurd (rw n at (f tt))
    by false f = refl

-- ---- behind the hyphens

without_behind : (x : ℕ) → eqb 45 x ≡ false → (r : List ℕ) → without x (bytes "---" ++ r) ≡ bytes "---" ++ without x r
without_behind x e [] = rw e
without_behind x e (c ∷ r) = refl

text_behind : (r : List ℕ) → text (bytes "---" ++ r) ≡ bytes "---" ++ text r
unfolding text
text_behind r = ap (without CR) (without_behind LF refl r) ∙ without_behind CR refl (without LF r)

divider_behind : (r : List ℕ) → divider (bytes "---" ++ r) ≡ (equal (text r) [] || starts (space ∷ []) (text r))
unfolding divider
divider_behind r = rw (text_behind r)

eqb_turned : (a b : ℕ) → eqb a b ≡ eqb b a
eqb_turned a b = same_test (eqb a b) (eqb b a) (turn a b) (turn b a)
  where
    turn : (x y : ℕ) → T (eqb x y) → T (eqb y x)
    turn x y t = rw (eq-eqb y x (sym (eqb→eq x y t))) tt

-- the first byte of a text is the line's
spaced : (t e : List ℕ) → 0 < length t → (0 < length (t ++ e)) × ((equal t [] || starts (space ∷ []) t) ≡ eqb (get_or (t ++ e) 0 0) space)
spaced [] e h = absurd (omega arith)
spaced (c ∷ t) e h = (omega arith, by (eqb space c) (eqb_turned space c))
  where
    by : (b : Bool) → b ≡ eqb c space → (b && true) ≡ eqb c space
    by true q = q
    by false q = q

module _ (l : Line) (s : starts (bytes "---") l ≡ true) where
  cut_off : l ≡ bytes "---" ++ drop 3 l
  cut_off = starts_is (bytes "---") l (rw s tt)

  behind : length (text l) ≡ 3 + length (text (drop 3 l))
  behind = omega (arith, ap (λ (z : Line). length (text z)) cut_off ∙ ap length (text_behind (drop 3 l)))

  pub hyphens_alone : length (text l) ≡ 3 → divider l ≡ true
  hyphens_alone e = ap divider cut_off ∙ divider_behind (drop 3 l) ∙ none (text (drop 3 l)) (omega (arith, behind))
    where
      none : (t : List ℕ) → length t ≡ 0 → (equal t [] || starts (space ∷ []) t) ≡ true
      none [] q = refl
      none (c ∷ t) q = absurd (omega arith)

  pub more_behind : (length (text l) ≡ 3 → ⊥) → (3 < length l) × (divider l ≡ eqb (get_or l 3 0) space)
  more_behind n =
      let (e, k, q) = text_ending (drop 3 l) in
      let some : 0 < length (text (drop 3 l)) = omega (arith, behind) in
      let h = spaced (text (drop 3 l)) e some in
      let at : l ≡ bytes "---" ++ (text (drop 3 l) ++ e) = cut_off ∙ ap (λ (z : List ℕ). bytes "---" ++ z) q in (
        omega (arith, ap length at, h.0),
        ap divider cut_off ∙ divider_behind (drop 3 l) ∙ h.1 ∙ ap (λ (z : List ℕ). eqb (get_or z 3 0) space) (sym at),
      )

-- ---- line by line

-- nothing is left of a message at its end
pub cut_none : (s : List ℕ) (at : ℕ) → length s ≤ at → length (cut (drop at s)) ≡ 0
unfolding cut
cut_none s at h = rw (drop_of_length-le s h)

-- a line of `n` bytes at `at`: a divider ends the message, and another line is passed with its bytes
module _ (s : List ℕ) (at n : ℕ) (h : at < length s) (e : n ≡ first_length (lines (take (length s - at) (drop at s)))) where
  pub cut_stops : divider (take (at + n - at) (drop at s)) ≡ true → length (cut (drop at s)) ≡ 0
  unfolding cut
  cut_stops d = rw (line_then s at n h e, d)

  pub cut_goes : divider (take (at + n - at) (drop at s)) ≡ false → length (cut (drop at s)) ≡ n + length (cut (drop (at + n) s))
  unfolding cut
  cut_goes d =
      let l : List ℕ = take (at + n - at) (drop at s) in
      rw (line_then s at n h e, d) (length-append l (join (run plain (lines (drop (at + n) s)))) ∙ rw (line_length s at n h e))
