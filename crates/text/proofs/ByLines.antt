-- A slice walked by its lines: what `line_len` says of the rest from `at` on, which is handed to it. Assumes nothing.
use mathlib.Core.Bool.{Bool, true, false, ◌||◌}
use mathlib.Core.List.{List, [], ◌∷◌}
use mathlib.Core.Path.{◌≡◌, refl, ◌∙◌}
use Prim.Native.Nat.{ℕ, suc, ◌+◌, ◌-◌, ◌≤◌, ◌<◌}
use native.Mathlib.Omega.{arith}
use borrow.Author.Tests.{lt-ltb}
use lib.Dec.{T, eqb, ltb}
use lib.ListN.{length, take, drop, length-drop}
use lib.Seq.{length-take-le}
use Rattle.find.specs.Find.{is_lf}
use Rattle.rules.specs.Bytes.{LF}
use Rattle.rules.specs.Lines.{Line, before, lines}
use Rattle.rules.specs.Lists.{any, filled}
use Rattle.text.specs.Lines.{first_length}
use Rattle.text.proofs.Lines.{first_line_at, first_some, first_within}
use Rattle.rules.proofs.Lines.{lines-filled}
use Rattle.rules.proofs.Parts.{rest}

module _ (s : List ℕ) (at n : ℕ) (h : at < length s) (e : n ≡ first_length (lines (take (length s - at) (drop at s)))) where
  is_first : n ≡ first_length (lines (drop at s))
  is_first = rw rest at e

  pub line_some : 0 < n
  line_some = rw is_first (first_some (drop at s) (omega (arith, length-drop at s)))

  pub line_within : at + n ≤ length s
  line_within = omega (arith, is_first, first_within (drop at s), length-drop at s)

  pub line_ahead : (0 < n) × (at + n ≤ length s)
  line_ahead = (line_some, line_within)

  -- the first line is `&s[at..at + n]`, and the lines after it are those from its end on
  pub line_then : lines (drop at s) ≡ take (at + n - at) (drop at s) ∷ lines (drop (at + n) s)
  line_then =
      let k : at + n - at ≡ n = omega arith in
      rw (k, is_first) (first_line_at s at h)

  pub line_length : length (take (at + n - at) (drop at s)) ≡ n
  line_length = length-take-le (at + n - at) (drop at s) (omega (arith, line_within, length-drop at s)) ∙ omega arith

-- ---- more lines than one: an LF stands before the last byte

one_more : (b p : Bool) (c : ℕ) (ls : List Line) → T (filled ls) → ltb 1 (length ls) ≡ p → ltb 1 (length (before b c ls)) ≡ (b || p)
one_more b p c [] f e = absurd f
one_more true p c (l ∷ ls) f e = lt-ltb 1 (length ((c ∷ []) ∷ l ∷ ls)) (omega arith)
one_more false p c (l ∷ ls) f e = e

counted : (c : ℕ) (s : List ℕ) → ltb 1 (length (lines (c ∷ s))) ≡ any is_lf (take (length s) (c ∷ s))
counted c [] = alone (eqb c LF)
  where
    alone : (b : Bool) → ltb 1 (length (before b c [])) ≡ false
    alone true = refl
    alone false = refl
counted c (d ∷ s) =
    one_more (eqb c LF) (any is_lf (take (length s) (d ∷ s))) c (lines (d ∷ s)) (lines-filled (d ∷ s) tt) (counted d s)

pub more_lines : (s : List ℕ) → (length s ≡ 0 → ⊥) → ltb 1 (length (lines s)) ≡ any is_lf (take (length s - 1) s)
more_lines [] n = absurd (n refl)
more_lines (c ∷ s) n = let k : suc (length s) - 1 ≡ length s = omega arith in rw k (counted c s)

pub no_lines : (s : List ℕ) → length s ≡ 0 → ltb 1 (length (lines s)) ≡ false
no_lines [] e = refl
no_lines (c ∷ s) e = absurd (omega arith)
