-- What `parse_trailer_line` answers: of a line, by what stands where its token and the gap behind it end; and of all that
-- follows a line's start as of the line, since no LF stands up to the colon (parsed_front). Assumes nothing.
use Rattle.std.specs.Prelude.{None, Some, is_some, if◌then◌else◌}
use mathlib.Core.Bool.{Bool, true, false}
use mathlib.Core.List.{List, [], ◌∷◌, ◌++◌, nil≢cons}
use mathlib.Core.Path.{◌≡◌, refl, sym, ◌∙◌}
use Prim.Native.Nat.{ℕ, ◌+◌, ◌≤◌, ◌<◌}
use native.Mathlib.Omega.{arith}
use borrow.Author.Tests.{eq-eqb, ne_eqb}
use lib.Dec.{eqb}
use lib.ListN.{length, drop, get_or, drop_of_length-le, length-drop}
use lib.Seq.{drop-cons, drop-drop}
use Rattle.rules.specs.Bytes.{LF, colon, gap_byte, token_byte}
use Rattle.rules.specs.Lines.{Line, LinesOf, none, last, line, lines}
use Rattle.rules.specs.Lists.{first, past, run}
use Rattle.rules.specs.Trailer.{named, coloned, trailer_line, token_in, gap_in}
use Rattle.rules.proofs.Lines.{lines_of}
use Rattle.trailer.specs.Line.{trailer_line_at, parsed}
use Rattle.trailer.specs.declared.line.TrailerLine.{TrailerLine}
use Rattle.rules.proofs.Lists.{run_within}
use Rattle.trailer.proofs.Runs.{behind_run, first_run}

-- ---- a line by its places

pub token_within : (l : Line) → length (token_in l) ≤ length l
unfolding token_in
token_within l = run_within token_byte l

pub no_token : (l : Line) → length (token_in l) ≡ 0 → parsed l ≡ None
unfolding parsed trailer_line named token_in
no_token l e = rw (first_run token_byte l, eq-eqb _ 0 e)

-- whether there is one
pub parsed_told : (l : Line) → is_some (parsed l) ≡ trailer_line l
unfolding parsed
parsed_told l = by (trailer_line l) _
  where
    by : (b : Bool) (t : TrailerLine) → is_some (if b then Some t else None) ≡ b
    by true t = refl
    by false t = refl

-- `n` is the token's end, and `at` the end of the gap behind it
module _ (l : Line) (n at : ℕ) (t : n ≡ length (token_in l)) (e : at ≡ n + length (run gap_byte (drop n l))) where
  pub gap_within : at ≤ length l
  gap_within = omega (arith, token_within l, run_within gap_byte (drop n l), length-drop n l)

  by_colon : (n ≡ 0 → ⊥) → parsed l ≡ (if first (eqb colon) (drop at l) then Some (trailer_line_at n (at + 1)) else None)
  unfolding parsed trailer_line named coloned token_in gap_in
  by_colon some =
      let token : drop n l ≡ past token_byte l = rw t (behind_run token_byte l) in
      let gap : at ≡ n + length (gap_in l) = e ∙ rw token in
      let behind : drop at l ≡ past gap_byte (past token_byte l) =
      rw (gap, ← drop-drop (length (gap_in l)) n l, token) (behind_run gap_byte (past token_byte l)) in
      rw (first_run token_byte l, ← t, ne_eqb n 0 some, behind, gap)

  pub ends_there : (n ≡ 0 → ⊥) → at ≡ length l → parsed l ≡ None
  ends_there some h = let past_end : length l ≤ at = omega arith in by_colon some ∙ rw (drop_of_length-le l past_end)

  pub other_there : (n ≡ 0 → ⊥) → (at ≡ length l → ⊥) → (get_or l at 0 ≡ colon → ⊥) → parsed l ≡ None
  other_there some more other =
      let inside : at < length l = omega (arith, gap_within) in
      by_colon some ∙ rw (drop-cons l at 0, ne_eqb colon (get_or l at 0) (λ q. other (sym q)))

  pub colon_there : (n ≡ 0 → ⊥) → (at ≡ length l → ⊥) → get_or l at 0 ≡ colon → parsed l ≡ Some (trailer_line_at n (at + 1))
  colon_there some more q =
      let inside : at < length l = omega (arith, gap_within) in
      by_colon some ∙ rw (drop-cons l at 0, eq-eqb colon (get_or l at 0) (sym q))

-- ---- from a line's start on

-- a byte that does not pass ends a run
module _ (p : ℕ → Bool) (stop : p LF ≡ false) (z : List ℕ) where
  run_to : (t : List ℕ) → run p (t ++ LF ∷ z) ≡ run p t
  run_to [] = rw stop
  run_to (c ∷ t) = rw (run_to t)

  past_to : (t : List ℕ) → past p (t ++ LF ∷ z) ≡ past p t ++ LF ∷ z
  past_to [] = rw stop
  past_to (c ∷ t) =
      elim (p c) as (λ b. (if b then past p (t ++ LF ∷ z) else c ∷ (t ++ LF ∷ z)) ≡ (if b then past p t else c ∷ t) ++ LF ∷ z) [
        | true ↦ past_to t
        | false ↦ refl
      ]

  first_to : (t : List ℕ) → first p (t ++ LF ∷ z) ≡ first p t
  first_to [] = stop
  first_to (c ∷ t) = refl

token_to : token_byte LF ≡ false
unfolding token_byte
token_to = refl

gap_to : gap_byte LF ≡ false
unfolding gap_byte
gap_to = refl

-- what a trailer line is known by
abbrev pub Same : List ℕ → List ℕ → Type 0
Same s l = (trailer_line s ≡ trailer_line l) × (token_in s ≡ token_in l) × (gap_in s ≡ gap_in l)

same_to : (t z : List ℕ) → Same (t ++ LF ∷ z) t
unfolding trailer_line named coloned token_in gap_in
same_to t z =
    let behind : past token_byte (t ++ LF ∷ z) ≡ past token_byte t ++ LF ∷ z = past_to token_byte token_to z t in (
      rw (behind, first_to token_byte token_to z t, past_to gap_byte gap_to z (past token_byte t))
          (rw (first_to (eqb colon) refl z (past gap_byte (past token_byte t)))),
      run_to token_byte token_to z t,
      rw behind (run_to gap_byte gap_to z (past token_byte t)),
    )

-- the front of a line and of all that follows its start are the same
pub same_front : (s : List ℕ) (l : Line) (ls : List Line) → lines s ≡ l ∷ ls → Same s l
same_front s l ls e = of (lines_of s) e
  where
    of : {s : List ℕ} {ks : List Line} → LinesOf s ks → ks ≡ l ∷ ls → Same s l
    of none e = absurd (nil≢cons e)
    of (last {c} {t} a) e = let q : l ≡ c ∷ t = cc in rw q (refl, refl, refl)
    of (line {s} t a r) e =
        let q : l ≡ t ++ LF ∷ [] = cc in
        let x : Same (t ++ LF ∷ s) t = same_to t s in
        let y : Same (t ++ LF ∷ []) t = same_to t [] in
        rw q (cc, cc, cc)

pub parsed_front : (s : List ℕ) (l : Line) (ls : List Line) → lines s ≡ l ∷ ls → parsed s ≡ parsed l
unfolding parsed
parsed_front s l ls e =
    let x : Same s l = same_front s l ls e in
    rw (x.0, x.1, x.2)
