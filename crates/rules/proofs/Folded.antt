-- A trailer's raw value has more than one line just if folded lines stand under the trailer's first line, and one line holds at most one
-- LF, its last byte: so where the first line ends tells whether a value is unfolded, and how many LFs are passed. Assumes nothing.
use Rattle.std.specs.Prelude.{if◌then◌else◌}
use mathlib.Core.Bool.{Bool, true, false, not}
use mathlib.Core.List.{List, [], ◌∷◌, ◌++◌, append_assoc}
use mathlib.Core.Path.{◌≡◌, refl, sym, ap, ◌∙◌}
use Prim.Native.Nat.{ℕ, suc, ◌+◌, ◌-◌, ◌≤◌, ◌<◌}
use native.Mathlib.Omega.{arith}
use borrow.Author.Tests.{le-ltb, lt-ltb}
use lib.Dec.{T, not_T, eqb, eqb→eq, ltb}
use lib.ListN.{length, take, drop, get_or, length-append, length-drop}
use lib.Seq.{get_or-drop, take-suc}
use Rattle.rules.specs.Bytes.{LF, colon, gap_byte, token_byte}
use Rattle.rules.specs.Lines.{Line, before, lines}
use Rattle.rules.specs.Lists.{All, filled, join}
use Rattle.rules.specs.Number.{line_feeds}
use Rattle.rules.specs.Trailer.{trailer_line, token_in, gap_in, value_in, value_is_written}
use Rattle.rules.proofs.Lines.{filled-lines}
use Rattle.rules.proofs.Lists.{append-filled, clash, filled-append, filled_some, is_false}
use Rattle.rules.proofs.Number.{feeds_and_lines, feeds_append}
use Rattle.rules.proofs.Trailer.{trailer_line_lem}

-- ---- the raw value

-- no LF stands among bytes of a kind that LF is not of
none_of : (p : ℕ → Bool) (s : List ℕ) → T (not (p LF)) → All p s → line_feeds s ≡ 0
none_of p [] n a = refl
none_of p (c ∷ s) n a =
    let other : eqb c LF ≡ false = is_false (eqb c LF) (not_T (eqb c LF) (λ e. clash p c LF a.0 n (eqb→eq c LF e))) in
    rw other (omega (arith, none_of p s n a.1))

module _ (l : Line) (js : List Line) (t : T (trailer_line l)) (e : lines (l ++ join js) ≡ l ∷ js) where
  abbrev raw : List ℕ
  raw = value_in l ++ join js

  abbrev front : List ℕ
  front = token_in l ++ (gap_in l ++ colon ∷ [])

  no_feeds : line_feeds front ≡ 0
  unfolding token_byte gap_byte
  no_feeds =
      omega (
        arith,
        feeds_append (token_in l) (gap_in l ++ colon ∷ []),
        feeds_append (gap_in l) (colon ∷ []),
        none_of token_byte (token_in l) tt (trailer_line_lem l t).token_bytes,
        none_of gap_byte (gap_in l) tt (trailer_line_lem l t).gap_bytes,
      )

  whole : l ++ join js ≡ front ++ raw
  whole = ap (λ (x : List ℕ). x ++ join js) (trailer_line_lem l t).read ∙ simp append_assoc

  -- where it has bytes, the raw value has as many lines as the trailer
  as_many : T (filled raw) → length (lines raw) ≡ suc (length js)
  as_many f = omega (arith, no_feeds, feeds_and_lines front raw f, ap length (sym (ap lines whole) ∙ e))

at_most_one : (s : List ℕ) → (T (filled s) → length (lines s) ≡ 1) → length (lines s) ≤ 1
at_most_one [] f = omega arith
at_most_one (c ∷ s) f = omega (arith, f tt)

pub raw_folded : (at : ℕ) (l : Line) (js : List Line) → T (trailer_line l) → lines (l ++ join js) ≡ l ∷ js
    → value_is_written (value_in l ++ join js) ≡ ltb (at + length l) (at + length (l ++ join js))
unfolding value_is_written
raw_folded at l [] t e =
    le-ltb 1 (length (lines (raw l [] t e))) (at_most_one (raw l [] t e) (as_many l [] t e))
    ∙ sym (le-ltb (at + length l) (at + length (l ++ [])) (omega (arith, length-append l [])))
raw_folded at l (j ∷ js) t e =
    let under : T (filled j) = (rw e at (filled-lines (l ++ join (j ∷ js)))).1.0 in
    let some : T (filled (join (j ∷ js))) = filled-append j (join js) under in
    lt-ltb 1 (length (lines (raw l (j ∷ js) t e))) (omega (arith, as_many l (j ∷ js) t e (append-filled (value_in l) (join (j ∷ js)) some)))
    ∙ sym (lt-ltb (at + length l) (at + length (l ++ join (j ∷ js))) (omega (arith, length-append l (join (j ∷ js)), filled_some (join (j ∷ js)) some)))

-- ---- the LF of one line

-- its last byte tells how many it has
alone : (c : ℕ) → length (lines (c ∷ [])) ≡ 1
alone c = elim (eqb c LF) as (λ b. length (before b c []) ≡ 1) [ true ↦ refl | false ↦ refl ]

pub last_feed : (s : List ℕ) (at end : ℕ) → at < end → end ≤ length s → length (lines (take (end - at) (drop at s))) ≡ 1
    → line_feeds (take (end - at) (drop at s)) ≡ (if eqb (get_or s (end - 1) 0) LF then 1 else 0)
last_feed s at end h k one =
    let c : ℕ = get_or s (end - 1) 0 in
    let ahead : List ℕ = take (end - 1 - at) (drop at s) in
    let size : end - at ≡ suc (end - 1 - at) = omega arith in
    let place : at + (end - 1 - at) ≡ end - 1 = omega arith in
    let there : get_or (drop at s) (end - 1 - at) 0 ≡ c = get_or-drop at s (end - 1 - at) 0 ∙ rw place in
    let more : end - 1 - at < length (drop at s) = omega (arith, length-drop at s) in
    let cut : take (end - at) (drop at s) ≡ ahead ++ c ∷ [] = rw (size, ← there) (take-suc (drop at s) (end - 1 - at) 0 more) in
    rw cut (omega (arith, feeds_append ahead (c ∷ []), feeds_and_lines ahead (c ∷ []) tt, alone c, rw cut at one))
