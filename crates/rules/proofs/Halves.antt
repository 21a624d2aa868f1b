-- K9: halves of a raw value (halves_joined); an unfolded value has no LF (unfolded_no_lf), is its own trim (unfolded_trims), and
-- unfolding it changes nothing (unfolded_twice). Assumes nothing.
use mathlib.Core.Bool.{false, not}
use mathlib.Core.List.{List, [], ◌∷◌, ◌++◌, map, map-append, append_assoc, append-nil}
use mathlib.Core.Path.{◌≡◌, refl, sym, ap, ◌∙◌}
use Prim.Native.Nat.{ℕ, ◌+◌}
use native.Mathlib.Nat.{add-zero}
use lib.Dec.{T, ltb}
use lib.ListN.{length}
use Rattle.rules.specs.Bytes.{LF, space}
use Rattle.rules.specs.Halves.{one_space_between}
use Rattle.rules.specs.Lines.{Line, LinesOf, none, last, line, inner, LineStart, lines}
use Rattle.rules.specs.Lists.{All}
use Rattle.rules.specs.Record.{part, value_of, written_of}
use Rattle.rules.specs.Trailer.{after_space, by_spaces, unfolded, value_is_written}
use Rattle.rules.specs.White.{trim, trim_at}
use Rattle.rules.specs.declared.Value.{Value}
use Rattle.rules.proofs.Lines.{lines-append, lines_of, lines_only}
use Rattle.rules.proofs.Lists.{all_append, is_false}
use Rattle.rules.proofs.Spaces.{begins_space, ends_space, no_lf_part, no_lf_line}
use Rattle.rules.proofs.Unfolded.{unfolded_one}
use Rattle.rules.proofs.White.{BeginsWithNone, EndsWithNone, nil_begins, nil_ends, trimmed, trims_itself}

-- ---- the halves joined

-- a piece in front of the first
front_piece : (c : ℕ) (l x y : List ℕ)
    → (c ∷ l) ++ after_space (one_space_between x y) ≡ one_space_between ((c ∷ l) ++ after_space x) y
front_piece c l [] [] = refl
front_piece c l [] (d ∷ y) = rw (append-nil l)
front_piece c l (d ∷ x) [] = refl
front_piece c l (d ∷ x) (e ∷ y) = ap (λ (r : List ℕ). c ∷ r) (sym (append_assoc l (space ∷ d ∷ x) (space ∷ e ∷ y)))

joined_pieces : (xs ys : List (List ℕ)) → by_spaces (xs ++ ys) ≡ one_space_between (by_spaces xs) (by_spaces ys)
joined_pieces [] ys = refl
joined_pieces ([] ∷ xs) ys = joined_pieces xs ys
joined_pieces ((c ∷ l) ∷ xs) ys =
    ap (λ (r : List ℕ). (c ∷ l) ++ after_space r) (joined_pieces xs ys) ∙ front_piece c l (by_spaces xs) (by_spaces ys)

-- "if the first half is empty or ends in LF, unfolding both joined is the two unfolded answers with one space between, or the
-- other one where either is empty"
pub halves_joined : (a b : List ℕ) → LineStart a → unfolded (a ++ b) ≡ one_space_between (unfolded a) (unfolded b)
unfolding unfolded
halves_joined a b t =
    ap (λ (ls : List Line). by_spaces (map trim ls)) (lines-append a b t)
    ∙ ap by_spaces (map-append trim (lines a) (lines b))
    ∙ joined_pieces (map trim (lines a)) (map trim (lines b))

-- where the second half is empty the rule holds of any first half, so of the pairs that it does not speak of those of one byte
-- each are the smallest (specs/ExamplesK9)
pub nothing_joined : (a : List ℕ) → unfolded (a ++ []) ≡ one_space_between (unfolded a) (unfolded [])
unfolding unfolded
nothing_joined a = ap unfolded (append-nil a) ∙ alone (unfolded a)
  where
    alone : (s : List ℕ) → s ≡ one_space_between s []
    alone [] = refl
    alone (c ∷ s) = refl

-- ---- no LF is left

after_inner : (s : List ℕ) → All inner s → All inner (after_space s)
after_inner [] a = tt
after_inner (c ∷ s) a = (tt, a)

no_lf_joined : (l : List ℕ) (ls : List (List ℕ)) → All inner l → All inner (by_spaces ls) → All inner (by_spaces (l ∷ ls))
no_lf_joined [] ls a h = h
no_lf_joined (c ∷ l) ls a h = all_append inner (c ∷ l) (after_space (by_spaces ls)) a (after_inner (by_spaces ls) h)

no_lf_lines : {s : List ℕ} {ls : List Line} → LinesOf s ls → All inner (by_spaces (map trim ls))
no_lf_lines none = tt
no_lf_lines (last {c} {t} a) = no_lf_joined (trim (c ∷ t)) [] (no_lf_part (c ∷ t) a) tt
no_lf_lines (line {s} {ls} t a r) = no_lf_joined (trim (t ++ LF ∷ [])) (map trim ls) (no_lf_line t a) (no_lf_lines r)

pub unfolded_no_lf : (raw : List ℕ) → All inner (unfolded raw)
unfolding unfolded
unfolded_no_lf raw = no_lf_lines (lines_of raw)

-- ---- it is its own trim

begins_joined : (l : List ℕ) (ls : List (List ℕ)) → BeginsWithNone l → BeginsWithNone (by_spaces ls) → BeginsWithNone (by_spaces (l ∷ ls))
begins_joined [] ls b h = h
begins_joined (c ∷ l) ls b h = at (by_spaces ls)
  where
    at : (s : List ℕ) → BeginsWithNone ((c ∷ l) ++ after_space s)
    at [] = rw (append-nil (c ∷ l)) b
    at (d ∷ s) = begins_space (c ∷ l) (d ∷ s) tt b

ends_joined : (l : List ℕ) (ls : List (List ℕ)) → EndsWithNone l → EndsWithNone (by_spaces ls) → EndsWithNone (by_spaces (l ∷ ls))
ends_joined [] ls n h = h
ends_joined (c ∷ l) ls n h = at (by_spaces ls) h
  where
    at : (s : List ℕ) → EndsWithNone s → EndsWithNone ((c ∷ l) ++ after_space s)
    at [] h = rw (append-nil (c ∷ l)) n
    at (d ∷ s) h = ends_space (c ∷ l) (d ∷ s) tt h

joined_begins : (ls : List Line) → BeginsWithNone (by_spaces (map trim ls))
joined_begins [] = nil_begins
joined_begins (l ∷ ls) = begins_joined (trim l) (map trim ls) (trimmed l).begins_with_none (joined_begins ls)

joined_ends : (ls : List Line) → EndsWithNone (by_spaces (map trim ls))
joined_ends [] = nil_ends
joined_ends (l ∷ ls) = ends_joined (trim l) (map trim ls) (trimmed l).ends_with_none (joined_ends ls)

pub unfolded_trims : (raw : List ℕ) → (trim (unfolded raw) ≡ unfolded raw) × (trim_at (unfolded raw) ≡ 0)
unfolding unfolded
unfolded_trims raw = trims_itself (unfolded raw) (joined_begins (lines raw)) (joined_ends (lines raw))

-- ---- so it is its own unfolded value: without an LF there is one line at most

one_line : (s : List ℕ) → All inner s → T (not (ltb 1 (length (lines s))))
one_line [] a = tt
one_line (c ∷ s) a = rw (lines_only (last {c = c} {t = s} a)) tt

-- read as a raw value again it is answered as a part, with nothing written
pub unfolded_is_part : (raw : List ℕ) → value_is_written (unfolded raw) ≡ false
unfolding value_is_written
unfolded_is_part raw = is_false (value_is_written (unfolded raw)) (one_line (unfolded raw) (unfolded_no_lf raw))

-- "unfolding an unfolded value [..] changes nothing"
pub unfolded_twice : (raw : List ℕ) → unfolded (unfolded raw) ≡ unfolded raw
unfolded_twice raw = unfolded_one (unfolded raw) (rw (unfolded_is_part raw) tt) ∙ (unfolded_trims raw).0

-- ---- so, for the calls, a value that is read as a raw value again is answered as the part that it is

pub value_again : (at : ℕ) (raw : List ℕ)
    → (written_of (unfolded raw) ≡ []) × (value_of at (unfolded raw) ≡ Value.InInput (part at (at + length (unfolded raw))))
value_again at raw =
    let (same, front) = unfolded_trims raw in
    (rw (unfolded_is_part raw), rw (unfolded_is_part raw, same, front, add-zero at))
