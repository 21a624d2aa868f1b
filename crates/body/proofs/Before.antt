-- K2 and K8: offsets and values stay. Each answer, without the ending and the numbers that stand behind its values, is document 01's;
-- a step's for every cursor that is right. Assumes nothing.
use Rattle.std.specs.Prelude.{Option, None, Some, Ok}
use mathlib.Core.Bool.{true, false}
use mathlib.Core.List.{List, [], ◌∷◌, ◌++◌}
use mathlib.Core.Path.{◌≡◌, refl, sym, ap}
use Prim.Native.Nat.{ℕ}
use lib.ListN.{take}
use Rattle.rules.proofs.Number.{right_fits}
use Rattle.rules.specs.Answers.{Said, says, Row, row, judged, start_says, trailer_found_says, trailer_says, trailer_step_says, too_long, up_to, value_says}
use Rattle.rules.specs.Number.{Right, line_number, moved_on}
use Rattle.rules.specs.Paragraph.{block_start}
use Rattle.rules.specs.Record.{record_of}
use Rattle.rules.specs.Trailer.{Trailer, end_of, lookup, only, place_of, walk_from}
use Rattle.rules.specs.declared.Cursor.{Cursor}
use Rattle.rules.specs.declared.Kind.{Kind}
use Rattle.rules.specs.declared.TrailerRef.{TrailerRef}
use Rattle.rules.specs.declared.Value.{Value}
use Rattle.body.specs.Before.{find_answer_before, found_before, start_answer_before, step_answer_before, step_before, step_kept, step_rows_before}
use Rattle.body.specs.Body.{find_answer, find_rows, first_step, found_of, start_answer, start_of, step_answer}

-- the refusals have so few values that all of them are kept
abbrev Kept : (Said → Said) → List Row → Type 0
Kept kept [] = Unit {0}
Kept kept (row fires said ∷ rows) = (kept said ≡ said) × Kept kept rows

behind_rows : (kept : Said → Said) (rows : List Row) → Kept kept rows → (a b : Said) → a ≡ kept b → judged rows a ≡ kept (judged rows b)
behind_rows kept [] k a b e = e
behind_rows kept (row true said ∷ rows) k a b e = sym k.0
behind_rows kept (row false said ∷ rows) k a b e = behind_rows kept rows k.1 a b e

-- ---- the step: six values of nine, and one of two

six_kept : (t : TrailerRef) (at : ℕ) (more : List ℕ) → says 0 (trailer_says t ++ (at ∷ [])) ≡ step_kept (says 0 (trailer_says t ++ (at ∷ more)))
six_kept t at more = by t.value
  where
    by : (v : Value) → says 0 (t.token.start ∷ t.token.end ∷ (value_says v ++ (at ∷ []))) ≡ step_kept (says 0 (t.token.start ∷ t.token.end ∷ (value_says v ++ (at ∷ more))))
    by (Value.InInput p) = refl
    by (Value.InBuffer p) = refl

first_before : (body : List ℕ) (c : Cursor) (ts : List Trailer) → step_before (Ok (first_step body c ts)) ≡ step_kept (trailer_step_says (Ok (first_step body c ts)))
first_before body c [] = refl
first_before body c (t ∷ ts) = six_kept (record_of (moved_on body c (place_of t)).line t) (end_of t) _

pub step_before_lem : (kind : Kind) (body : List ℕ) (c : Cursor) (room : ℕ) → Right body c
    → step_answer_before kind body c room ≡ step_kept (step_answer kind body c room)
step_before_lem kind body c room right =
    rw (right_fits body c right)
    (behind_rows step_kept (step_rows_before kind body c.at room) (refl, (refl, (refl, tt)))
    (step_before (Ok (first_step body c (only kind (walk_from body c.at))))) (trailer_step_says (Ok (first_step body c (only kind (walk_from body c.at)))))
    (first_before body c (only kind (walk_from body c.at))))

-- ---- the lookup: five of seven

five_kept : (t : TrailerRef) (more : List ℕ) → trailer_says t ≡ take 5 (trailer_says t ++ more)
five_kept t more = by t.value
  where
    by : (v : Value) → t.token.start ∷ t.token.end ∷ value_says v ≡ take 5 (t.token.start ∷ t.token.end ∷ (value_says v ++ more))
    by (Value.InInput p) = refl
    by (Value.InBuffer p) = refl

found_before_lem : (body : List ℕ) (o : Option Trailer) → found_before (Ok (found_of body o)) ≡ up_to 5 (trailer_found_says (Ok (found_of body o)))
found_before_lem body None = refl
found_before_lem body (Some t) = ap (says 0) (five_kept (record_of (line_number body (place_of t)) t) _)

pub find_before : (body name : List ℕ) (room : ℕ) → find_answer_before body name room ≡ up_to 5 (find_answer body name room)
find_before body name room =
    behind_rows (up_to 5) (find_rows body name room) (refl, (refl, tt))
    (found_before (Ok (found_of body (lookup name (walk_from body (block_start body)))))) (trailer_found_says (Ok (found_of body (lookup name (walk_from body (block_start body))))))
    (found_before_lem body (lookup name (walk_from body (block_start body))))

-- ---- the block start: one of two

pub start_before : (body : List ℕ) → start_answer_before body ≡ up_to 1 (start_answer body)
start_before body =
    behind_rows (up_to 1) (too_long (body ∷ []) ∷ []) (refl, tt)
    (says 0 (block_start body ∷ [])) (start_says (Ok (start_of body))) refl
