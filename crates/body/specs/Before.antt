-- What the calls said before document 02's K2 and K8, which add how a line ended and the number of a line: document 01's values
-- alone. "Offsets and values stay as they are": each of these is what is said now, without what was added (proofs/Before).
use Rattle.std.specs.Prelude.{List, [], ◌∷◌, ◌++◌, ℕ, length, take, Option, None, Some, Result, Ok}
use Rattle.rules.specs.Answers.{Said, says, Row, answered, judged, misplaced, no_room, place_fits, too_long, trailer_says}
use Rattle.rules.specs.Paragraph.{block_start}
use Rattle.rules.specs.Trailer.{lookup, only, walk_from}
use Rattle.rules.specs.declared.Cursor.{Cursor}
use Rattle.rules.specs.declared.Kind.{Kind}
use Rattle.rules.specs.declared.TrailerStep.{TrailerStep}
use Rattle.body.specs.Body.{find_rows, first_step, first_writes, found_of}
use Rattle.rules.specs.declared.Refusal.{Refusal}
use Rattle.rules.specs.declared.TrailerRef.{TrailerRef}

-- of what a step says: the end's one value, of two; a trailer's six, of nine
abbrev pub step_kept : Said → Said
step_kept (says n []) = says n []
step_kept (says n (at ∷ [])) = says n (at ∷ [])
step_kept (says n (at ∷ line ∷ [])) = says n (at ∷ [])
step_kept (says n (start ∷ end ∷ place ∷ more)) = says n (take 6 (start ∷ end ∷ place ∷ more))

abbrev pub step_values_before : Option TrailerRef → Cursor → List ℕ
step_values_before (Some t) next = trailer_says t ++ (next.at ∷ [])
step_values_before None next = next.at ∷ []

abbrev pub step_before : Result TrailerStep Refusal → Said
step_before = answered (λ s. step_values_before s.found s.next)

abbrev pub found_values_before : Option TrailerRef → List ℕ
found_values_before (Some t) = trailer_says t
found_values_before None = []

abbrev pub found_before : Result (Option TrailerRef) Refusal → Said
found_before = answered found_values_before

-- a cursor was a place alone
abbrev pub step_rows_before : Kind → List ℕ → ℕ → ℕ → List Row
step_rows_before kind body at room =
    too_long (body ∷ []) ∷ misplaced (place_fits at body) ∷ no_room (length (first_writes (only kind (walk_from body at)))) room ∷ []

abbrev pub step_answer_before : Kind → List ℕ → Cursor → ℕ → Said
step_answer_before kind body c room =
    judged (step_rows_before kind body c.at room) (step_before (Ok (first_step body c (only kind (walk_from body c.at)))))

abbrev pub find_answer_before : List ℕ → List ℕ → ℕ → Said
find_answer_before body name room =
    judged (find_rows body name room) (found_before (Ok (found_of body (lookup name (walk_from body (block_start body))))))

abbrev pub start_answer_before : List ℕ → Said
start_answer_before body = judged (too_long (body ∷ []) ∷ []) (says 0 (block_start body ∷ []))
