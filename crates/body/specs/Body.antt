-- What each call on a body answers, and what it leaves in the buffer: document 01's rules behind its refusal table.
use Rattle.std.specs.Prelude.{◌&&◌, List, [], ◌∷◌, ℕ, ◌+◌, ◌-◌, length, take, drop, Option, None, Some, Result, Ok, Err, if◌then◌else◌}
use Rattle.rules.specs.Answers.{Said, Row, judged, too_long, misplaced, no_room, afterwards, place_fits, range_fits}
use Rattle.rules.specs.Answers.{block_step_says, start_says, trailer_found_says, trailer_step_says, walk_found_says, yes_no_says}
use Rattle.rules.specs.Division.{Block, block, blocks_from}
use Rattle.rules.specs.Number.{cursor_at, cursor_fits, line_number, moved_on}
use Rattle.rules.specs.Paragraph.{block_start, ending_below}
use Rattle.rules.specs.Record.{block_places, block_step_with, record_of, step_with, written_of}
use Rattle.rules.specs.Trailer.{Trailer, place_of, end_of, raw_value, is_of, lookup, only, walk_from}
use Rattle.rules.specs.declared.BlockCursor.{BlockCursor}
use Rattle.rules.specs.declared.BlockStart.{BlockStart}
use Rattle.rules.specs.declared.BlockStep.{BlockStep}
use Rattle.rules.specs.declared.Cursor.{Cursor}
use Rattle.rules.specs.declared.Kind.{Kind}
use Rattle.rules.specs.declared.TrailerStep.{TrailerStep}
use Rattle.rules.specs.declared.TrailerRef.{TrailerRef}

-- ---- `next_trailer` and the filters: `ts` are the trailers from the cursor on that the filter `kind` leaves

-- the record of the first of them and the cursor behind it; "at the end, the cursor is the input's length". The numbers are counted
-- on from the cursor's
abbrev pub first_step : List ℕ → Cursor → List Trailer → TrailerStep
first_step body c [] = step_with None (moved_on body c (length body))
first_step body c (t ∷ ts) = step_with (Some (record_of (moved_on body c (place_of t)).line t)) (moved_on body c (end_of t))

abbrev pub first_writes : List Trailer → List ℕ
first_writes [] = []
first_writes (t ∷ ts) = written_of (raw_value t)

abbrev pub step_rows : Kind → List ℕ → Cursor → ℕ → List Row
step_rows kind body c room =
    too_long (body ∷ []) ∷ misplaced (cursor_fits c body) ∷ no_room (length (first_writes (only kind (walk_from body c.at)))) room ∷ []

abbrev pub step_answer : Kind → List ℕ → Cursor → ℕ → Said
step_answer kind body c room =
    judged (step_rows kind body c room) (trailer_step_says (Ok (first_step body c (only kind (walk_from body c.at)))))

abbrev pub step_buffer : Kind → List ℕ → Cursor → List ℕ → List ℕ
step_buffer kind body c out =
    afterwards (step_answer kind body c (length out)) (first_writes (only kind (walk_from body c.at))) out

-- ---- where a walk begins: `cursor_at` a place, and `body_trailers`, the original's `trailers()`

abbrev pub cursor_answer : List ℕ → ℕ → Said
cursor_answer input at =
    judged (too_long (input ∷ []) ∷ misplaced (place_fits at input) ∷ []) (walk_found_says (Ok (cursor_at input at)))

abbrev pub trailers_answer : List ℕ → Said
trailers_answer body = judged (too_long (body ∷ []) ∷ []) (walk_found_says (Ok (cursor_at body (block_start body))))

-- ---- `find_trailer`: the trailers are those of the body's walk

abbrev pub found_of : List ℕ → Option Trailer → Option TrailerRef
found_of body None = None
found_of body (Some t) = Some (record_of (line_number body (place_of t)) t)

abbrev pub found_writes : Option Trailer → List ℕ
found_writes None = []
found_writes (Some t) = written_of (raw_value t)

abbrev pub find_rows : List ℕ → List ℕ → ℕ → List Row
find_rows body name room =
    too_long (body ∷ name ∷ []) ∷ no_room (length (found_writes (lookup name (walk_from body (block_start body))))) room ∷ []

abbrev pub find_answer : List ℕ → List ℕ → ℕ → Said
find_answer body name room =
    judged (find_rows body name room) (trailer_found_says (Ok (found_of body (lookup name (walk_from body (block_start body))))))

abbrev pub find_buffer : List ℕ → List ℕ → List ℕ → List ℕ
find_buffer body name out =
    afterwards (find_answer body name (length out)) (found_writes (lookup name (walk_from body (block_start body)))) out

-- ---- the seven attribution questions, about the part of the input from `start` up to `end`

abbrev pub question_answer : Kind → List ℕ → ℕ → ℕ → Said
question_answer kind s start end =
    judged (too_long (s ∷ []) ∷ misplaced (range_fits start end s) ∷ [])
    (yes_no_says (Ok (is_of kind (take (end - start) (drop start s)))))

-- ---- `trailer_block_start`

abbrev pub start_of : List ℕ → BlockStart
start_of body = record { start = block_start body; ending = ending_below body }

abbrev pub start_answer : List ℕ → Said
start_answer body = judged (too_long (body ∷ []) ∷ []) (start_says (Ok (start_of body)))

-- ---- `next_block`: the blocks from the cursor on

-- "After a step both are the block's end; at the end of the walk both are the body's length."
abbrev pub block_cursor : ℕ → BlockCursor
block_cursor at = record { at = at; start = at }

abbrev pub first_block : List ℕ → ℕ → List Block → BlockStep
first_block body at [] = block_step_with None (block_cursor (length body))
first_block body at (block m t ∷ bs) =
    block_step_with (Some (block_places (at + length m) (at + length m + length t))) (block_cursor (at + length m + length t))

abbrev pub block_answer : List ℕ → ℕ → ℕ → Said
block_answer body at start =
    judged (too_long (body ∷ []) ∷ misplaced (place_fits at body && place_fits start body) ∷ [])
    (block_step_says (Ok (first_block body at (blocks_from body at start))))
