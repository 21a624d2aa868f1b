-- What `closing_note` and `may_erase` answer: document 02, K10. "Refusals: 9, one missing; 10, one repeated; 11, a bad content; after 1,
-- lowest first, each naming the first such field in the order above."
use Rattle.std.specs.Prelude.{Bool, true, false, List, [], ◌∷◌, ℕ, ◌+◌, length, Result}
use Rattle.rules.specs.Answers.{Said, says, Row, row, judged, said_by, flag, flag_values}
use Rattle.rules.specs.Paragraph.{message_trailers}
use Rattle.rules.specs.Trailer.{Trailer}
use Rattle.closing.specs.Closing.{Answer, noted, refused, answer, erases}
use Rattle.closing.specs.Judged.{content_at}
use Rattle.closing.specs.declared.Fault.{Fault}
use Rattle.closing.specs.declared.Field.{Field}
use Rattle.closing.specs.declared.Note.{Note}
use Rattle.closing.specs.declared.NoteError.{NoteError}

-- ---- the answers' numbers and values

-- "9, one missing; 10, one repeated; 11, a bad content"
abbrev pub fault_number : Fault → ℕ
fault_number Fault.Missing = 9
fault_number Fault.Repeated = 10
fault_number Fault.BadContent = 11

-- "in the order above", from 0 on
abbrev pub field_number : Field → ℕ
field_number Field.Vehicle = 0
field_number Field.Records = 1
field_number Field.OffloadState = 2

abbrev pub refusal_says : Fault → Field → Said
refusal_says k f = says (fault_number k) (field_number f ∷ [])

-- of either call: it refuses an input over the limit, and what is no closing note
abbrev pub error_says : NoteError → Said
error_says NoteError.TooLong = says 1 []
error_says (NoteError.Refused k f) = refusal_says k f

-- where the vehicle starts and ends in the message, the count, and whether the state is complete
abbrev pub note_shows : Note → List ℕ
note_shows n = n.vehicle.start ∷ n.vehicle.end ∷ n.records ∷ flag n.complete ∷ []

abbrev pub note_found_says : Result Note NoteError → Said
note_found_says = said_by note_shows error_says

-- 1 for yes, 0 for no
abbrev pub erase_found_says : Result Bool NoteError → Said
erase_found_says = said_by flag_values error_says

-- ---- of some trailers

-- the row that fires where the answer is a refusal
abbrev pub faulty : Answer → Row
faulty (noted vehicle records whole) = row false (says 0 [])
faulty (refused k f) = row true (refusal_says k f)

abbrev pub note_values : List Trailer → Answer → List ℕ
note_values ts (noted vehicle records whole) =
    content_at Field.Vehicle ts ∷ (content_at Field.Vehicle ts + length vehicle) ∷ records ∷ flag whole ∷ []
note_values ts (refused k f) = []

abbrev pub note_said : List Trailer → Answer → Said
note_said ts a = judged (faulty a ∷ []) (says 0 (note_values ts a))

abbrev pub erase_said : ℕ → Answer → Said
erase_said received a = judged (faulty a ∷ []) (says 0 (flag (erases received a) ∷ []))

-- ---- "its trailers": those of an entry's message; "after 1", which judges the message uncut, and stands before these for either reading (divider/specs/Readings)

abbrev pub note_answer : List ℕ → Said
note_answer m = note_said (message_trailers m) (answer (message_trailers m))

abbrev pub erase_answer : ℕ → List ℕ → Said
erase_answer received m = erase_said received (answer (message_trailers m))
