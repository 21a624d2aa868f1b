-- What each call on a whole message, or on a title, answers and leaves in the buffer: document 01's rules behind its refusal
-- table.
use Rattle.std.specs.Prelude.{List, [], ◌∷◌, ℕ, ◌+◌, length, Result, Ok, Err, if◌then◌else◌}
use Rattle.rules.specs.Answers.{Said, says, judged, too_long, no_room, afterwards, value_found_says, walk_found_says}
use Rattle.rules.specs.Number.{cursor_at}
use Rattle.rules.specs.Paragraph.{block_start}
use Rattle.rules.specs.Record.{part}
use Rattle.rules.specs.Summary.{summary, summary_is_written}
use Rattle.rules.specs.Title.{body, body_start}
use Rattle.rules.specs.White.{trim, trim_at}
use Rattle.rules.specs.declared.Cursor.{Cursor}
use Rattle.rules.specs.declared.Value.{Value}
use Rattle.rules.specs.declared.Refusal.{Refusal}

-- ---- `summary` and `message_summary`: of a title, or of a whole message

abbrev pub summary_writes : List ℕ → List ℕ
summary_writes s = if summary_is_written s then summary s else []

abbrev pub summary_of : List ℕ → Value
summary_of s =
    if summary_is_written s then Value.InBuffer (part 0 (length (summary s)))
    else Value.InInput (part (trim_at s) (trim_at s + length (trim s)))

abbrev pub summary_answer : List ℕ → ℕ → Said
summary_answer s room =
    judged (too_long (s ∷ []) ∷ no_room (length (summary_writes s)) room ∷ []) (value_found_says (Ok (summary_of s)))

abbrev pub summary_buffer : List ℕ → List ℕ → List ℕ
summary_buffer s out = afterwards (summary_answer s (length out)) (summary_writes s) out

-- ---- `message_trailers`: where the walk of the trailers begins in the message; its length where there is no body. The number is that
-- of the line in the message, "the title's lines included"

abbrev pub walk_start : List ℕ → Cursor
walk_start message = cursor_at message (body_start message + block_start (body message))

abbrev pub walk_answer : List ℕ → Said
walk_answer message = judged (too_long (message ∷ []) ∷ []) (walk_found_says (Ok (walk_start message)))

-- what it said before document 02's K8: the position alone (proofs/Started, walk_before)
abbrev pub walk_answer_before : List ℕ → Said
walk_answer_before message = judged (too_long (message ∷ []) ∷ []) (says 0 ((walk_start message).at ∷ []))
