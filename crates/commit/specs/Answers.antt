-- What `header_line` and `commit_message` answer: document 02, K13, "Answer" and "Refusals".
use Rattle.std.specs.Prelude.{true, false, List, [], ◌∷◌, ◌≡◌, ℕ, zero, suc, ◌+◌, length, Option, Some, None, Result}
use Rattle.rules.specs.Answers.{Said, says, said_by, Row, row, judged, too_long, part_of}
use Rattle.rules.specs.declared.Part.{Part}
use Rattle.commit.specs.Grammar.{HeaderLine, named, written, written_all}
use Rattle.commit.specs.Place.{Answer, accepted, refused}
use Rattle.commit.specs.Reader.{commit}
use Rattle.commit.specs.declared.CommitError.{CommitError}
use Rattle.commit.specs.declared.HeaderLine.{HeaderLine as LineParts}

-- ---- the answers' numbers and values

abbrev pub commit_refused : CommitError → Said
commit_refused CommitError.TooLong = says 1 []
commit_refused (CommitError.BadHeader line) = says 13 (line ∷ [])

-- the name from, to, the content from, to; the end past the last line has no values
abbrev pub line_values : Option LineParts → List ℕ
line_values (Some l) = l.name.start ∷ l.name.end ∷ l.content.start ∷ l.content.end ∷ []
line_values None = []

abbrev pub line_says : Result (Option LineParts) CommitError → Said
line_says = said_by line_values commit_refused

abbrev pub message_values : Part → List ℕ
message_values message = message.start ∷ message.end ∷ []

abbrev pub message_says : Result Part CommitError → Said
message_says = said_by message_values commit_refused

-- ---- refusals

-- "13 with the number of the first line after which no good header is possible"
abbrev pub bad_header : Answer → Row
bad_header (accepted header message) = row false (says 13 [])
bad_header (refused line) = row true (says 13 (line ∷ []))

-- "The header is judged whole before any line is answered."; 13 is tested "after 1"
abbrev pub behind_header : List ℕ → Said → Said
behind_header content answer = judged (too_long (content ∷ []) ∷ bad_header (commit content) ∷ []) answer

-- ---- `header_line`

-- a line that begins at a place: "the name and content as parts, continued content as it stands"
abbrev pub placed : ℕ → HeaderLine → List ℕ
placed at (named name content) =
    at ∷ (at + length name) ∷ suc (at + length name) ∷ (suc (at + length name) + length content) ∷ []

-- "for a line asked by its number from 0 on, [..] or the end past the last": of the header lines from a place on
abbrev pub line_of : List HeaderLine → ℕ → ℕ → List ℕ
line_of [] at k = []
line_of (h ∷ hs) at zero = placed at h
line_of (h ∷ hs) at (suc k) = line_of hs (at + length (written h)) k

abbrev pub line_in : ℕ → Answer → List ℕ
line_in k (accepted header message) = line_of header 0 k
line_in k (refused line) = []

abbrev pub line_answer : List ℕ → ℕ → Said
line_answer content k = behind_header content (says 0 (line_in k (commit content)))

-- ---- `commit_message`

-- behind the header and its empty line
abbrev pub message_start : List HeaderLine → ℕ
message_start header = suc (length (written_all header))

abbrev pub message_in : Answer → List ℕ
message_in (accepted header message) = message_start header ∷ (message_start header + length message) ∷ []
message_in (refused line) = []

abbrev pub message_answer : List ℕ → Said
message_answer content = behind_header content (says 0 (message_in (commit content)))

-- ---- what the values show

-- a line's values are where its name and its content stand
pub record ShowsLine (content name text values : List ℕ) : Type 0 where
  pub name_start : ℕ
  pub name_end : ℕ
  pub text_start : ℕ
  pub text_end : ℕ
  pub places : values ≡ name_start ∷ name_end ∷ text_start ∷ text_end ∷ []
  pub name_is : part_of content name_start name_end ≡ name
  pub text_is : part_of content text_start text_end ≡ text

-- and the message's
pub record ShowsMessage (content message values : List ℕ) : Type 0 where
  pub start : ℕ
  pub end : ℕ
  pub places : values ≡ start ∷ end ∷ []
  pub message_is : part_of content start end ≡ message
