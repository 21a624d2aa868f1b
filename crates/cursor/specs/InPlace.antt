-- Where a cursor stands that was lent to the trailer step: document 01, "The limit and the refusals".
use Rattle.std.specs.Prelude.{List, [], ◌∷◌, ℕ, zero, suc, length}
use Rattle.body.specs.Body.{step_answer}
use Rattle.rules.specs.Answers.{Said, says}
use Rattle.rules.specs.Number.{moved_on}
use Rattle.rules.specs.Trailer.{Trailer, end_of, only, walk_from}
use Rattle.rules.specs.declared.Cursor.{Cursor}
use Rattle.rules.specs.declared.Kind.{Kind}

-- behind the first of the trailers from the cursor on; "at the end, the cursor is the input's length"
abbrev pub place_after : List ℕ → List Trailer → ℕ
place_after body [] = length body
place_after body (t ∷ ts) = end_of t

-- "A refusal [..] moves no cursor": from `c` to `next` by an answer of number 0, and by no other. Place and number move together
abbrev pub moved_by : Said → Cursor → Cursor → Cursor
moved_by (says zero vs) c next = next
moved_by (says (suc n) vs) c next = c

abbrev pub cursor_left : List ℕ → Cursor → ℕ → Cursor
cursor_left body c room =
    moved_by (step_answer Kind.All body c room) c (moved_on body c (place_after body (only Kind.All (walk_from body c.at))))
