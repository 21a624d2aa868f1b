-- The calls that take a kind by its number.
use Rattle.std.specs.Prelude.{List, [], ℕ, Result, Ok, Err}
use Rattle.rules.specs.Answers.{Said, says}
use Rattle.body.specs.Body.{question_answer, step_answer, step_buffer}
use Rattle.rules.specs.declared.Cursor.{Cursor}
use Rattle.rules.specs.declared.Kind.{Kind}
use Rattle.rules.specs.declared.NoKind.{NoKind}

-- 254 where the number is no kind's, with no values, and the buffer is as it was
abbrev pub step_of : Result Kind NoKind → List ℕ → Cursor → ℕ → Said
step_of (Ok kind) body c room = step_answer kind body c room
step_of (Err e) body c room = says 254 []

abbrev pub step_leaves : Result Kind NoKind → List ℕ → Cursor → List ℕ → List ℕ
step_leaves (Ok kind) body c out = step_buffer kind body c out
step_leaves (Err e) body c out = out

-- a cursor by its two numbers
abbrev pub cursor : ℕ → ℕ → Cursor
cursor at line = record { at = at; line = line }

abbrev pub question_of : Result Kind NoKind → List ℕ → ℕ → ℕ → Said
question_of (Ok kind) input start end = question_answer kind input start end
question_of (Err e) input start end = says 254 []
