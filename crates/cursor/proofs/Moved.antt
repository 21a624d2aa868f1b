-- The next cursor that an answer of the trailer step holds is where the cursor then stands; a refusal leaves it where it was.
-- Assumes nothing.
use Rattle.std.specs.Prelude.{Result, Ok, Err}
use mathlib.Core.List.{List, [], ◌∷◌}
use mathlib.Core.Path.{◌≡◌, refl, ap, ◌∙◌}
use Prim.Native.Nat.{ℕ}
use Rattle.body.proofs.Calls.{step_is}
use Rattle.body.specs.Body.{first_step, step_answer}
use Rattle.rules.specs.Answers.{Said, trailer_step_says}
use Rattle.rules.specs.Number.{moved_on}
use Rattle.rules.specs.Trailer.{Trailer, only, walk_from}
use Rattle.rules.specs.declared.Cursor.{Cursor}
use Rattle.rules.specs.declared.Kind.{Kind}
use Rattle.rules.specs.declared.Refusal.{Refusal}
use Rattle.rules.specs.declared.TrailerStep.{TrailerStep}
use Rattle.cursor.specs.InPlace.{cursor_left, moved_by, place_after}

-- the next cursor of an answer; the same one of a refusal
abbrev pub next_of : Cursor → Result TrailerStep Refusal → Cursor
next_of c (Ok step) = step.next
next_of c (Err r) = c

module _ (body : List ℕ) (c : Cursor) (room : ℕ) where
  abbrev ts : List Trailer
  ts = only Kind.All (walk_from body c.at)

  first_next : (us : List Trailer) → (first_step body c us).next ≡ moved_on body c (place_after body us)
  first_next [] = refl
  first_next (t ∷ us) = refl

  by_answer : {said : Said} → said ≡ step_answer Kind.All body c room → moved_by said c (moved_on body c (place_after body ts)) ≡ cursor_left body c room
  by_answer e = ap (λ (s : Said). moved_by s c (moved_on body c (place_after body ts))) e

  pub moved : (r : Result TrailerStep Refusal) → trailer_step_says r ≡ step_answer Kind.All body c room → next_of c r ≡ cursor_left body c room
  moved (Ok step) e = ap (λ (s : TrailerStep). s.next) (step_is Kind.All body c room step e) ∙ first_next ts ∙ by_answer e
  moved (Err Refusal.TooLong) e = by_answer e
  moved (Err Refusal.BadPlace) e = by_answer e
  moved (Err (Refusal.NoRoom n)) e = by_answer e
