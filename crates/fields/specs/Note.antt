-- What each step towards the note answers of a field: a refusal, or what the next step takes.
use Rattle.std.specs.Prelude.{Bool, true, false, List, ◌≡◌, ℕ, ◌+◌, ◌≤◌, length, Option, Some, None, Result, Ok, Err}
use Rattle.rules.specs.Lines.{lines}
use Rattle.rules.specs.Trailer.{unfolded}
use Rattle.rules.specs.declared.Part.{Part}
use Rattle.closing.specs.Contents.{good}
use Rattle.closing.specs.Judged.{kept_at}
use Rattle.closing.specs.declared.Fault.{Fault}
use Rattle.closing.specs.declared.Field.{Field}
use Rattle.closing.specs.declared.NoteError.{NoteError}
use Rattle.fields.specs.Sole.{part_in}
use Rattle.fields.specs.declared.tally.Found.{Found}

-- missing, or not
abbrev pub PresentOf : Option Found → Field → Result Found NoteError → Type 0
PresentOf found f (Ok some) = found ≡ Some some
PresentOf found f (Err e) = (found ≡ None) × (e ≡ NoteError.Refused Fault.Missing f)

abbrev pub repeats : Found → Bool
repeats (Found.Once raw) = false
repeats (Found.Repeated count last) = true

-- repeated, or not
abbrev pub AloneOf : Found → Field → Result Part NoteError → Type 0
AloneOf found f (Ok raw) = found ≡ Found.Once raw
AloneOf found f (Err e) = (repeats found ≡ true) × (e ≡ NoteError.Refused Fault.Repeated f)

abbrev pub Inside : List ℕ → Part → Type 0
Inside message p = (p.start ≤ p.end) × (p.end ≤ length message)

-- `p` is the content of the raw value, and good
pub record IsContent (f : Field) (message : List ℕ) (raw p : Part) : Type 0 where
  pub inside : Inside message p
  pub is_good : good f (unfolded (part_in message raw)) ≡ true
  pub place : p.start ≡ raw.start + kept_at (lines (part_in message raw))
  pub shown : part_in message p ≡ unfolded (part_in message raw)

abbrev pub ContentOf : Field → List ℕ → Part → Result Part NoteError → Type 0
ContentOf f message raw (Ok p) = IsContent f message raw p
ContentOf f message raw (Err e) = (good f (unfolded (part_in message raw)) ≡ false) × (e ≡ NoteError.Refused Fault.BadContent f)
