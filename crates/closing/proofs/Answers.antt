-- The answers of the calls are known by their numbers and values, so a statement `says r ≡ ..` decides them. Assumes nothing.
use Rattle.std.specs.Prelude.{Err, if◌then◌else◌}
use mathlib.Core.Bool.{Bool, true, false}
use mathlib.Core.List.{List}
use mathlib.Core.Path.{◌≡◌, refl}
use Prim.Native.Nat.{ℕ, zero, suc}
use lib.Dec.{eqb}
use lib.ListN.{get_or}
use Rattle.rules.specs.Answers.{flag, flag_values}
use Rattle.rules.specs.Record.{part}
use Rattle.rules.proofs.Answers.{Decides, reread, said_decides}
use Rattle.closing.specs.Answers.{field_number, error_says, note_shows, note_found_says, erase_found_says}
use Rattle.closing.specs.declared.Fault.{Fault}
use Rattle.closing.specs.declared.Field.{Field}
use Rattle.closing.specs.declared.Note.{Note}
use Rattle.closing.specs.declared.NoteError.{NoteError}

-- ---- read back from the numbers

abbrev flagged : ℕ → Bool
flagged zero = false
flagged (suc n) = true

-- 9, 10, and all others
abbrev faulted : ℕ → Fault
faulted n = if eqb n 9 then Fault.Missing else if eqb n 10 then Fault.Repeated else Fault.BadContent

abbrev fielded : ℕ → Field
fielded zero = Field.Vehicle
fielded (suc zero) = Field.Records
fielded (suc (suc n)) = Field.OffloadState

field_back : (f : Field) → fielded (field_number f) ≡ f
field_back Field.Vehicle = refl
field_back Field.Records = refl
field_back Field.OffloadState = refl

-- an error, from the number under its own
abbrev error : ℕ → List ℕ → NoteError
error zero v = NoteError.TooLong
error (suc n) v = NoteError.Refused (faulted (suc (suc n))) (fielded (get_or v 0 0))

error_back : {A : Type 0} (read : List ℕ → A) (e : NoteError) → reread read error (error_says e) ≡ Err e
error_back read NoteError.TooLong = refl
error_back read (NoteError.Refused Fault.Missing f) = rw (field_back f)
error_back read (NoteError.Refused Fault.Repeated f) = rw (field_back f)
error_back read (NoteError.Refused Fault.BadContent f) = rw (field_back f)

flag_back : (b : Bool) → flagged (flag b) ≡ b
flag_back true = refl
flag_back false = refl

abbrev noting : List ℕ → Note
noting v = record { vehicle = part (get_or v 0 0) (get_or v 1 0); records = get_or v 2 0; complete = flagged (get_or v 3 0) }

pub note_decides : Decides note_found_says
note_decides = said_decides note_shows error_says noting error (λ n. rw (flag_back n.complete)) (error_back noting)

abbrev erasing : List ℕ → Bool
erasing v = flagged (get_or v 0 0)

pub erase_decides : Decides erase_found_says
erase_decides = said_decides flag_values error_says erasing error flag_back (error_back erasing)
