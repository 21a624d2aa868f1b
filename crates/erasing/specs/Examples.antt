-- The worked examples of K10, and further ones, as rows of a single table. One theorem holds of all of them (proofs/Examples, cases).
use Rattle.std.specs.Prelude.{Bool, true, false, List, [], ◌∷◌, ℕ}
use Prim.Native.String.{String}
use Rattle.rules.specs.Answers.{Said, says, flag}
use Rattle.rules.specs.Bytes.{bytes}
use Rattle.closing.specs.Answers.{erase_answer, note_answer, refusal_says}
use Rattle.closing.specs.declared.Fault.{Fault}
use Rattle.closing.specs.declared.Field.{Field}
use Rattle.divider.specs.Readings.{in_reading}
use Rattle.divider.specs.declared.Reading.{Reading}

pub data Row : Type 0 where
  -- a message, a reading, the count received; the vehicle's start and end, the count, whether it is complete; whether it may be erased
  closes : String → Reading → ℕ → List ℕ → Bool → Row
  -- a message, a reading; the refusal of both calls, whatever the count received
  refuses : String → Reading → Fault → Field → Row

-- what both calls say
abbrev pub wanted : Row → List Said
wanted (closes message reading received values erase) = says 0 values ∷ says 0 (flag erase ∷ []) ∷ []
wanted (refuses message reading k f) = refusal_says k f ∷ refusal_says k f ∷ []

abbrev answers : String → Reading → ℕ → List Said
answers message reading received = in_reading reading note_answer (bytes message) ∷ in_reading reading (erase_answer received) (bytes message) ∷ []

abbrev pub stated : Row → List Said
stated (closes message reading received values erase) = answers message reading received
stated (refuses message reading k f) = answers message reading 5

abbrev whole : Reading
whole = Reading.Whole

unfoldable pub table : List Row
table =
    -- K10.1 to K10.6
    closes "t\n\nVehicle: 7\nRecords: 5\nOffload-state: complete\n" whole 5 (12 ∷ 13 ∷ 5 ∷ 1 ∷ []) true
    ∷ closes "t\n\nVehicle: 7\nRecords: 5\nOffload-state: complete\n" whole 4 (12 ∷ 13 ∷ 5 ∷ 1 ∷ []) false
    ∷ refuses "t\n\nVehicle: 7\nVehicle: 7\nOffload-state: x" whole Fault.Missing Field.Records
    ∷ refuses "t\n\nVehicle: x\nRecords: 1\nRecords: 2\nOffload-state: complete" whole Fault.Repeated Field.Records
    ∷ refuses "t\n\nVehicle: 7\nRecords: 5\nOffload-state: complete\n---\ndiff\n" whole Fault.Missing Field.Vehicle
    ∷ closes "t\n\nVehicle: 7\nRecords: 5\nOffload-state: complete\n---\ndiff\n" Reading.AboveDivider 5 (12 ∷ 13 ∷ 5 ∷ 1 ∷ []) true
    -- any order, any case of a name, among others; a folded value of one line; the most records; six digits with zeros; partial
    ∷ closes "t\n\nOFFLOAD-STATE:\n partial\nFixes: 1\nrecords:\n 1000000\nvehicle : 000042" whole 1_000_000 (64 ∷ 70 ∷ 1_000_000 ∷ 0 ∷ []) false
    ∷ closes "t\n\nVehicle:\n 7\nRecords: 0\nOffload-state: complete" whole 0 (13 ∷ 14 ∷ 0 ∷ 1 ∷ []) true
    -- no vehicle: seven digits, none, a letter, two lines
    ∷ refuses "t\n\nVehicle: 1234567\nRecords: 5\nOffload-state: complete" whole Fault.BadContent Field.Vehicle
    ∷ refuses "t\n\nVehicle:\nRecords: 5\nOffload-state: complete" whole Fault.BadContent Field.Vehicle
    ∷ refuses "t\n\nVehicle: 7\n 8\nRecords: 5\nOffload-state: complete" whole Fault.BadContent Field.Vehicle
    -- no count: a needless zero, one too many, more digits than any number has, two lines
    ∷ refuses "t\n\nVehicle: 7\nRecords: 05\nOffload-state: complete" whole Fault.BadContent Field.Records
    ∷ refuses "t\n\nVehicle: 7\nRecords: 1000001\nOffload-state: complete" whole Fault.BadContent Field.Records
    ∷ refuses "t\n\nVehicle: 7\nRecords: 18446744073709551621\nOffload-state: complete" whole Fault.BadContent Field.Records
    ∷ refuses "t\n\nVehicle: 7\nRecords: 31,\n 8\nOffload-state: complete" whole Fault.BadContent Field.Records
    -- no state: another case; and the last one does not speak for two
    ∷ refuses "t\n\nVehicle: 7\nRecords: 5\nOffload-state: Complete" whole Fault.BadContent Field.OffloadState
    ∷ refuses "t\n\nVehicle: 7\nOffload-state: partial\nRecords: 5\nOffload-state: complete" whole Fault.Repeated Field.OffloadState
    -- trailers that are no block hold nothing
    ∷ refuses "t\n\nVehicle: 7\nRecords: 5\nOffload-state: complete\n\nDone." whole Fault.Missing Field.Vehicle
    ∷ refuses "" whole Fault.Missing Field.Vehicle
    ∷ []
