-- The record of a trailer, and where its value stands: document 01, "Trailer lines and values". Every call that answers a trailer
-- answers this record.
use Rattle.std.specs.Prelude.{List, [], ◌++◌, ℕ, ◌+◌, ltb, length, drop, Option, Result, Ok, Err, if◌then◌else◌}
use Rattle.rules.specs.Trailer.{Trailer, place_of, end_of, first_end_of, ending_of, token_of, raw_value, raw_value_at, unfolded, value_is_written}
use Rattle.rules.specs.White.{trim, trim_at}
use Rattle.rules.specs.declared.BlockCursor.{BlockCursor}
use Rattle.rules.specs.declared.BlockPlaces.{BlockPlaces}
use Rattle.rules.specs.declared.BlockStep.{BlockStep}
use Rattle.rules.specs.declared.Cursor.{Cursor}
use Rattle.rules.specs.declared.Ending.{Ending}
use Rattle.rules.specs.declared.Part.{Part}
use Rattle.rules.specs.declared.Places.{Places}
use Rattle.rules.specs.declared.Refusal.{Refusal}
use Rattle.rules.specs.declared.TrailerRef.{TrailerRef}
use Rattle.rules.specs.declared.TrailerStep.{TrailerStep}
use Rattle.rules.specs.declared.Value.{Value}

abbrev pub part : ℕ → ℕ → Part
part start end = record { start = start; end = end }

-- a step of the trailer walk, and of the block walk
abbrev pub step_with : Option TrailerRef → Cursor → TrailerStep
step_with found next = record { found = found; next = next }

abbrev pub block_step_with : Option BlockPlaces → BlockCursor → BlockStep
block_step_with found next = record { found = found; next = next }

abbrev pub block_places : ℕ → ℕ → BlockPlaces
block_places message_end end = record { message_end = message_end; end = end }

-- ---- a text that is written

-- "the output buffer is shorter than the answer to be written"; otherwise it stands at the buffer's front
abbrev pub written_found : List ℕ → ℕ → Result Value Refusal
written_found text room =
    if ltb room (length text) then Err (Refusal.NoRoom (length text))
    else Ok (Value.InBuffer (part 0 (length text)))

-- "A refusal writes nothing [..]. A success writes the answer at the buffer's front and keeps every byte behind it."
abbrev pub fitted : List ℕ → List ℕ → List ℕ
fitted text buffer = if ltb (length buffer) (length text) then buffer else text ++ drop (length text) buffer

-- ---- a value

-- "A raw value of at most one line is answered as a part of the input, with nothing written": what is written of any
abbrev pub written_of : List ℕ → List ℕ
written_of raw = if value_is_written raw then unfolded raw else []

-- where the value of a raw value stands that begins at `at`
abbrev pub value_of : ℕ → List ℕ → Value
value_of at raw =
    if value_is_written raw then Value.InBuffer (part 0 (length (unfolded raw)))
    else Value.InInput (part (at + trim_at raw) (at + trim_at raw + length (trim raw)))

-- ---- a trailer

abbrev pub places_of : Trailer → Places
places_of t = record {
  start = place_of t;
  token_end = place_of t + length (token_of t);
  value_start = raw_value_at t;
  first_end = first_end_of t;
  end = end_of t;
}

-- its token, where its value stands, how its last line ended, and the number of the line where it starts
abbrev pub record_at : ℕ → Places → List ℕ → Ending → TrailerRef
record_at line p raw ending = record {
  token = part p.start p.token_end;
  value = value_of p.value_start raw;
  ending = ending;
  line = line;
}

abbrev pub record_of : ℕ → Trailer → TrailerRef
record_of line t = record_at line (places_of t) (raw_value t) (ending_of t)
