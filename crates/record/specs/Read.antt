-- What is answered of a trailer: its record, or refusal 3.
use Rattle.std.specs.Prelude.{List, ℕ, ltb, length, Result, Ok, Err, if◌then◌else◌}
use Rattle.rules.specs.Lines.{ending}
use Rattle.rules.specs.Record.{record_at, record_of, written_of}
use Rattle.rules.specs.Trailer.{Trailer, raw_value}
use Rattle.rules.specs.declared.Places.{Places}
use Rattle.rules.specs.declared.Refusal.{Refusal}
use Rattle.rules.specs.declared.TrailerRef.{TrailerRef}

-- by its line's number, its places and its raw value, which ends as the trailer's last line does
abbrev pub trailer_read : ℕ → Places → List ℕ → ℕ → Result TrailerRef Refusal
trailer_read line at raw room =
    if ltb room (length (written_of raw)) then Err (Refusal.NoRoom (length (written_of raw)))
    else Ok (record_at line at raw (ending raw))

abbrev pub read_of : ℕ → Trailer → ℕ → Result TrailerRef Refusal
read_of line t room =
    if ltb room (length (written_of (raw_value t))) then Err (Refusal.NoRoom (length (written_of (raw_value t))))
    else Ok (record_of line t)
