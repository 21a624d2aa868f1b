-- A record as seven numbers, and a table of them.
use Rattle.std.specs.Prelude.{List, [], ◌∷◌, ◌++◌, ℕ, ◌/◌, length}
use Rattle.rules.specs.Answers.{afterwards, ending_says, trailer_says}
use Rattle.rules.specs.declared.TrailerRef.{TrailerRef}
use Rattle.message.specs.Message.{walk_start}
use Rattle.planning.specs.Scopes.{message_listing, scope_answer, scope_records}
use Rattle.listing.specs.Listing.{records_from}
use Rattle.listing.specs.Turns.{laid}
use Rattle.planning.specs.declared.Scope.{Scope}

abbrev pub width : ℕ
width = 7

-- the values that `find_trailer` says of a record: its token's range, its value's place, its ending, its line
abbrev pub numbers_of : TrailerRef → List ℕ
numbers_of r = trailer_says r ++ (ending_says r.ending ∷ r.line ∷ [])

-- a table of k numbers has rooms for k / 7 records; numbers behind those of the records stay
abbrev pub flat_table : List ℕ → Scope → ℕ → List ℕ → List ℕ
flat_table input w room table = afterwards (scope_answer input w (length table / width) room) (laid numbers_of (scope_records input w)) table

-- of a whole message, as a rule about it, so that a reading can be put before it (document 02, K7)
abbrev pub message_table : ℕ → List ℕ → List ℕ → List ℕ
message_table room message table =
    afterwards (message_listing (length table / width) room message) (laid numbers_of (records_from message (walk_start message))) table
