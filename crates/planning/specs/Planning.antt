-- What the parts of a listing answer.
use Rattle.std.specs.Prelude.{Bool, true, List, ◌≡◌, ℕ, ◌+◌, ◌≤◌, length, Option}
use Rattle.rules.specs.Answers.{Said, judged}
use Rattle.rules.specs.Trailer.{walk_from}
use Rattle.rules.specs.declared.Cursor.{Cursor}
use Rattle.rules.specs.declared.TrailerRef.{TrailerRef}
use Rattle.rules.specs.declared.Value.{Value}
use Rattle.listing.specs.Answers.{listing_says, room_rows}
use Rattle.listing.specs.Listing.{records_from, shifted_record, taken, tell, values_from, values_of}
use Rattle.listing.specs.Turns.{counts, listed, standing}
use Rattle.listing.specs.declared.Beginning.{Beginning}
use Rattle.listing.specs.declared.Counts.{Counts}
use Rattle.listing.specs.declared.FromEnd.{FromEnd}
use Rattle.listing.specs.declared.Step.{Step}
use Rattle.planning.specs.declared.Opening.{Opening}

-- the trailers of the walk from a place on, and the bytes of their written values
abbrev pub counts_at : List ℕ → ℕ → Counts
counts_at input at = record { records = length (walk_from input at); bytes = length (values_of (walk_from input at)) }

-- where a value begins in the buffer, 0 where it does not stand there
abbrev pub from : Value → ℕ
from (Value.InInput p) = 0
from (Value.InBuffer p) = p.start

-- the turn of a record that was read, where so much was written before, the walk at `next`
abbrev pub found : Counts → Option FromEnd → List ℕ → TrailerRef → Cursor → Step
found done told text r next = record {
  found = tell told (shifted_record done.bytes r);
  next = standing next (counts (done.records + 1) (done.bytes + taken r.value)) (walk_from text next.at);
}

-- where it is so, there is room for all of the walk
abbrev pub Ample : List ℕ → ℕ → ℕ → ℕ → Bool → Type 0
Ample text at rooms room ample = ample ≡ true → (length (walk_from text at) ≤ rooms) × (length (values_of (walk_from text at)) ≤ room)

-- where the listing of a text begins that is not refused
abbrev pub beginning : List ℕ → Opening → Beginning
beginning text o = record { end = o.end; spot = standing o.cursor (counts 0 0) (walk_from text o.cursor.at); looked = o.looked; told = o.told }

-- what is said of a text from a cursor that fits
abbrev pub settled_says : List ℕ → Opening → ℕ → ℕ → Said
settled_says text o rooms room =
    judged (room_rows (length (records_from text o.cursor)) (length (values_from text o.cursor)) rooms room)
    (listing_says (listed (counts (length (records_from text o.cursor)) (length (values_from text o.cursor))) o.looked))
