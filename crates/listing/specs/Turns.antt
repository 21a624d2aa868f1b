-- How a listing is made: it begins somewhere, and each turn gives one record and where the listing stands after it.
use Rattle.std.specs.Prelude.{true, List, [], ◌∷◌, ◌++◌, map, ◌≡◌, ℕ, ◌+◌, ◌≤◌, length, take, Option, Some, None, Result, Ok, Err}
use Rattle.rules.specs.Answers.{Said}
use Rattle.rules.specs.Number.{cursor_fits, moved_on}
use Rattle.rules.specs.Record.{record_of, written_of}
use Rattle.rules.specs.Trailer.{Trailer, end_of, place_of, raw_value, walk_from}
use Rattle.rules.specs.declared.Cursor.{Cursor}
use Rattle.rules.specs.declared.Places.{Places}
use Rattle.rules.specs.declared.TrailerRef.{TrailerRef}
use Rattle.trailer.specs.Walk.{next_of}
use Rattle.body.specs.Body.{first_writes}
use Rattle.listing.specs.Answers.{listing_refused, listing_says}
use Rattle.listing.specs.Listing.{records_of, shifted_record, tell, values_of}
use Rattle.listing.specs.declared.Beginning.{Beginning}
use Rattle.listing.specs.declared.Counts.{Counts}
use Rattle.listing.specs.declared.FromEnd.{FromEnd}
use Rattle.listing.specs.declared.Listed.{Listed}
use Rattle.listing.specs.declared.ListingError.{ListingError}
use Rattle.listing.specs.declared.Spot.{Spot}
use Rattle.listing.specs.declared.Step.{Step}

abbrev pub counts : ℕ → ℕ → Counts
counts records bytes = record { records = records; bytes = bytes }

-- the answer of a listing that has written so much; of a foot it has the lines looked at too
abbrev pub listed : Counts → Option ℕ → Result Listed ListingError
listed c looked = Ok (record { counts = c; looked = looked })

-- the trailers that are left of a text
abbrev pub left_at : Spot → List ℕ → List Trailer
left_at p s = walk_from s p.cursor.at

-- where a listing stands that has these trailers ahead
abbrev pub standing : Cursor → Counts → List Trailer → Spot
standing c done ts = record { cursor = c; ahead = next_of ts; done = done }

-- a turn: the record of the first trailer that is left, and where the listing stands after it; none where no trailer is left
abbrev pub turn_of : Spot → Option FromEnd → List ℕ → List Trailer → Option Step
turn_of p told s [] = None
turn_of p told s (t ∷ ts) = Some (record {
  found = tell told (shifted_record p.done.bytes (record_of (moved_on s p.cursor (place_of t)).line t));
  next = standing (moved_on s p.cursor (end_of t)) (counts (p.done.records + 1) (p.done.bytes + length (written_of (raw_value t)))) ts;
})

-- the next trailer that is left stands at these places, and its value has room
pub record Ready (s : List ℕ) (p : Spot) (at : Places) (room : ℕ) : Type 0 where
  pub placed : cursor_fits p.cursor s ≡ true
  pub ahead : next_of (left_at p s) ≡ Some at
  pub few : p.done.records ≤ p.cursor.at
  pub fits : p.done.bytes + length (first_writes (left_at p s)) ≤ room

-- where the listing of a text begins that is not refused: these records and values are to be written, and this is said then
pub record Starts (s : List ℕ) (said : Said) (records : List TrailerRef) (values : List ℕ) (rooms room : ℕ) (b : Beginning) : Type 0 where
  pub placed : cursor_fits b.spot.cursor s ≡ true
  pub stands : b.spot ≡ standing b.spot.cursor (counts 0 0) (walk_from s b.spot.cursor.at)
  pub records_are : map (tell b.told) (records_of s b.spot.cursor 0 (walk_from s b.spot.cursor.at)) ≡ records
  pub values_are : values_of (walk_from s b.spot.cursor.at) ≡ values
  pub records_fit : length records ≤ rooms
  pub bytes_fit : length values ≤ room
  pub at_last : listing_says (listed (counts (length records) (length values)) b.looked) ≡ said

-- where the listing of an input begins, so far as it is read; or it is refused
abbrev pub Begun : List ℕ → Said → List TrailerRef → List ℕ → ℕ → ℕ → Result Beginning ListingError → Type 0
Begun input said records values rooms room (Ok b) = (b.end ≤ length input) × Starts (take b.end input) said records values rooms room b
Begun input said records values rooms room (Err e) = listing_refused e ≡ said

-- records as they are laid into a table of other cells, each as some of them
unfoldable pub laid : {A : Type 0} → (TrailerRef → List A) → List TrailerRef → List A
laid cells [] = []
laid cells (r ∷ rs) = cells r ++ laid cells rs
