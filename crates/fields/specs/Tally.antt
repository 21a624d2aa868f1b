-- What is found of a field among trailers: none with its name; one, and where its raw value stands; or more, how many, and where that of
-- the last stands.
use Rattle.std.specs.Prelude.{Bool, true, false, List, [], ◌∷◌, ◌≡◌, ℕ, ◌+◌, length, Option, Some, None}
use Rattle.rules.specs.Trailer.{Trailer, raw_value_at, end_of, those}
use Rattle.rules.specs.declared.Part.{Part}
use Rattle.closing.specs.Closing.{has}
use Rattle.closing.specs.declared.Field.{Field}
use Rattle.fields.specs.declared.tally.Found.{Found}
use Rattle.fields.specs.declared.tally.Tallies.{Tallies}

abbrev pub raw_part : Trailer → Part
raw_part t = record { start = raw_value_at t; end = end_of t }

-- that of the last of some trailers, or `raw` where there are none
abbrev pub last_part : Part → List Trailer → Part
last_part raw [] = raw
last_part raw (t ∷ ts) = last_part (raw_part t) ts

-- of all of some trailers
abbrev pub found_of : List Trailer → Option Found
found_of [] = None
found_of (t ∷ []) = Some (Found.Once (raw_part t))
found_of (t ∷ u ∷ ts) = Some (Found.Repeated (length (t ∷ u ∷ ts)) (last_part (raw_part u) ts))

-- of those that have the field's name
abbrev pub tally_of : Field → List Trailer → Option Found
tally_of f ts = found_of (those (has f) ts)

pub record TalliesOf (ts : List Trailer) (r : Tallies) : Type 0 where
  pub vehicle_is : r.vehicle ≡ tally_of Field.Vehicle ts
  pub records_is : r.records ≡ tally_of Field.Records ts
  pub state_is : r.state ≡ tally_of Field.OffloadState ts

-- one trailer more, if it has the name
abbrev pub more : Option Found → Part → Option Found
more None raw = Some (Found.Once raw)
more (Some (Found.Once first)) raw = Some (Found.Repeated 2 raw)
more (Some (Found.Repeated count last)) raw = Some (Found.Repeated (count + 1) raw)

abbrev pub counted : Option Found → Bool → Part → Option Found
counted found true raw = more found raw
counted found false raw = found

-- how many trailers were found
abbrev pub how_many : Option Found → ℕ
how_many None = 0
how_many (Some (Found.Once raw)) = 1
how_many (Some (Found.Repeated count last)) = count
