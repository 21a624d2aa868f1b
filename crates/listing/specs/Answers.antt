-- The answer of a listing: document 02, K1. "On 3 or 4 the answer gives both needed
-- counts and nothing is written. Refusals: 4, table too short, after 1 and 2 and before 3."
use Rattle.std.specs.Prelude.{List, [], ◌∷◌, ℕ, ltb, length, Option, Some, None, Result}
use Rattle.rules.specs.Answers.{Said, says, Row, row, judged, misplaced, said_by, too_long}
use Rattle.rules.specs.Number.{cursor_fits}
use Rattle.rules.specs.declared.Cursor.{Cursor}
use Rattle.listing.specs.Listing.{records_from, values_from}
use Rattle.listing.specs.declared.Counts.{Counts}
use Rattle.listing.specs.declared.Listed.{Listed}
use Rattle.listing.specs.declared.ListingError.{ListingError}

-- records, then bytes
abbrev pub counts_say : Counts → List ℕ
counts_say c = c.records ∷ c.bytes ∷ []

-- the lines looked at, of a foot
abbrev pub looked_says : Option ℕ → List ℕ
looked_says (Some looked) = looked ∷ []
looked_says None = []

abbrev pub listed_values : Listed → List ℕ
listed_values l = l.counts.records ∷ l.counts.bytes ∷ looked_says l.looked

abbrev pub listing_refused : ListingError → Said
listing_refused ListingError.TooLong = says 1 []
listing_refused ListingError.BadPlace = says 2 []
listing_refused ListingError.MoreBytes = says 8 []
listing_refused (ListingError.ShortTable c) = says 4 (counts_say c)
listing_refused (ListingError.NoRoom c) = says 3 (counts_say c)

abbrev pub listing_says : Result Listed ListingError → Said
listing_says = said_by listed_values listing_refused

-- the rows behind 1 and 2: so many records and bytes are needed
abbrev pub room_rows : ℕ → ℕ → ℕ → ℕ → List Row
room_rows records bytes rooms room =
    row (ltb rooms records) (says 4 (records ∷ bytes ∷ [])) ∷ row (ltb room bytes) (says 3 (records ∷ bytes ∷ [])) ∷ []

-- from a cursor on, into a table with so many rooms and a buffer with so much room
abbrev pub list_answer : List ℕ → Cursor → ℕ → ℕ → Said
list_answer input c rooms room =
    judged
    (too_long (input ∷ []) ∷ misplaced (cursor_fits c input) ∷ room_rows (length (records_from input c)) (length (values_from input c)) rooms room)
    (says 0 (length (records_from input c) ∷ length (values_from input c) ∷ []))
