-- What there is to list of an input, before the rooms are asked.
use Rattle.std.specs.Prelude.{true, List, map, ◌≡◌, ℕ, ◌≤◌, length, take, Result, Ok, Err}
use Rattle.rules.specs.Number.{cursor_fits}
use Rattle.listing.specs.Answers.{listing_refused}
use Rattle.listing.specs.Listing.{records_from, tell, values_from}
use Rattle.listing.specs.declared.ListingError.{ListingError}
use Rattle.planning.specs.declared.Opening.{Opening}
use Rattle.planning.specs.declared.Scope.{Scope}
use Rattle.planning.specs.Planning.{settled_says}
use Rattle.planning.specs.Scopes.{scope_answer, scope_records, scope_values}

-- the walk of the first `end` bytes from a cursor on that fits, its records told in one way: however much room there is, it is answered as that walk is
pub record Opens (input : List ℕ) (w : Scope) (o : Opening) : Type 0 where
  pub within : o.end ≤ length input
  pub fits : cursor_fits o.cursor (take o.end input) ≡ true
  pub answers : (rooms room : ℕ) → scope_answer input w rooms room ≡ settled_says (take o.end input) o rooms room
  pub records_are : scope_records input w ≡ map (tell o.told) (records_from (take o.end input) o.cursor)
  pub values_are : scope_values input w ≡ values_from (take o.end input) o.cursor

-- or a refusal, however much room there is
abbrev pub Opened : List ℕ → Scope → Result Opening ListingError → Type 0
Opened input w (Ok o) = Opens input w o
Opened input w (Err e) = (rooms room : ℕ) → listing_refused e ≡ scope_answer input w rooms room
