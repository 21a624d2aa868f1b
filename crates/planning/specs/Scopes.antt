-- What is listed of an input: the answer, and what the table and the buffer hold afterwards.
use Rattle.std.specs.Prelude.{List, ◌≡◌, ℕ, length, Result}
use Rattle.rules.specs.Answers.{Said, afterwards}
use Rattle.rules.specs.declared.TrailerRef.{TrailerRef}
use Rattle.divider.specs.Readings.{in_reading, read}
use Rattle.foot.specs.Foot.{foot_answer, foot_records, foot_values}
use Rattle.message.specs.Message.{walk_start}
use Rattle.listing.specs.Answers.{list_answer, listing_says}
use Rattle.listing.specs.Listing.{records_from, values_from}
use Rattle.listing.specs.declared.Listed.{Listed}
use Rattle.listing.specs.declared.ListingError.{ListingError}
use Rattle.planning.specs.declared.Scope.{Scope}

-- of a whole message: from where the walk of its trailers begins
abbrev pub message_listing : ℕ → ℕ → List ℕ → Said
message_listing rooms room message = list_answer message (walk_start message) rooms room

abbrev pub message_buffer : ℕ → List ℕ → List ℕ → List ℕ
message_buffer rooms message out = afterwards (message_listing rooms (length out) message) (values_from message (walk_start message)) out

abbrev pub scope_answer : List ℕ → Scope → ℕ → ℕ → Said
scope_answer input (Scope.From c) rooms room = list_answer input c rooms room
scope_answer input (Scope.Message reading) rooms room = in_reading reading (message_listing rooms room) input
scope_answer input (Scope.Foot whole) rooms room = foot_answer input whole rooms room

abbrev pub scope_records : List ℕ → Scope → List TrailerRef
scope_records input (Scope.From c) = records_from input c
scope_records input (Scope.Message reading) = records_from (read reading input) (walk_start (read reading input))
scope_records input (Scope.Foot whole) = foot_records input whole

abbrev pub scope_values : List ℕ → Scope → List ℕ
scope_values input (Scope.From c) = values_from input c
scope_values input (Scope.Message reading) = values_from (read reading input) (walk_start (read reading input))
scope_values input (Scope.Foot whole) = foot_values input whole

-- "entries and bytes behind them stay"
abbrev pub scope_table : List ℕ → Scope → ℕ → List TrailerRef → List TrailerRef
scope_table input w room table = afterwards (scope_answer input w (length table) room) (scope_records input w) table

abbrev pub scope_buffer : List ℕ → Scope → ℕ → List ℕ → List ℕ
scope_buffer input w rooms out = afterwards (scope_answer input w rooms (length out)) (scope_values input w) out

-- all of it
pub record Lists (input : List ℕ) (w : Scope) (table : List TrailerRef) (out : List ℕ) (r : Result Listed ListingError) (table-left : List TrailerRef) (out-left : List ℕ) : Type 0 where
  pub answers : listing_says r ≡ scope_answer input w (length table) (length out)
  pub table_holds : table-left ≡ scope_table input w (length out) table
  pub buffer_holds : out-left ≡ scope_buffer input w (length table) out
