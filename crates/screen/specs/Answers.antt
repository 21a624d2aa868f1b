-- The answer of `listing_into`: refusal 1 for a message over the limit, 3 with the listing's length where the buffer is shorter.
use Rattle.std.specs.Prelude.{List, [], ◌∷◌, ℕ, length, Result}
use Rattle.rules.specs.Answers.{Said, says, afterwards, answered, judged, no_room, too_long}
use Rattle.screen.specs.Listing.{listing}
use Rattle.rules.specs.declared.Refusal.{Refusal}

-- the listing's length
abbrev pub length_values : ℕ → List ℕ
length_values n = n ∷ []

abbrev pub written_says : Result ℕ Refusal → Said
written_says = answered length_values

abbrev pub listing_answer : List ℕ → ℕ → Said
listing_answer message room =
    judged (too_long (message ∷ []) ∷ no_room (length (listing message)) room ∷ []) (says 0 (length (listing message) ∷ []))

-- the listing at the buffer's front, or the buffer as it was
abbrev pub listing_buffer : List ℕ → List ℕ → List ℕ
listing_buffer message out = afterwards (listing_answer message (length out)) (listing message) out
