-- The answer of `write_bundle`: document 02, K11. "Refusals: 12, not a bundle, or more than 4,096 messages to write, after 1 for an
-- input and 2 for a range, and before 1 for the result and 3."
use Rattle.std.specs.Prelude.{List, [], ◌∷◌, ℕ, leb, length, Result}
use Rattle.rules.specs.Answers.{Said, says, afterwards, judged, misplaced, no_room, said_by, too_long}
use Rattle.bundle.specs.Answers.{not_a_bundle}
use Rattle.bundle.specs.Bundle.{bundle_of, most}
use Rattle.bundling.specs.Writing.{lent, ranges_fit}
use Rattle.bundling.specs.declared.BundlingError.{BundlingError}

-- the length written
abbrev pub length_values : ℕ → List ℕ
length_values n = n ∷ []

abbrev pub bundling_refused : BundlingError → Said
bundling_refused BundlingError.TooLong = says 1 []
bundling_refused BundlingError.BadPlace = says 2 []
bundling_refused BundlingError.NotABundle = says 12 []
bundling_refused (BundlingError.NoRoom needed) = says 3 (needed ∷ [])

abbrev pub written_says : Result ℕ BundlingError → Said
written_says = said_by length_values bundling_refused

-- of the messages and their bundle, behind the input and the ranges
abbrev pub bundle_answer : List (List ℕ) → List ℕ → ℕ → Said
bundle_answer messages bundle room =
    judged (not_a_bundle (leb (length messages) most) ∷ too_long (bundle ∷ []) ∷ no_room (length bundle) room ∷ []) (says 0 (length bundle ∷ []))

abbrev pub write_answer : List ℕ → List ℕ → ℕ → Said
write_answer input ranges room =
    judged (too_long (input ∷ []) ∷ misplaced (ranges_fit input ranges) ∷ []) (bundle_answer (lent input ranges) (bundle_of (lent input ranges)) room)

-- "they too change no lent byte": the bundle at the buffer's front, or the buffer as it was
abbrev pub write_buffer : List ℕ → List ℕ → List ℕ → List ℕ
write_buffer input ranges out = afterwards (write_answer input ranges (length out)) (bundle_of (lent input ranges)) out
