-- The answers of the calls that read a bundle: document 02, K11. "Refusals: 12, not a bundle, [..] after 1 for an input".
use Rattle.std.specs.Prelude.{Bool, not, List, [], ◌∷◌, ℕ, suc, ltb, length, Option, None, Some, Result, if◌then◌else◌}
use Rattle.rules.specs.Answers.{Said, says, Row, row, judged, said_by, too_long}
use Rattle.rules.specs.declared.Part.{Part}
use Rattle.bundle.specs.Bundle.{is_bundle, messages_in, offset}
use Rattle.bundle.specs.declared.BundleError.{BundleError}

-- 12, "not a bundle"
abbrev pub not_a_bundle : Bool → Row
not_a_bundle good = row (not good) (says 12 [])

-- what every call that reads a bundle answers, where nothing is refused
abbrev pub of_bundle : List ℕ → Said → Said
of_bundle bundle answer = judged (too_long (bundle ∷ []) ∷ not_a_bundle (is_bundle bundle) ∷ []) answer

-- of a call that reads a bundle and refuses
abbrev pub bundle_refused : BundleError → Said
bundle_refused BundleError.TooLong = says 1 []
bundle_refused BundleError.NotABundle = says 12 []

-- ---- `bundle_count`: the number of messages

abbrev pub count_values : ℕ → List ℕ
count_values n = n ∷ []

abbrev pub counted_says : Result ℕ BundleError → Said
counted_says = said_by count_values bundle_refused

abbrev pub count_answer : List ℕ → Said
count_answer bundle = of_bundle bundle (says 0 (length (messages_in bundle) ∷ []))

-- ---- `bundle_message`: where message k starts and ends in the bundle; no values past the last

abbrev pub message_values : Option Part → List ℕ
message_values (Some p) = p.start ∷ p.end ∷ []
message_values None = []

abbrev pub message_says : Result (Option Part) BundleError → Said
message_says = said_by message_values bundle_refused

abbrev pub message_answer : List ℕ → ℕ → Said
message_answer bundle k =
    of_bundle bundle (says 0 (if ltb k (length (messages_in bundle)) then offset bundle k ∷ offset bundle (suc k) ∷ [] else []))
