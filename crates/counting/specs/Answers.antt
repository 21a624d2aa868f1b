-- The answer of `bundle_report`: the eight numbers, or 1, or 12.
use Rattle.std.specs.Prelude.{List, [], ◌∷◌, ◌++◌, ℕ, Result}
use Rattle.rules.specs.Answers.{Said, said_by, says}
use Rattle.bundle.specs.Answers.{bundle_refused, of_bundle}
use Rattle.bundle.specs.Bundle.{messages_in}
use Rattle.bundle.specs.declared.BundleError.{BundleError}
use Rattle.counting.specs.Report.{report_of}
use Rattle.counting.specs.declared.Report.{Report}

-- the seven counts, and then the number of messages without trailers
abbrev pub seven : Report → List ℕ
seven r =
    r.signed_off_by ∷ r.co_authored_by ∷ r.assisted_by ∷ r.acked_by ∷ r.reviewed_by ∷ r.tested_by ∷ r.rest ∷ []

abbrev pub report_values : Report → List ℕ
report_values r = seven r ++ (r.without ∷ [])

abbrev pub report_says : Result Report BundleError → Said
report_says = said_by report_values bundle_refused

abbrev pub report_answer : List ℕ → Said
report_answer bundle = of_bundle bundle (says 0 (report_of (messages_in bundle)))
