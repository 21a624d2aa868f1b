-- The answer of `bundle_report` is known by its number and its values: a statement `says r ≡ ..` decides it. Assumes nothing.
use mathlib.Core.List.{List}
use mathlib.Core.Path.{refl}
use Prim.Native.Nat.{ℕ}
use lib.ListN.{get_or}
use Rattle.rules.proofs.Answers.{Decides, said_decides}
use Rattle.bundle.proofs.Answers.{bundle_error, error_back}
use Rattle.bundle.specs.Answers.{bundle_refused}
use Rattle.counting.specs.Answers.{report_says, report_values}
use Rattle.counting.specs.declared.Report.{Report}

abbrev report : List ℕ → Report
report v = record {
  signed_off_by = get_or v 0 0;
  co_authored_by = get_or v 1 0;
  assisted_by = get_or v 2 0;
  acked_by = get_or v 3 0;
  reviewed_by = get_or v 4 0;
  tested_by = get_or v 5 0;
  rest = get_or v 6 0;
  without = get_or v 7 0;
}

pub bundle_reported_decides : Decides report_says
bundle_reported_decides = said_decides report_values bundle_refused report bundle_error (λ r. refl) (error_back report)
