-- `bundle::bundle_message` meets its contract. Assumes nothing.
use native.Mathlib.Omega.{arith}
use Rattle.bundle.proofs.Answers.{of_count}
use Rattle.bundle.proofs.bundle_message.Goals as goal

pub message_part-requires : goal.message_part-requires
message_part-requires c =
    let n = of_count _ _ c.in_ok-bundle_count.ensures in
    (n.good, omega (arith, n.count))
