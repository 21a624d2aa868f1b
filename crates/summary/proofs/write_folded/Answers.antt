-- `summary::write_folded` meets its contract: the pieces never add up to more than the text. Assumes nothing.
use mathlib.Core.Path.{ap}
use native.Mathlib.Omega.{arith}
use lib.ListN.{length}
use Rattle.summary.proofs.InOne.{in_one_lem, in_one_short}
use Rattle.summary.proofs.write_folded.Goals as goal
use Rattle.summary.proofs.write_folded.Goals.{then-out-text+else-out-needed, else-out-text}

pub fold_into-end-requires : goal.fold_into-end-requires
fold_into-end-requires c =
    let s = c.args.text.now in
    elim c.if-out-text.branch [
      | then-out-text+else-out-needed w ↦ omega arith
      | else-out-text w ↦ omega (arith, ap length (in_one_lem s), in_one_short s)
    ]
