-- `value::unfold_value` meets its contract: the unfolded value is never longer than the raw one; refusal 3 with the length found,
-- or all of it written. Assumes nothing.
use native.Mathlib.Omega.{arith}
use Rattle.rules.proofs.Unfolded.{unfolded_short}
use Rattle.value.proofs.unfold_value.Goals as goal

pub unfold_fitting-requires : goal.unfold_fitting-requires
unfold_fitting-requires c = omega (arith, unfolded_short c.args.value.now, c.if-value-out.true)
