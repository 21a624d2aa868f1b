-- `value::trim_line` meets its contract: what is kept is that part of the line. Assumes nothing.
use native.Mathlib.Omega.{arith}
use Rattle.rules.proofs.White.{trim_fits}
use Rattle.rules.proofs.Parts.{kept_part}
use Rattle.value.proofs.trim_line.Goals as goal

pub slice_bounds-result-end : goal.slice_bounds-result-end
slice_bounds-result-end c = omega (arith, trim_fits c.args.line.now)

pub returns : goal.returns
returns c = kept_part c.args.line.now c.trim_value-kept.ensures
