-- `dividing::print_divider` is safe: the divider starts in the message.
use native.Mathlib.Omega.{arith}
use Rattle.divider.specs.declared.Reading.{Reading}
use Rattle.divider.proofs.Readings.{read_within}
use Rattle.dividing.proofs.print_divider.Goals as goal

pub slice_bounds-print_text-count : goal.slice_bounds-print_text-count
slice_bounds-print_text-count g c = omega (arith, c.end_in-start.ensures, read_within Reading.AboveDivider c.args.message.now)

pub slice_bounds-print_text-start : goal.slice_bounds-print_text-start
slice_bounds-print_text-start g c = omega (arith, c.end_in-start.ensures, read_within Reading.AboveDivider c.args.message.now)
