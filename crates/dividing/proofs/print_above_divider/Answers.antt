-- `dividing::print_above_divider` is safe: the message above its divider is no longer than the message.
use Rattle.divider.specs.declared.Reading.{Reading}
use Rattle.divider.proofs.Readings.{handed_on}
use Rattle.dividing.proofs.print_above_divider.Goals as goal

pub slice_bounds-print_listing-end : goal.slice_bounds-print_listing-end
slice_bounds-print_listing-end g c = (handed_on Reading.AboveDivider c.args.message.now c.end_in-end.ensures).1
