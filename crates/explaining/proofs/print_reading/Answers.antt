-- `explaining::print_reading` is safe: the body starts in the message.
use Rattle.rules.proofs.Title.{body_fits}
use Rattle.explaining.proofs.print_reading.Goals as goal

pub slice_bounds-print_body-count : goal.slice_bounds-print_body-count
slice_bounds-print_body-count g c = rw c.title_and_body-places.ensures.1 (body_fits c.args.message.now)

pub slice_bounds-print_body-start : goal.slice_bounds-print_body-start
slice_bounds-print_body-start g c = rw c.title_and_body-places.ensures.1 (body_fits c.args.message.now)
