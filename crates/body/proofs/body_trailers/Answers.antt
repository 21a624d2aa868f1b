-- `body::body_trailers` meets its contract.
use native.Mathlib.Omega.{arith}
use Rattle.rules.proofs.Paragraph.{start_within}
use Rattle.body.proofs.body_trailers.Goals as goal

pub right_cursor-requires : goal.right_cursor-requires
right_cursor-requires c = omega (arith, start_within c.args.body.now, c.trailer_block_start-at.ensures)
