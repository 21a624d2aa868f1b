-- `message::message_trailers` meets its contract. Assumes nothing.
use mathlib.Core.Path.{◌≡◌}
use Prim.Native.Nat.{◌+◌, ◌≤◌}
use native.Mathlib.Omega.{arith}
use lib.ListN.{length}
use Rattle.rules.proofs.Messages.{walk_begins}
use Rattle.rules.proofs.Title.{body_fits}
use Rattle.message.specs.Message.{walk_start}
use Rattle.message.proofs.Started.{walk_fits}
use Rattle.message.proofs.message_trailers.Goals as goal
use Rattle.message.proofs.message_trailers.Goals.{After-title_and_body-body_start, After-trailer_block_start}

-- the body starts in the message
starts : (t : After-title_and_body-body_start) → t.title_and_body-body_start.result.body_start ≤ length t.args.message.now
starts t = rw t.title_and_body-body_start.ensures.1 (body_fits t.args.message.now)

pub slice_bounds-trailer_block_start-count : goal.slice_bounds-trailer_block_start-count
slice_bounds-trailer_block_start-count c = starts c

pub slice_bounds-trailer_block_start-start : goal.slice_bounds-trailer_block_start-start
slice_bounds-trailer_block_start-start c = starts c

-- the walk starts at the block start of the body
walks : (b : After-trailer_block_start)
    → b.title_and_body-body_start.result.body_start + b.trailer_block_start.result ≡ (walk_start b.args.message.now).at
walks b = walk_begins b.args.message.now _ _ b.title_and_body-body_start.ensures.1 b.trailer_block_start.ensures

pub overflow_add-at : goal.overflow_add-at
overflow_add-at c = omega (arith, walks c, walk_fits c.args.message.now)

pub right_cursor-requires : goal.right_cursor-requires
right_cursor-requires c = omega (arith, walks c, walk_fits c.args.message.now)
