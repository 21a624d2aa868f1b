-- `erasing::note_of` meets its contract: the walk begins at the block start of the body. Assumes nothing.
use mathlib.Core.List.{List}
use mathlib.Core.Path.{sym, ap, ◌∙◌}
use native.Mathlib.Omega.{arith}
use Rattle.rules.proofs.Title.{body_fits}
use Rattle.rules.specs.Trailer.{Trailer}
use Rattle.closing.specs.Answers.{note_said}
use Rattle.closing.specs.Closing.{answer}
use Rattle.rules.proofs.Messages.{walk_at, walk_fits}
use Rattle.erasing.proofs.note_of.Goals as goal

-- the body begins inside the message
pub slice_bounds-trailer_block_start-count : goal.slice_bounds-trailer_block_start-count
slice_bounds-trailer_block_start-count c = rw c.title_and_body-body_start.ensures.1 (body_fits c.args.message.now)

pub slice_bounds-trailer_block_start-start : goal.slice_bounds-trailer_block_start-start
slice_bounds-trailer_block_start-start c = rw c.title_and_body-body_start.ensures.1 (body_fits c.args.message.now)

-- so does the walk
pub overflow_add-at : goal.overflow_add-at
overflow_add-at c = omega (arith, walk_fits c.args.message.now _ _ c.title_and_body-body_start.ensures.1 c.trailer_block_start.ensures)

pub note_from-requires : goal.note_from-requires
note_from-requires c = walk_fits c.args.message.now _ _ c.title_and_body-body_start.ensures.1 c.trailer_block_start.ensures

pub returns : goal.returns
returns c =
    c.note_from.ensures
    ∙ ap (λ (ts : List Trailer). note_said ts (answer ts))
    (sym (walk_at c.args.message.now _ _ c.title_and_body-body_start.ensures.1 c.trailer_block_start.ensures))
