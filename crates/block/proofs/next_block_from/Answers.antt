-- `block::next_block_from` meets its contract. Assumes nothing.
use mathlib.Core.Path.{sym}
use Prim.Native.Nat.{◌+◌, ◌≤◌}
use native.Mathlib.Omega.{arith}
use borrow.Author.Rules.{rules}
use lib.ListN.{length}
use Rattle.block.proofs.Step.{message_within, next_block_is, no_block, trailers_within}
use Rattle.block.proofs.next_block_from.Goals as goal
use Rattle.block.proofs.next_block_from.Goals.{After-message_len}

pub returns-then-at-body : goal.returns-then-at-body
returns-then-at-body c = sym (no_block _ _ _ c.if-at-body.true)

-- the message ends in the body
within : (m : After-message_len) → m.max-from.result + m.message_len.result ≤ length m.args.body.now
within m = message_within m.args.body.now _ _ (search rules) m.message_len.ensures

pub overflow_add-message_end : goal.overflow_add-message_end
overflow_add-message_end c = let k = within c in search rules

pub slice_bounds-trailers_len-count : goal.slice_bounds-trailers_len-count
slice_bounds-trailers_len-count c = within c

pub slice_bounds-trailers_len-start : goal.slice_bounds-trailers_len-start
slice_bounds-trailers_len-start c = let k = within c in search rules

pub overflow_add-end : goal.overflow_add-end
overflow_add-end c =
    let k = trailers_within c.args.body.now _ _ (search rules) c.message_len.ensures _ c.trailers_len.ensures in
    search rules

pub returns : goal.returns
returns c =
    let a = c.args in
    sym (next_block_is a.body.now _ _ (search rules) c.message_len.ensures _ c.trailers_len.ensures
    a.at a.start (search rules) (search rules) (omega arith))
