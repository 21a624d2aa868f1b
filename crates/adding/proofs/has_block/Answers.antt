-- `adding::has_block` meets its contract. Assumes nothing.
use mathlib.Core.List.{List}
use mathlib.Core.Path.{◌≡◌}
use Prim.Native.Nat.{ℕ, ◌-◌, ◌≤◌}
use lib.Dec.{ltb}
use lib.ListN.{length, take, drop, length-drop}
use Rattle.rules.proofs.Parts.{rest}
use Rattle.rules.proofs.Title.{body_fits}
use Rattle.rules.specs.Paragraph.{block_start}
use Rattle.rules.specs.Title.{body_start}
use Rattle.appending.specs.Added.{has_block}
use Rattle.appending.proofs.ForCode.{has_block_lem}
use Rattle.adding.proofs.has_block.Goals as goal
use Rattle.adding.proofs.has_block.Goals.{After-title_and_body-start}

-- the block's start in the body, before the body's end
block-is : (m : List ℕ) (s k : ℕ) → s ≡ body_start m → k ≡ block_start (take (length m - s) (drop s m)) → ltb k (length m - s) ≡ has_block m
block-is m s k p q = rw (q, rest m s, p, has_block_lem m, length-drop (body_start m) m)

-- the body starts in the message
starts : (c : After-title_and_body-start) → c.title_and_body-start.result.body_start ≤ length c.args.message.now
starts c = rw c.title_and_body-start.ensures.1 (body_fits c.args.message.now)

pub slice_bounds-trailer_block_start-count : goal.slice_bounds-trailer_block_start-count
slice_bounds-trailer_block_start-count c = starts c

pub slice_bounds-trailer_block_start-start : goal.slice_bounds-trailer_block_start-start
slice_bounds-trailer_block_start-start c = starts c

pub overflow_sub-result : goal.overflow_sub-result
overflow_sub-result c = starts (goal.at.overflow_sub-result c).After-title_and_body-start

pub returns : goal.returns
returns c = block-is c.args.message.now _ _ c.title_and_body-start.ensures.1 c.trailer_block_start.ensures
