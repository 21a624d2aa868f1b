-- `find::past_blocks` meets its contract. The invariant: the blocks from `end` on are left, and a search from there finds what one from the
-- front finds. Assumes nothing.
use Rattle.std.specs.Slice.Iter.{chunks_exact_rest, chunks_exact_size}
use mathlib.Core.Path.{◌≡◌}
use Prim.Native.Nat.{◌+◌, ◌≤◌}
use lib.ListN.{length, drop}
use Rattle.find.specs.Find.{until_lf}
use Rattle.find.proofs.past_blocks.Given as goal

abbrev pub invariant-loop-block : goal.invariant-loop-block
invariant-loop-block l = record {
  size : chunks_exact_size l.block-iterator ≡ 256;
  left : chunks_exact_rest l.block-iterator ≡ drop l.end l.s;
  within : l.end ≤ length l.s;
  same : l.end + until_lf (drop l.end l.s) ≡ until_lf l.s;
}
