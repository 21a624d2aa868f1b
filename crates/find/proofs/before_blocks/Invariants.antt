-- `find::before_blocks` meets its contract. The invariant: the blocks before `start` are left, and a search back from there finds what one
-- from the end finds. Assumes nothing.
use Rattle.std.specs.Slice.Exact.{rchunks_exact_rest, rchunks_exact_remainder, rchunks_exact_size}
use mathlib.Core.List.{◌++◌}
use mathlib.Core.Path.{◌≡◌}
use Prim.Native.Nat.{◌%◌, ◌≤◌, ◌<◌}
use lib.ListN.{length, take}
use Rattle.find.specs.Find.{behind_lf}
use Rattle.find.proofs.before_blocks.Given as goal

abbrev pub invariant-loop-block : goal.invariant-loop-block
invariant-loop-block l = record {
  size : rchunks_exact_size l.block-iterator ≡ 256;
  left : rchunks_exact_remainder l.block-iterator ++ rchunks_exact_rest l.block-iterator ≡ take l.start l.s;
  whole : length (rchunks_exact_rest l.block-iterator) % 256 ≡ 0;
  short : length (rchunks_exact_remainder l.block-iterator) < 256;
  within : l.start ≤ length l.s;
  same : behind_lf l.s l.start ≡ behind_lf l.s (length l.s);
}
