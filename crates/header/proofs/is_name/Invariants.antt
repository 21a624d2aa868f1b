-- `header::is_name` meets its contract. The invariant: the two are the same just where they were alike so far and what is left of them is
-- the same. Assumes nothing.
use Rattle.std.specs.Iterator.Adapters.{zip_first, zip_second}
use Rattle.std.specs.Slice.Iter.{iter_rest}
use mathlib.Core.Bool.{◌&&◌}
use mathlib.Core.Path.{◌≡◌}
use lib.ListN.{length}
use Rattle.rules.specs.Lists.{equal}
use Rattle.header.proofs.is_name.Given as goal

abbrev pub invariant-loop-x : goal.invariant-loop-x
invariant-loop-x l = record {
  alike : equal l.name l.word ≡ l.alike && equal (iter_rest (zip_first l.x-iterator)) (iter_rest (zip_second l.x-iterator));
  long : length (iter_rest (zip_first l.x-iterator)) ≡ length (iter_rest (zip_second l.x-iterator));
}
