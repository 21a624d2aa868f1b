-- `summary::has_followed` meets its contract. The invariant: one was found, or is in what is left of the run, where one is in the run.
-- Assumes nothing.
use mathlib.Core.Bool.{◌||◌}
use mathlib.Core.Path.{◌≡◌}
use Rattle.std.specs.Slice.Iter.{windows_rest, windows_size}
use Rattle.summary.specs.Followed.{any_followed}
use Rattle.summary.proofs.has_followed.Given as goal

abbrev pub invariant-loop-pair : goal.invariant-loop-pair
invariant-loop-pair l =
    (windows_size l.pair-iterator ≡ 2)
    × ((l.found || any_followed l.low l.high (windows_rest l.pair-iterator)) ≡ any_followed l.low l.high l.run)
