-- `title::has_two_ends` meets its contract. The invariant: an LF with LF or CR after it was found or stands in what is left of the run,
-- just where the run has one. Assumes nothing.
use mathlib.Core.Bool.{◌||◌}
use mathlib.Core.Path.{◌≡◌}
use Rattle.std.specs.Slice.Iter.{windows_rest, windows_size}
use Rattle.title.specs.Runs.{any_meets}
use Rattle.title.proofs.has_two_ends.Given as goal

abbrev pub invariant-loop-pair : goal.invariant-loop-pair
invariant-loop-pair l =
    (windows_size l.pair-iterator ≡ 2) × ((l.found || any_meets (windows_rest l.pair-iterator)) ≡ any_meets l.run)
