-- `title::has_two_ends` meets its contract. The invariant: an LF with LF or CR after it was found or stands in what is left of the run,
-- just where the run has one. Assumes nothing.
use mathlib.Core.Path.{sym, ◌∙◌}
use native.Mathlib.Omega.{arith}
use Rattle.std.specs.Slice.Iter.{windows_rest}
use Rattle.title.proofs.Runs.{read_over}
use Rattle.title.proofs.has_two_ends.Goals as goal

pub returns : goal.returns
returns c =
    sym (read_over (windows_rest c.loop-pair.pair-iterator) c.loop-pair.found (omega (arith, c.in-None.ensures.steps.1.0))) ∙ c.loop-pair.invariant.1
