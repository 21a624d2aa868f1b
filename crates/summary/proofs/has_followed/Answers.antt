-- `summary::has_followed` meets its contract. The invariant: one was found, or is in what is left of the run, where one is in the run.
-- Assumes nothing.
use mathlib.Core.Bool.{Bool, or-false, ◌||◌}
use mathlib.Core.Path.{sym, ap, ◌∙◌}
use native.Mathlib.Omega.{arith}
use Rattle.std.specs.Slice.Iter.{windows_rest}
use Rattle.summary.proofs.Followed.{short}
use Rattle.summary.proofs.has_followed.Goals as goal

pub returns : goal.returns
returns c =
    let found = c.loop-pair.found in
    let (none, all) = short c.args.low c.args.high (windows_rest c.loop-pair.pair-iterator) (omega (arith, c.in-None.ensures.steps.1.0)) in
    sym (or-false found) ∙ ap (λ (b : Bool). found || b) (sym none) ∙ c.loop-pair.invariant.1
