-- `value::unfold_into` meets its contract. The invariant: the front of `out` holds what the lines passed so far make.
-- Assumes nothing.
use native.Mathlib.Omega.{arith}
use Rattle.value.proofs.Written.{written_step, written_end, next_fits}
use Rattle.value.proofs.unfold_into.Goals as goal

pub push_line-len-requires : goal.push_line-len-requires
push_line-len-requires c =
    record { len_in_bounds = omega arith; line_in_bounds = next_fits c.loop-line.invariant c.in-Some.ensures.steps c.requires }

pub loop-line-preserved : goal.loop-line-preserved
loop-line-preserved c =
    let pushed = c.push_line-len.ensures in
    written_step c.loop-line.invariant c.in-Some.ensures.steps c.requires _ _ pushed.value pushed.out_after

pub returns : goal.returns
returns c =
    let (size, content) = written_end c.loop-line.invariant c.in-None.ensures.steps in
    record { value = size; out_after = content }
