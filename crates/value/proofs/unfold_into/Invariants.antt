-- `value::unfold_into` meets its contract. The invariant: the front of `out` holds what the lines passed so far make.
-- Assumes nothing.
use Rattle.value.proofs.Written.{Written}
use Rattle.value.proofs.unfold_into.Given as goal

abbrev pub invariant-loop-line : goal.invariant-loop-line
invariant-loop-line l =
    Written l.value l.initial.out l.line-iterator.rest.now l.out l.len
