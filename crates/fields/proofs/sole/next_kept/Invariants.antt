-- `fields::sole::next_kept` meets its contract. The invariant: the lines before `from` trim to nothing. Assumes nothing.
use Prim.Native.Nat.{◌-◌}
use lib.ListN.{length}
use Rattle.fields.proofs.Kept.{Passed}
use Rattle.fields.proofs.sole.next_kept.Given as goal

abbrev pub invariant-loop-from : goal.invariant-loop-from
invariant-loop-from l = Passed l.value l.at l.from

abbrev pub decreases-loop-from : goal.decreases-loop-from
decreases-loop-from l = length l.value - l.from
