-- `title::past_lines` meets its contract. The invariant: the first `i` bytes are in the title. Assumes nothing.
use Prim.Native.Nat.{◌-◌}
use lib.ListN.{length}
use Rattle.title.specs.Runs.{InTitle}
use Rattle.title.proofs.past_lines.Given as goal

abbrev pub invariant-loop-i : goal.invariant-loop-i
invariant-loop-i l = InTitle l.message l.i

abbrev pub decreases-loop-i : goal.decreases-loop-i
decreases-loop-i l = length l.message - l.i
