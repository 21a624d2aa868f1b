-- `title::title_and_body` meets its contract. The invariant: the first `at` bytes are in the title. Assumes nothing.
use Prim.Native.Nat.{◌-◌}
use lib.ListN.{length}
use Rattle.title.specs.Runs.{InTitle}
use Rattle.title.proofs.title_and_body.Given as goal

abbrev pub invariant-loop-at : goal.invariant-loop-at
invariant-loop-at l = InTitle l.message l.at

abbrev pub decreases-loop-at : goal.decreases-loop-at
decreases-loop-at l = length l.message - l.at
