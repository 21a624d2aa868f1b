-- Each block has bytes, and ends inside the body.
use Rattle.std.proofs.Common.{◌-◌, ◌≤◌, length}
use Rattle.explaining.proofs.print_blocks.Given as goal

abbrev pub invariant-loop-block : goal.invariant-loop-block
invariant-loop-block g l = record { at_in_bounds : l.at ≤ length l.body; from_in_bounds : l.from ≤ length l.body }

abbrev pub decreases-loop-block : goal.decreases-loop-block
decreases-loop-block g l = length l.body - l.at
