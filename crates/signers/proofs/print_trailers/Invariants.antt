-- Each trailer moves the cursor on, inside the message.
use Rattle.std.proofs.Common.{◌-◌, ◌≡◌, length}
use Rattle.signers.proofs.print_trailers.Given as goal

abbrev pub invariant-loop-step : goal.invariant-loop-step
invariant-loop-step g l = length l.buffer ≡ 65536

abbrev pub decreases-loop-step : goal.decreases-loop-step
decreases-loop-step g l = length l.message - l.cursor.at
