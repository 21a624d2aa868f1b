-- Each turn moves on by a line.
use Rattle.std.proofs.Common.{length}
use Rattle.explaining.proofs.print_paragraph.Given as goal

abbrev pub decreases-loop-ahead : goal.decreases-loop-ahead
decreases-loop-ahead g l = length l.ahead
