-- `paragraph::last_paragraph` meets its contract. The invariant: the lines from `end` on have been seen, and the counts are
-- those of their tree. Assumes nothing.
use Rattle.paragraph.proofs.Upward.{At}
use Rattle.paragraph.proofs.last_paragraph.Given as goal

abbrev pub invariant-loop-end : goal.invariant-loop-end
invariant-loop-end l = At l.body l.end l.scan

abbrev pub decreases-loop-end : goal.decreases-loop-end
decreases-loop-end l = l.end
