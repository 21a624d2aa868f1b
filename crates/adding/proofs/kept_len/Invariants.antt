-- `adding::kept_len` meets its contract. Invariant: the last non-blank line of the message is that of its lines before `end`.
-- Assumes nothing.
use Rattle.adding.proofs.Upward.{Above}
use Rattle.adding.proofs.kept_len.Given as goal

abbrev pub invariant-loop-end : goal.invariant-loop-end
invariant-loop-end l = Above l.message l.end

abbrev pub decreases-loop-end : goal.decreases-loop-end
decreases-loop-end l = l.end
