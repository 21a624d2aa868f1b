-- `counting::bundle_report` meets its contract. Invariant: the report so far and that of the messages from k on are the whole.
-- Assumes nothing.
use Rattle.counting.proofs.Turns.{Reported}
use Rattle.counting.specs.Answers.{seven}
use Rattle.counting.proofs.bundle_report.Given as goal

abbrev pub invariant-loop-k : goal.invariant-loop-k
invariant-loop-k l = Reported l.bundle (seven l.report) l.count l.k l.report.without
