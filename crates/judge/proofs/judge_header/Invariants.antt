-- `judge::judge_header` meets its contract. The invariant: what is judged and seen from `at` on is what is from the front on.
use Prim.Native.Nat.{◌-◌}
use lib.ListN.{length}
use Rattle.judge.proofs.Turns.{Scanned}
use Rattle.judge.proofs.judge_header.Given as goal

abbrev pub invariant-loop-at : goal.invariant-loop-at
invariant-loop-at l = Scanned l.content l.number l.at l.lines l.phase l.line

abbrev pub decreases-loop-at : goal.decreases-loop-at
decreases-loop-at l = length l.content - l.at
