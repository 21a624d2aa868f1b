-- `signer::names_end` meets its contract. The invariant: the whole reading is the one from `i` on, behind words from `start` to `end`
-- and the white space and comments behind them. Assumes nothing.
use Prim.Native.Nat.{◌-◌, ◌≤◌}
use lib.ListN.{length, drop}
use Rattle.rules.specs.Lists.{Stops}
use Rattle.comment.specs.Ends.{gap_byte}
use Rattle.signer.proofs.Laws.{SameNames}
use Rattle.signer.proofs.names_end.Given as goal

abbrev pub invariant-loop-i : goal.invariant-loop-i
invariant-loop-i l = record { within : l.i ≤ length l.s; stops : Stops gap_byte (drop l.i l.s); same : SameNames l.s l.start l.end l.i }

abbrev pub decreases-loop-i : goal.decreases-loop-i
decreases-loop-i l = length l.s - l.i
