-- `trailer::line::token_end` meets its contract. The invariant: the token's length is what is passed and the run from `i` on.
-- Assumes nothing.
use mathlib.Core.Path.{◌≡◌}
use Prim.Native.Nat.{◌+◌, ◌-◌, ◌≤◌}
use lib.ListN.{length, drop}
use Rattle.rules.specs.Bytes.{token_byte}
use Rattle.rules.specs.Lists.{run}
use Rattle.trailer.proofs.line.token_end.Given as goal

abbrev pub invariant-loop-i : goal.invariant-loop-i
invariant-loop-i l = (l.i ≤ length l.line) × (length (run token_byte l.line) ≡ l.i + length (run token_byte (drop l.i l.line)))

abbrev pub decreases-loop-i : goal.decreases-loop-i
decreases-loop-i l = length l.line - l.i
