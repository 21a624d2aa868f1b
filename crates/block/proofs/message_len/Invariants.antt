-- `block::message_len` meets its contract. The invariant: the message from the front on is what is passed and the message
-- from `len` on. Assumes nothing.
use mathlib.Core.Path.{◌≡◌}
use Prim.Native.Nat.{◌+◌, ◌-◌, ◌≤◌}
use lib.ListN.{length, drop}
use Rattle.block.specs.Step.{message_length}
use Rattle.block.proofs.message_len.Given as goal

abbrev pub invariant-loop-len : goal.invariant-loop-len
invariant-loop-len l = (l.len ≤ length l.cursor) × (message_length l.cursor ≡ l.len + message_length (drop l.len l.cursor))

abbrev pub decreases-loop-len : goal.decreases-loop-len
decreases-loop-len l = length l.cursor - l.len
