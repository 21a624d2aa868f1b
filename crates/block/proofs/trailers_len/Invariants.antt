-- `block::trailers_len` meets its contract. The invariant: the trailers from the front on are what is passed and the trailers
-- from `len` on. Assumes nothing.
use mathlib.Core.Path.{◌≡◌}
use Prim.Native.Nat.{◌+◌, ◌-◌, ◌≤◌}
use lib.ListN.{length, drop}
use Rattle.block.specs.Step.{part_length}
use Rattle.block.proofs.trailers_len.Given as goal

abbrev pub invariant-loop-trailer : goal.invariant-loop-trailer
invariant-loop-trailer l = (l.len ≤ length l.cursor) × (part_length l.cursor ≡ l.len + part_length (drop l.len l.cursor))

abbrev pub decreases-loop-trailer : goal.decreases-loop-trailer
decreases-loop-trailer l = length l.cursor - l.len
