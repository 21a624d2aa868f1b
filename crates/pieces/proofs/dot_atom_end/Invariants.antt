-- `pieces::dot_atom_end` meets its contract. The invariant: the reading from `at` on is the one from `i` on, before an atom.
-- Assumes nothing.
use Prim.Native.Nat.{◌-◌, ◌≤◌}
use lib.ListN.{length}
use Rattle.pieces.proofs.Laws.{SameDots}
use Rattle.pieces.proofs.dot_atom_end.Given as goal

abbrev pub invariant-loop-i : goal.invariant-loop-i
invariant-loop-i l = record { later : l.at ≤ l.i; within : l.i ≤ length l.s; same : SameDots l.s l.at l.i }

abbrev pub decreases-loop-i : goal.decreases-loop-i
decreases-loop-i l = length l.s - l.i
