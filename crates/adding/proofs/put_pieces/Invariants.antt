-- `adding::put_pieces` meets its contract. Assumes nothing.
use mathlib.Core.List.{map}
use mathlib.Core.Path.{◌≡◌}
use Prim.Native.Nat.{◌+◌}
use lib.ListN.{length, drop}
use Rattle.rules.specs.Lists.{join}
use Rattle.copy.specs.Onto.{onto}
use Rattle.adding.proofs.put_pieces.Given as goal

abbrev pub invariant-loop-piece : goal.invariant-loop-piece
invariant-loop-piece l =
    (l.at + length (join (drop l.piece-index (map (λ piece. piece.now) l.pieces))) ≡ length (join (map (λ piece. piece.now) l.pieces))) × (onto l.at (join (drop l.piece-index (map (λ piece. piece.now) l.pieces))) l.out ≡ onto 0 (join (map (λ piece. piece.now) l.pieces)) l.initial.out)
