-- `summary::first_lf` meets its contract. Assumes nothing.
use mathlib.Core.Bool.{Bool, true, false}
use mathlib.Core.List.{List}
use mathlib.Core.Path.{◌≡◌, refl}
use Prim.Native.Nat.{ℕ, ◌+◌}
use native.Mathlib.Omega.{arith}
use borrow.Author.Tests.{ltb-true, ltb-false}
use lib.Dec.{ltb}
use lib.ListN.{length, drop}
use Rattle.rules.specs.Lines.{inner}
use Rattle.rules.specs.Lists.{run}
use Rattle.rules.specs.Summary.{pieces, many}
use Rattle.summary.proofs.Pieces.{some_piece, piece_at, last_piece_at}
use Rattle.summary.proofs.first_lf.Goals as goal

by : (s : List ℕ) (pos : ℕ) → pos ≡ 0 + length (run inner s) → (b : Bool) → ltb pos (length s) ≡ b → b ≡ many (pieces s)
by s pos e true t = let (q, ps, o) = some_piece (drop (pos + 1) s) in rw (piece_at s 0 pos e (ltb-true _ _ t), o)
by s pos e false t = rw (last_piece_at s 0 pos e (ltb-false _ _ t))

pub returns : goal.returns
returns c =
    let s = c.args.message.now in
    let r = c.find_lf.result in
    (omega (arith, c.find_lf.ensures), by s r c.find_lf.ensures (ltb r (length s)) refl)
