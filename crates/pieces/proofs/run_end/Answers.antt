-- `pieces::run_end` meets its contract. Assumes nothing.
use mathlib.Core.Path.{◌≡◌}
use Prim.Native.Nat.{◌-◌}
use native.Mathlib.Omega.{arith}
use lib.ListN.{length, take, drop, length-drop}
use lib.Seq.{take-length}
use Rattle.mailbox.specs.Grammar.{atext}
use Rattle.pieces.proofs.Laws.{run_length}
use Rattle.pieces.proofs.run_end.Goals as goal

pub returns : goal.returns
returns c =
    let t = drop c.args.at c.args.s.now in
    let all : take (length c.args.s.now - c.args.at) t ≡ t = rw (← length-drop c.args.at c.args.s.now) (take-length t) in
    omega (arith, rw all at c.run_length.ensures.value, run_length atext t)
