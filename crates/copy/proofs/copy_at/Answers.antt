-- `copy::copy_at` meets its contract. The invariant: the first `i` entries of `src` are in `out`. Assumes nothing.
use mathlib.Core.Path.{ap, ◌∙◌}
use Prim.Native.Nat.{◌+◌}
use native.Mathlib.Numerals.{add-one}
use native.Mathlib.Omega.{arith}
use lib.ListN.{length-set, set}
use lib.Seq.{paste, paste-suc}
use Rattle.copy.proofs.copy_at.Goals as goal

pub loop-i-preserved : goal.loop-i-preserved
loop-i-preserved g c =
    let a = c.args in (
      simp length-set c.loop-i.invariant.0,
      rw (c.loop-i.invariant.1, add-one)
          (ap (set (paste a.out.now a.at a.src.now c.loop-i.i) (a.at + c.loop-i.i)) c.index-src-i.is
          ∙ paste-suc a.out.now a.at a.src.now c.loop-i.i c.index-src-i.result (omega arith) (omega arith)),
    )
