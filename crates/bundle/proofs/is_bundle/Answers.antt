-- `bundle::is_bundle` meets its contract. Invariant: what is left to test is the offsets from `at` on. Assumes nothing.
use mathlib.Core.Path.{◌∙◌}
use native.Mathlib.Omega.{arith}
use Rattle.bundle.proofs.Judged.{right_first, turn}
use Rattle.bundle.proofs.is_bundle.Goals as goal

pub loop-k-init : goal.loop-k-init
loop-k-init c =
    right_first c.args.bundle.now c.read_u32-count.ensures c.read_u32-at.ensures (omega arith) (omega arith) (omega arith) c.if-at-header.false

pub loop-k-preserved : goal.loop-k-preserved
loop-k-preserved c =
    c.loop-k.invariant ∙ turn c.args.bundle.now c.read_u32-count.result c.loop-k.k c.loop-k.at c.read_u32-next.result (omega arith) c.read_u32-next.ensures (omega arith)
