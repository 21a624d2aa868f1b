-- `white::is_white_last` meets its contract. Assumes nothing.
use mathlib.Core.Path.{sym}
use Prim.Native.Nat.{◌-◌}
use native.Mathlib.Omega.{arith}
use lib.ListN.{length, drop, length-drop}
use Rattle.white.proofs.Forms.{too_short}
use Rattle.white.proofs.Utf8.{low_begins}
use Rattle.white.proofs.is_white_last.Goals as goal

pub returns-then-n-k : goal.returns-then-n-k
returns-then-n-k c =
    let s = c.args.s.now in
    let k = c.args.k in
    sym (too_short (drop (length s - k) s) k (simp length-drop (omega arith)))

pub returns-then-s-n-lt128 : goal.returns-then-s-n-lt128
returns-then-s-n-lt128 c =
    let a = c.args in
    sym (low_begins a.s.now a.k (omega arith) (omega arith) c.if-s-n-lt128.true)
