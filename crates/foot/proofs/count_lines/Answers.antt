-- `foot::count_lines` meets its contract.
use mathlib.Core.Path.{sym}
use native.Mathlib.Omega.{arith}
use borrow.Author.Rules.{rules}
use Prim.Native.Nat.{◌-◌, ◌<◌, ◌^◌}
use lib.ListN.{length}
use Rattle.rules.proofs.Number.{feeds_within}
use Rattle.foot.proofs.Finding.{count_is}
use Rattle.foot.proofs.count_lines.Goals as goal

pub overflow_add-result : goal.overflow_add-result
overflow_add-result c =
    let a = c.args in
    let size : length a.s.now < 2 ^ 63 = search rules in
    omega (arith, c.count_lf.ensures, feeds_within a.s.now a.at (length a.s.now - 1 - a.at))

pub returns : goal.returns
returns c =
    let a = c.args in
    let inside : a.at < length a.s.now = search rules in
    rw c.count_lf.ensures (sym (count_is a.s.now a.at inside))
