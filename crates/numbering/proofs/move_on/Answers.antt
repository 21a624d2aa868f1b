-- `numbering::move_on` meets its contract. Assumes nothing.
use Prim.Native.Nat.{◌+◌, ◌-◌, ◌<◌, ◌^◌}
use native.Mathlib.Omega.{arith}
use borrow.Author.Rules.{rules}
use Rattle.rules.proofs.Number.{feeds_within}
use Rattle.numbering.proofs.move_on.Goals as goal

pub overflow_add-line : goal.overflow_add-line
overflow_add-line c =
    let a = c.args in
    let room : a.at + 1 < 2 ^ 64 = search rules in
    omega (arith, c.count_lf.ensures, feeds_within a.input.now a.cursor.at (a.at - a.cursor.at))
