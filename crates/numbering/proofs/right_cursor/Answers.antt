-- `numbering::right_cursor` meets its contract. Assumes nothing.
use mathlib.Core.List.{List}
use mathlib.Core.Path.{◌≡◌}
use Prim.Native.Nat.{ℕ, ◌+◌, ◌-◌, ◌≤◌, ◌<◌, ◌^◌}
use native.Mathlib.Omega.{arith}
use borrow.Author.Rules.{rules}
use lib.ListN.{take}
use Rattle.rules.proofs.Number.{feeds_within}
use Rattle.rules.specs.Number.{line_feeds, line_number}
use Rattle.numbering.proofs.right_cursor.Goals as goal

-- the LFs from the top on give the number
from-top : (s : List ℕ) (at : ℕ) {n : ℕ} → n ≡ line_feeds (take (at - 0) s) → (1 + n ≡ line_number s at) × (n ≤ at)
from-top s at e =
    let size : at - 0 ≡ at = omega arith in
    let n = rw size at e in
    (omega (arith, n), omega (arith, n, feeds_within s 0 at))

pub overflow_add-line : goal.overflow_add-line
overflow_add-line c =
    let a = c.args in
    let room : a.at + 1 < 2 ^ 64 = search rules in
    omega (arith, (from-top a.input.now a.at c.count_lf-line.ensures).1)
