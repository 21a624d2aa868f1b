-- `value::read_value` meets its contract. Assumes nothing.
use Prim.Native.Nat.{◌+◌, ◌-◌, ◌≤◌}
use native.Mathlib.Omega.{arith}
use lib.ListN.{take, drop, length-drop}
use lib.Seq.{length-take-le}
use Rattle.rules.proofs.White.{trim_fits}
use Rattle.value.proofs.read_value.Goals as goal
use Rattle.value.proofs.read_value.Goals.{After-trim_value-part}

-- the part that trimming keeps lies in the raw value, and the raw value in the body
inside : (c : After-trim_value-part) → let a = c.args in
    (a.from + c.trim_value-part.result.start ≤ a.to) × (a.from + c.trim_value-part.result.end ≤ a.to)
inside c =
    let a = c.args in
    let rest = drop a.from a.body.now in
    let size = length-take-le (a.to - a.from) rest (omega (arith, length-drop a.from a.body.now, c.requires.from_le_to)) in
    omega (arith, size, trim_fits (take (a.to - a.from) rest), c.trim_value-part.ensures, c.requires.from_le_to)

pub overflow_add-result : goal.overflow_add-result
overflow_add-result c = omega (arith, inside (goal.at.overflow_add-result c).After-trim_value-part)

pub overflow_add-result-2 : goal.overflow_add-result-2
overflow_add-result-2 c = omega (arith, inside (goal.at.overflow_add-result-2 c).After-trim_value-part)
