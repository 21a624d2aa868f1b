-- `bundle::read_u32` meets its contract. Assumes nothing.
use native.Mathlib.Omega.{arith}
use Rattle.bundle.proofs.Numbers.{u32_bytes}
use Rattle.bundle.proofs.read_u32.Goals as goal

pub returns : goal.returns
returns c =
    let a = c.args in
    omega (arith, c.from_le_bytes.ensures, u32_bytes a.s.now a.at (omega arith))
