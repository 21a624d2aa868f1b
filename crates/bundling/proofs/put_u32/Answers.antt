-- `bundling::put_u32` meets its contract: the four bytes of a number are those of the specification. Assumes nothing.
use mathlib.Core.Path.{◌≡◌, ap, ◌∙◌}
use Rattle.std.specs.Int.{to_le_bytes, w32}
use Prim.Native.Nat.{ℕ, ◌/◌, ◌<◌}
use native.Mathlib.Omega.{arith}
use Rattle.copy.specs.Onto.{onto}
use Rattle.copy.proofs.Onto.{pasted}
use Rattle.bundle.specs.Bundle.{u32_top, u32le}
use Rattle.bundling.proofs.put_u32.Goals as goal

four : (n : ℕ) → n < u32_top → to_le_bytes w32 n ≡ u32le n
unfolding u32le
four n h =
    let third : n / 65536 ≡ n / 256 / 256 = omega arith in
    let fourth : n / 16777216 ≡ n / 256 / 256 / 256 = omega arith in
    rw (third, fourth)

pub returns : goal.returns
returns c =
    let a = c.args in
    c.copy_at.ensures ∙ pasted a.out.now c.to_le_bytes.result a.at ∙ ap (λ w. onto a.at w a.out.now) (c.to_le_bytes.ensures ∙ four a.n c.requires.0)
