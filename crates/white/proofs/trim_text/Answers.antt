-- `white::trim_text` meets its contract. Assumes nothing.
use mathlib.Core.Path.{sym, ◌∙◌}
use native.Mathlib.Omega.{arith}
use Rattle.white.proofs.Scan.{solid_kept}
use Rattle.white.proofs.trim_text.Goals as goal

pub returns-then-is_solid : goal.returns-then-is_solid
returns-then-is_solid c =
    let s = c.args.s.now in
    let (at, size) = solid_kept s (sym c.is_solid.ensures ∙ c.if-is_solid.true) in
    (sym at, omega (arith, at, size))
