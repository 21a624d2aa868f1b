-- `white::trim_value` meets its contract. Assumes nothing.
use mathlib.Core.Path.{sym, ◌∙◌}
use native.Mathlib.Omega.{arith}
use Rattle.white.proofs.Scan.{plain_kept, plain_long}
use Rattle.white.proofs.trim_value.Goals as goal

pub returns-then-is_plain : goal.returns-then-is_plain
returns-then-is_plain c =
    let s = c.args.s.now in
    let plain = sym c.is_plain.ensures ∙ c.if-is_plain.true in
    let (at, size) = plain_kept s plain in
    (sym at, omega (arith, at, size, plain_long s plain))
