-- `summary::is_plain` meets its contract. Assumes nothing.
use mathlib.Core.Path.{◌≡◌}
use Prim.Native.Nat.{ℕ, ◌+◌, ◌-◌, ◌<◌}
use native.Mathlib.Omega.{arith}
use lib.ListN.{get_or}
use Rattle.summary.proofs.Followed.{no_lf_none}
use Rattle.summary.proofs.Plain.{plain_is}
use Rattle.summary.proofs.is_plain.Goals as goal

pub returns-then-kept-first : goal.returns-then-kept-first
returns-then-kept-first c = rw (no_lf_none 0 32 c.args.kept c.args.message.now (omega (arith, c.requires.first_value.0)))

-- before the first LF, if it is not at the front, stands no blank
pub returns : goal.returns
returns c =
    let m = c.args.message.now in
    let first = c.args.first in
    let solid : 0 < first → 32 < get_or m (first - 1) 0 = λ h. grind arith in
    let before : (i : ℕ) → i + 1 ≡ first → 32 < get_or m i 0 = λ i n. let at : i ≡ first - 1 = omega arith in rw at (solid (omega arith)) in
    plain_is m c.args.kept first c.requires.kept_in_bounds c.requires.first_value.0 (omega arith) c.args.blank c.requires.first_value.1 before
