-- `find::holds_lf` meets its contract. Assumes nothing.
use mathlib.Core.Path.{◌≡◌}
use native.Mathlib.Omega.{arith}
use Rattle.find.specs.Find.{until_lf}
use Rattle.find.proofs.Words.{found}
use Rattle.find.proofs.holds_lf.Goals as goal

pub returns : goal.returns
returns c =
    let s = c.args.s.now in
    let there : c.find_lf.result ≡ until_lf s = omega (arith, c.find_lf.ensures) in
    rw there (found s)
