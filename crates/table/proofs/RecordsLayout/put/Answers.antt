-- `table::Records::put` meets its contract.
use native.Mathlib.Omega.{arith}
use Rattle.table.proofs.Entries.{set_is}
use Rattle.table.proofs.RecordsLayout.put.Goals as goal

pub returns : goal.returns
returns c = set_is c.args.table.now c.args.at c.args.found (omega (arith, c.requires))
