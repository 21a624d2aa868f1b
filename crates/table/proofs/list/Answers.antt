-- `table::list` meets its contract: a record takes one cell.
use mathlib.Core.Path.{◌≡◌}
use Prim.Native.Nat.{◌/◌}
use native.Mathlib.Omega.{arith}
use lib.ListN.{length}
use Rattle.planning.specs.Scopes.{scope_records}
use Rattle.table.proofs.Entries.{laid_one}
use Rattle.table.proofs.list.Goals as goal

pub returns : goal.returns
returns c =
    let a = c.args in
    let rooms : length a.table.now / 1 ≡ length a.table.now = omega arith in
    let e = c.list_into.ensures in
    record {
      answers = rw rooms at e.answer;
      table_holds = rw (rooms, laid_one (scope_records a.input.now a.scope)) at e.table_after;
      buffer_holds = rw rooms at e.out_after;
    }
