-- `planning::list_into` meets its contract. Invariant: the trailers that are left complete the table and the buffer. Measure: the bytes
-- ahead of the walk.
use Rattle.std.proofs.Common.{◌-◌, length}
use Rattle.planning.proofs.Filled.{Filling}
use Rattle.planning.proofs.fill.list_into.Given as goal

abbrev pub invariant-loop-spot : goal.invariant-loop-spot
invariant-loop-spot g l = Filling g.L.Layout.cells g.L.Layout.WIDTH l.input l.fn.scope l.initial.table l.initial.out l.begun l.at l.spot l.table l.out

abbrev pub decreases-loop-spot : goal.decreases-loop-spot
decreases-loop-spot g l = length l.text - l.spot.cursor.at
