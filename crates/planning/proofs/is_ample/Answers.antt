-- `planning::is_ample` meets its contract.
use borrow.Author.Tests.{ltb-true}
use Rattle.planning.proofs.Counted.{ample}
use Rattle.planning.proofs.is_ample.Goals as goal

pub returns : goal.returns
returns c =
    λ e.
    let a = c.args in
    ample a.text.now a.at a.rooms a.room c.requires c.if-room-end.false (rw c.count_lf.ensures at (ltb-true c.count_lf.result a.rooms e))
