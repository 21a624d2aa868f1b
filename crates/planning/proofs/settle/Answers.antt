-- `planning::settle` meets its contract.
use Rattle.planning.proofs.Judged.{all_fit, few_rooms, no_room}
use Rattle.planning.proofs.settle.Goals as goal

pub returns-then-is_ample : goal.returns-then-is_ample
returns-then-is_ample c =
    let a = c.args in
    let fit = c.is_ample.ensures c.if-is_ample.true in
    rw c.begin_at.ensures (all_fit a.input.now a.opening a.rooms a.room c.requires.within c.requires.fits fit.0 fit.1)

pub returns-then-rooms-needed : goal.returns-then-rooms-needed
returns-then-rooms-needed c =
    let a = c.args in
    few_rooms a.input.now a.opening a.rooms a.room c.count-needed.ensures c.if-rooms-needed.true

pub returns-then-room-needed : goal.returns-then-room-needed
returns-then-room-needed c =
    let a = c.args in
    no_room a.input.now a.opening a.rooms a.room c.count-needed.ensures c.if-rooms-needed.false c.if-room-needed.true

pub returns : goal.returns
returns c =
    let a = c.args in
    rw c.begin_at-2.ensures (all_fit a.input.now a.opening a.rooms a.room c.requires.within c.requires.fits (rw c.count-needed.ensures at c.if-rooms-needed.false) (rw c.count-needed.ensures at c.if-room-needed.false))
