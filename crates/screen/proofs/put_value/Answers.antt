-- `screen::put_value` meets its contract: the value in the tail that is lent, and the LF behind it.
use Rattle.screen.proofs.Writing as laws
use Rattle.screen.proofs.put_value.Goals as goal

pub returns-clause-out_after : goal.returns-clause-out_after
returns-clause-out_after c =
    let u = c.unfold_into-len in
    laws.value_put c.args.raw.now c.args.place c.args.out.now c.requires u.new.out u.ensures.out_after u.result c.copy_at.new.out u.ensures.value
    c.copy_at.ensures
