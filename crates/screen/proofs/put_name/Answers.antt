-- `screen::put_name` meets its contract: two pieces, one behind the other.
use Rattle.screen.proofs.Writing as laws
use Rattle.screen.proofs.put_name.Goals as goal

pub returns-clause-out_after : goal.returns-clause-out_after
returns-clause-out_after c =
    laws.name_put c.args.token.now c.args.place c.args.out.now c.requires c.copy_at.new.out c.copy_at.ensures c.copy_at-2.new.out c.copy_at-2.ensures
