-- `screen::put_first` meets its contract: three pieces, one behind another.
use Rattle.screen.proofs.Writing as laws
use Rattle.screen.proofs.put_first.Goals as goal

pub returns : goal.returns
returns c =
    laws.first_put c.args.digits.now c.args.out.now c.requires c.copy_at.new.out c.copy_at.ensures c.copy_at-2.new.out c.copy_at-2.ensures
    c.copy_at-3.new.out c.copy_at-3.ensures
