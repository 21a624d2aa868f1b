-- `fields::sole::sole_line` meets its contract. Assumes nothing.
use Rattle.fields.proofs.Kept.{sole_none, sole_two, sole_one}
use Rattle.fields.proofs.sole.sole_line.Goals as goal

pub returns-in_err-first : goal.returns-in_err-first
returns-in_err-first c = rw c.from_residual.ensures (sole_none c.args.value.now c.in_err-first.ensures)

pub returns-in-None : goal.returns-in-None
returns-in-None c = sole_one c.in_ok-first.ensures c.in-None.ensures

pub returns-in-Some : goal.returns-in-Some
returns-in-Some c = sole_two c.in_ok-first.ensures c.in-Some.ensures
