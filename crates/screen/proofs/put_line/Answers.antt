-- `screen::put_line` meets its contract: two halves, one behind the other.
use Rattle.screen.specs.Parts.{between}
use Rattle.screen.proofs.Writing as laws
use Rattle.screen.proofs.put_line.Goals as goal

-- the trailer's token and raw value are the halves' texts
pub returns-clause-out_after : goal.returns-clause-out_after
returns-clause-out_after c =
    let a = c.args in
    let n = c.put_name-value in
    laws.line_put (between a.message.now a.at.start a.at.token_end) (between a.message.now a.at.value_start a.at.end) a.out.now a.place c.requires.at_in_bounds
    n.new.out n.ensures.out_after c.put_value.new.out n.result n.ensures.value c.put_value.ensures.out_after
