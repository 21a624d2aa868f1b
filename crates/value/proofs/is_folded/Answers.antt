-- `value::is_folded` meets its contract. Assumes nothing.
use Rattle.rules.specs.Trailer.{value_is_written}
use Rattle.value.proofs.is_folded.Goals as goal

pub returns : goal.returns
unfolding value_is_written
returns c = c.has_more_lines.ensures
