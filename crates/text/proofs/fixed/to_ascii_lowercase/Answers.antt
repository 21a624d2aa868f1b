-- `text::fixed::to_ascii_lowercase` meets its contract. Assumes nothing.
use mathlib.Core.Path.{◌∙◌}
use Rattle.text.proofs.Equal.{lower_is}
use Rattle.text.proofs.fixed.to_ascii_lowercase.Goals as goal

pub returns : goal.returns
returns c = c.to_ascii_lowercase.ensures.value ∙ lower_is c.args.byte
