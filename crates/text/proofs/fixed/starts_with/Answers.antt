-- `text::fixed::starts_with` meets its contract. Assumes nothing.
use mathlib.Core.Path.{◌∙◌}
use Rattle.text.proofs.Equal.{starts_is}
use Rattle.text.proofs.fixed.starts_with.Goals as goal

pub returns : goal.returns
returns c = c.starts_with.ensures.value ∙ starts_is c.args.p.now c.args.s.now
