-- `adding::is_value` meets its contract. Assumes nothing.
use mathlib.Core.Path.{sym}
use Rattle.adding.proofs.Tests.{has_lf, value_is}
use Rattle.adding.proofs.is_value.Goals as goal

pub returns-then-find_lf-value : goal.returns-then-find_lf-value
returns-then-find_lf-value c = sym (has_lf _ _ c.find_lf.ensures c.if-find_lf-value.true)

pub returns : goal.returns
returns c = value_is _ _ _ _ c.find_lf.ensures c.if-find_lf-value.false c.trim-part.ensures
