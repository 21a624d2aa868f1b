-- `adding::is_token` meets its contract. Assumes nothing.
use mathlib.Core.Bool.{not}
use mathlib.Core.Path.{sym, ap, ◌∙◌}
use Rattle.adding.proofs.Tests.{no_token, token_is}
use Rattle.adding.proofs.is_token.Goals as goal

pub returns-then-not-is_empty : goal.returns-then-not-is_empty
returns-then-not-is_empty c = token_is _ _ (sym c.is_empty.ensures ∙ c.if-not-is_empty.true) c.token_end.ensures

pub returns-else-not-is_empty : goal.returns-else-not-is_empty
returns-else-not-is_empty c = ap not c.if-not-is_empty.false ∙ no_token _ (sym c.is_empty.ensures ∙ c.if-not-is_empty.false)
