-- `filter::is_named` meets its contract. Assumes nothing.
use Rattle.filter.proofs.Tokens.{asked_is}
use Rattle.filter.proofs.is_named.Goals as goal

pub returns-then-not-is_empty : goal.returns-then-not-is_empty
returns-then-not-is_empty c = rw (asked_is, ← c.is_empty.ensures, c.if-not-is_empty.true) c.eq_ignore_ascii_case.ensures

pub returns-else-not-is_empty : goal.returns-else-not-is_empty
returns-else-not-is_empty c = rw (asked_is, ← c.is_empty.ensures, c.if-not-is_empty.false)
