-- `filter::is_author` meets its contract. Assumes nothing.
use Rattle.filter.proofs.Tokens.{author_is}
use Rattle.filter.proofs.is_author.Goals as goal

pub returns : goal.returns
returns c = rw (author_is c.args.token.now, ← c.is_signed_off_by.ensures, ← c.is_co_authored_by.ensures)
