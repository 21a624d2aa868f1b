-- `filter::is_attribution` meets its contract. Assumes nothing.
use Rattle.filter.proofs.Tokens.{attribution_is}
use Rattle.filter.proofs.is_attribution.Goals as goal

pub returns : goal.returns
returns c =
    rw (
      attribution_is c.args.token.now,
      ← c.is_signed_off_by.ensures,
      ← c.is_co_authored_by.ensures,
      ← c.is_assisted_by.ensures,
      ← c.is_acked_by.ensures,
      ← c.is_reviewed_by.ensures,
      ← c.is_tested_by.ensures,
    )
