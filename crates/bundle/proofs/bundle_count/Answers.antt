-- `bundle::bundle_count` meets its contract. Assumes nothing.
use mathlib.Core.Path.{sym, ◌∙◌}
use native.Mathlib.Omega.{arith}
use Rattle.bundle.proofs.Answers.{counted}
use Rattle.bundle.proofs.Judged.{count_there}
use Rattle.bundle.proofs.bundle_count.Goals as goal

pub read_u32-requires : goal.read_u32-requires
read_u32-requires c = omega (arith, count_there _ (sym c.is_bundle.ensures ∙ c.if-not-is_bundle.false))

pub returns : goal.returns
returns c = counted _ (sym c.within_limit.ensures ∙ c.in_ok-within_limit.was) (sym c.is_bundle.ensures ∙ c.if-not-is_bundle.false) c.read_u32.ensures
