-- `printing::listed` meets its contract: there is room for every listing, so nothing is refused.
use mathlib.Core.Path.{refl}
use native.Mathlib.Omega.{arith}
use Rattle.screen.proofs.Answers.{is_written}
use Rattle.printing.proofs.Enough.{fits}
use Rattle.printing.proofs.listed.Goals as goal

pub unwrap-len-requires : goal.unwrap-len-requires
unwrap-len-requires c =
    let m = c.args.message.now in
    let d = c.args.out.now in
    rw (is_written m d (omega (arith, c.requires.0)) (fits m d c.requires.0 c.requires.1) c.listing_into.result c.listing_into.ensures.result_value) refl
