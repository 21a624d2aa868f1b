-- `noting::close` meets its contract: a good count is read as a number.
use mathlib.Core.Path.{◌≡◌, sym, ◌∙◌}
use mathlib.Core.Bool.{true}
use Rattle.closing.specs.Contents.{good_records}
use Rattle.closing.proofs.Contents.{few_digits}
use Rattle.noting.proofs.close.Goals as goal

pub number_of-requires : goal.number_of-requires
number_of-requires g c =
    let good : good_records c.args.count.now ≡ true = sym c.is_good.ensures ∙ c.if-not-is_good.false in
    let few = few_digits c.args.count.now (rw good tt) in
    record { few = few.0; digits = few.1 }
