-- `header::is_hex_digit` meets its contract. Assumes nothing.
use mathlib.Core.Path.{refl}
use Rattle.commit.specs.Grammar.{hex_digit}
use Rattle.header.proofs.is_hex_digit.Goals as goal

pub returns : goal.returns
unfolding hex_digit
returns c = refl
