-- `white::white_space` meets its contract: the table of the code is the list of the rules, entry by entry. Assumes nothing.
use mathlib.Core.Path.{refl}
use Rattle.rules.specs.White.{white_space}
use Rattle.white.proofs.white_space.Goals as goal

pub returns : goal.returns
unfolding white_space
returns c = refl
