-- The worked examples of K13 hold of its rules, and so do the further ones. Assumes nothing.
use mathlib.Core.List.{map}
use mathlib.Core.Path.{◌≡◌, refl}
use Rattle.commit.specs.Examples.{ruled, wanted, table, others}
use Rattle.commit.specs.Grammar.{name_byte, four, hex_digit}
use Rattle.commit.specs.Reader.{identifier, commit}

pub cases : map ruled table ≡ map wanted table
unfolding table commit four identifier hex_digit name_byte
cases = refl

pub other_cases : map ruled others ≡ map wanted others
unfolding others commit four identifier hex_digit name_byte
other_cases = refl
