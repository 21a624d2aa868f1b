-- A message with a space for each LF.
use Rattle.std.specs.Prelude.{List, map, ℕ, eqb, if◌then◌else◌}
use Rattle.rules.specs.Bytes.{LF, space}

abbrev pub space_for_lf : ℕ → ℕ
space_for_lf c = if eqb c LF then space else c

abbrev pub with_spaces : List ℕ → List ℕ
with_spaces s = map space_for_lf s
