-- Where the nearest LF is, forward and backward. What it has to do with lines is proved in crates/text.
use Rattle.std.specs.Prelude.{Bool, not, List, ℕ, zero, suc, eqb, length, get_or, if◌then◌else◌}
use Rattle.rules.specs.Bytes.{LF}
use Rattle.rules.specs.Lists.{run}

abbrev pub is_lf : ℕ → Bool
is_lf c = eqb c LF

abbrev pub other : ℕ → Bool
other c = not (is_lf c)

-- how many bytes stand before the first LF; all of them where there is none
abbrev pub until_lf : List ℕ → ℕ
until_lf s = length (run (λ c. not (is_lf c)) s)

-- behind the nearest LF before `i`; 0 where there is none
unfoldable pub behind_lf : List ℕ → ℕ → ℕ
behind_lf s zero = 0
behind_lf s (suc i) = if is_lf (get_or s i 0) then suc i else behind_lf s i
