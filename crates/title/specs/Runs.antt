-- What the search for the title's end passes over: bytes among which no two line ends stand.
use Rattle.std.specs.Prelude.{Bool, false, ◌&&◌, ◌||◌, List, [], ◌∷◌, ◌≡◌, ℕ, ◌+◌, ◌≤◌, eqb, length, drop}
use Rattle.rules.specs.Bytes.{CR, LF}
use Rattle.rules.specs.Title.{body_start, title_end}

-- `c` ends a line, and a line end may begin with `d`, the byte after it
abbrev pub meets : ℕ → ℕ → Bool
meets c d = eqb c LF && (eqb d LF || eqb d CR)

-- two neighbours are such bytes
abbrev pub any_meets : List ℕ → Bool
any_meets [] = false
any_meets (c ∷ []) = false
any_meets (c ∷ d ∷ s) = meets c d || any_meets (d ∷ s)

-- the first `n` bytes are in the title: it has those and the ones that a title from there on has, and the body starts alike
abbrev pub InTitle : List ℕ → ℕ → Type 0
InTitle s n = (n ≤ length s) × (title_end s ≡ n + title_end (drop n s)) × (body_start s ≡ n + body_start (drop n s))
