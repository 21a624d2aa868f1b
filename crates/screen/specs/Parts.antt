-- For the parts of the call: a trailer's line by its places, and what the lines from a place on need.
use Rattle.std.specs.Prelude.{List, [], ◌∷◌, ◌++◌, ℕ, ◌-◌, ◌≤◌, ◌<◌, length, take, drop}
use Rattle.rules.specs.Bytes.{LF, bytes}
use Rattle.rules.specs.Trailer.{unfolded, walk_from}
use Rattle.rules.specs.declared.Places.{Places}
use Rattle.screen.specs.Listing.{line_of, lines_of}
use Rattle.screen.specs.declared.Sizes.{Sizes}

-- the places are in order, and in the message
abbrev pub Fits : List ℕ → Places → Type 0
Fits message at =
    (at.start ≤ at.token_end) × (at.token_end < at.value_start) × (at.value_start ≤ at.end) × (at.end ≤ length message)

-- a line's two halves
abbrev pub name_of : List ℕ → List ℕ
name_of token = token ++ bytes ": "

abbrev pub value_line : List ℕ → List ℕ
value_line raw = unfolded raw ++ (LF ∷ [])

abbrev pub between : List ℕ → ℕ → ℕ → List ℕ
between message from to = take (to - from) (drop from message)

abbrev pub line_at : List ℕ → Places → List ℕ
line_at message at = line_of (between message at.start at.token_end) (between message at.value_start at.end)

-- the lines of the walk from a place on, how many, and how long together
abbrev pub lines_from : List ℕ → ℕ → List ℕ
lines_from message at = lines_of (walk_from message at)

abbrev pub sizes_from : List ℕ → ℕ → Sizes
sizes_from message at = record { trailers = length (walk_from message at); bytes = length (lines_from message at) }
