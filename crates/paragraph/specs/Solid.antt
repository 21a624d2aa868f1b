-- The blank bytes at a body's end, and the blank lines.
use Rattle.std.specs.Prelude.{true, false, List, ◌++◌, ◌≡◌, ℕ, ◌-◌, ◌≤◌, ◌<◌, length, take, drop}
use Rattle.rules.specs.Bytes.{blank_byte}
use Rattle.rules.specs.Lines.{lines}
use Rattle.rules.specs.Lists.{all}

-- how long a body is without the blank bytes at its end: all behind is blank, and no shorter length would do
abbrev pub SolidLen : List ℕ → ℕ → Type 0
SolidLen body n = (n ≤ length body) × (all blank_byte (drop n body) ≡ true) × (0 < n → all blank_byte (drop (n - 1) body) ≡ false)

-- a line starts at `n`, or the body ends there
abbrev pub Cut : List ℕ → ℕ → Type 0
Cut body n = lines body ≡ lines (take n body) ++ lines (drop n body)

-- and all from there on is blank
abbrev pub BlankFrom : List ℕ → ℕ → Type 0
BlankFrom body n = (n ≤ length body) × Cut body n × (all blank_byte (drop n body) ≡ true)
