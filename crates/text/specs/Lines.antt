-- The first line's length, and where the line that ends at a place starts. What they have to do with the lines of an input
-- is proved (proofs/Lines, first_line and last_line).
use Rattle.std.specs.Prelude.{List, [], ◌∷◌, ℕ, ◌-◌, length}
use Rattle.find.specs.Find.{behind_lf}
use Rattle.rules.specs.Lines.{Line}

-- the length of the first line; 0 where there is none
abbrev pub first_length : List Line → ℕ
first_length [] = 0
first_length (l ∷ ls) = length l

-- where the line that ends at `at` starts: the byte before `at` may be that line's own LF
abbrev pub line_start : List ℕ → ℕ → ℕ
line_start s at = behind_lf s (at - 1)
