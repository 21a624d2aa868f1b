-- The length of a value that is unfolded line by line.
use Rattle.std.specs.Prelude.{ℕ, ◌+◌, eqb, if◌then◌else◌}

-- of two pieces joined by one space, an empty one dropped
abbrev pub joined_length : ℕ → ℕ → ℕ
joined_length len more = if eqb more 0 then len else if eqb len 0 then more else len + 1 + more
