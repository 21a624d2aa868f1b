-- A list written over another, from a place on.
use Rattle.std.specs.Prelude.{List, ◌++◌, ℕ, ◌+◌, length, take, drop}

-- w over d, from i on; the rest of d stays
abbrev pub onto : {A : Type 0} → ℕ → List A → List A → List A
onto i w d = take i d ++ (w ++ drop (i + length w) d)
