-- The answers of the walk by kind of token and by name, by places.
use Rattle.std.specs.Prelude.{Bool, List, [], ◌∷◌, ◌≡◌, ℕ, Option, None, Some}
use Rattle.rules.specs.Trailer.{Trailer}
use Rattle.trailer.specs.Walk.{next_of}
use Rattle.rules.specs.declared.Places.{Places}

-- of a lookup
abbrev pub looked_up : Option Trailer → Option Places
looked_up None = None
looked_up (Some t) = next_of (t ∷ [])

-- what a call answers of a token is whether it passes
abbrev pub Computes : (List ℕ → Bool → Type 0) → (List ℕ → Bool) → Type 0
Computes post passes = (token : List ℕ) (answer : Bool) → post token answer → answer ≡ passes token
