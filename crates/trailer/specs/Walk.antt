-- The answer of a step of the trailer walk.
use Rattle.std.specs.Prelude.{List, [], ◌∷◌, ◌≡◌, ℕ, ◌≤◌, ◌<◌, length, IfSome, Option, None, Some}
use Rattle.rules.specs.Record.{places_of}
use Rattle.rules.specs.Trailer.{Trailer, walk_from}
use Rattle.rules.specs.declared.Places.{Places}

-- where the first trailer stands
abbrev pub next_of : List Trailer → Option Places
next_of [] = None
next_of (t ∷ ts) = Some (places_of t)

-- a step of the walk of a body: the first trailer from `at` on, and where the walk goes on after it; none where none is left. Its places lie in
-- order inside of the body
pub record Passes (body : List ℕ) (at : ℕ) (found : Option Places) (after : List ℕ) (next : ℕ) : Type 0 where
  pub stays : after ≡ body
  pub first : found ≡ next_of (walk_from body at)
  pub goes : IfSome found (λ p. next ≡ p.end)
  pub order : IfSome found (λ p. (p.start ≤ p.token_end) × (p.token_end ≤ p.end) × (p.value_start ≤ p.end) × (at < p.end) × (p.end ≤ length body))
