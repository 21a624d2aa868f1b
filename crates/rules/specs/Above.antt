-- Nothing above reaches down: document 02, K12. "The course says that text above the last paragraph can't change the trailers.
-- Show it: if two bodies end in the same bytes, those bytes start at a line start in both, their first line is blank, and a
-- later line of them is not, then both have the same trailers at the same distances from the end. Block starts may differ, and
-- so may K8's numbers." That it holds is proofs/Above, nothing_reaches_down.
use Rattle.std.specs.Prelude.{List, [], ◌∷◌, ◌++◌, map, ◌≡◌, ℕ, ◌-◌, T, length}
use Rattle.rules.specs.Lines.{Line, LineStart, blank}
use Rattle.rules.specs.Lists.{any}
use Rattle.rules.specs.Paragraph.{solid, trailers_of}
use Rattle.rules.specs.Trailer.{Trailer, trailer}

-- the body ends in the bytes `foot`, and "those bytes start at a line start" in it
pub record EndsIn (body foot : List ℕ) : Type 0 where
  pub above : List ℕ
  pub read : body ≡ above ++ foot
  pub line_start : LineStart above

-- "their first line is blank, and a later line of them is not"
abbrev pub BlankThenNot : List Line → Type 0
BlankThenNot [] = ⊥
BlankThenNot (l ∷ ls) = T (blank l) × T (any solid ls)

-- a trailer by its distance from the end, its line and the lines under it: these hold its token and its raw value
pub data Told : Type 0 where
  told : ℕ → Line → List Line → Told

abbrev pub from_end : List ℕ → Trailer → Told
from_end body (trailer at l js) = told (length body - at) l js

-- "both have the same trailers at the same distances from the end"
abbrev pub SameTrailers : List ℕ → List ℕ → Type 0
SameTrailers one two = map (from_end one) (trailers_of one) ≡ map (from_end two) (trailers_of two)
