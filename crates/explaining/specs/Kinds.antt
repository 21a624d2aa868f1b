-- The kind of each line of the last paragraph: document 01, "The last paragraph". That the kinds are counted as t and n are is
-- proved (proofs/Counted, kinds_counted).
use Rattle.std.specs.Prelude.{Bool, true, false, List, [], ◌∷◌, ℕ, ◌+◌, if◌then◌else◌}
use Rattle.rules.specs.Lines.{Line, indented}
use Rattle.rules.specs.Paragraph.{recognised}
use Rattle.rules.specs.Trailer.{trailer_line}
use Rattle.explaining.specs.declared.LineKind.{LineKind}

-- "it counts for nothing if the nearest line above it in the paragraph that isn't indented is of the first two kinds"
-- (`below`), "and otherwise as another line"
abbrev pub kind_of_indented : Bool → LineKind
kind_of_indented true = LineKind.Forgiven
kind_of_indented false = LineKind.NotForgiven

-- "Each line is one of: recognised [..]; trailer line, where not recognised; indented [..]; another line"
abbrev pub kind_of : Line → Bool → LineKind
kind_of l below =
    if recognised l then LineKind.Recognised
    else if trailer_line l then LineKind.Trailer
    else if indented l then kind_of_indented below
    else LineKind.Other

-- whether an indented line directly under one of this kind has such a line above it
abbrev pub forgives : LineKind → Bool
forgives LineKind.Recognised = true
forgives LineKind.Trailer = true
forgives LineKind.Forgiven = true
forgives LineKind.NotForgiven = false
forgives LineKind.Other = false

abbrev pub kinds : Bool → List Line → List LineKind
kinds below [] = []
kinds below (l ∷ ls) = kind_of l below ∷ kinds (forgives (kind_of l below)) ls

-- what the kinds count for: t, and n
abbrev pub leading : LineKind → ℕ
leading LineKind.Recognised = 1
leading LineKind.Trailer = 1
leading LineKind.Forgiven = 0
leading LineKind.NotForgiven = 0
leading LineKind.Other = 0

abbrev pub others : LineKind → ℕ
others LineKind.Recognised = 0
others LineKind.Trailer = 0
others LineKind.Forgiven = 0
others LineKind.NotForgiven = 1
others LineKind.Other = 1

abbrev pub sum : (LineKind → ℕ) → List LineKind → ℕ
sum f [] = 0
sum f (k ∷ ks) = f k + sum f ks
