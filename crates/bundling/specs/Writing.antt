-- Writing a bundle: document 02, K11. "the messages to write are lent as ranges of one input." The ranges are numbers, start and
-- end in turn (a fill-in: document 02 doesn't say how they are lent).
use Rattle.std.specs.Prelude.{Bool, true, false, ◌&&◌, List, [], ◌∷◌, ℕ, ◌-◌, take, drop}
use Rattle.rules.specs.Answers.{range_fits}

-- the messages that the ranges lend
abbrev pub lent : List ℕ → List ℕ → List (List ℕ)
lent input [] = []
lent input (start ∷ []) = []
lent input (start ∷ end ∷ rs) = take (end - start) (drop start input) ∷ lent input rs

-- every range fits; a last start without an end does not
abbrev pub ranges_fit : List ℕ → List ℕ → Bool
ranges_fit input [] = true
ranges_fit input (start ∷ []) = false
ranges_fit input (start ∷ end ∷ rs) = range_fits start end input && ranges_fit input rs
