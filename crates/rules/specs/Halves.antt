-- Folded values joined: document 02, K9. "Two collectors hand over halves of one raw value. We want the rule as a fact: if the
-- first half is empty or ends in LF, unfolding both joined is the two unfolded answers with one space between, or the other one
-- where either is empty." That it holds is proofs/Halves, halves_joined. "is empty or ends in LF" is `LineStart` (Lines).
use Rattle.std.specs.Prelude.{List, [], ◌∷◌, ◌++◌, ℕ}
use Rattle.rules.specs.Bytes.{space}

-- "the two [..] with one space between, or the other one where either is empty"
abbrev pub one_space_between : List ℕ → List ℕ → List ℕ
one_space_between [] b = b
one_space_between (c ∷ a) [] = c ∷ a
one_space_between (c ∷ a) (d ∷ b) = (c ∷ a) ++ space ∷ d ∷ b
