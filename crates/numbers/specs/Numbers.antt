-- How an answer crosses to C and Rust, where only numbers and slices can: its number is returned as a code, and its values
-- are written to a lent slice `result`, behind an entry that says how many they are. What the answers are is said elsewhere
-- (crates/rules/specs/Answers, crates/message/specs); the code 255, and 254 of crates/exports/specs/ByKind, are added here.
use Rattle.std.specs.Prelude.{Bool, List, [], ◌∷◌, ◌++◌, ℕ, suc, ltb, length, drop, if◌then◌else◌}
use Rattle.rules.specs.Answers.{Said, number, values}

-- Every call asks for a `result` of sixteen entries: one for how many values there are, and fifteen, since no answer has more.
abbrev pub result_length : ℕ
result_length = 16

abbrev pub short : List ℕ → Bool
short result = ltb (length result) result_length

-- the code: 255 where `result` is too short, otherwise the answer's number
abbrev pub code_of : Said → List ℕ → ℕ
code_of said result = if short result then 255 else number said

-- what is in `result` then: where it is too short, what was in it; otherwise how many values there are, the values, and
-- behind them what was there
abbrev pub result_of : Said → List ℕ → List ℕ
result_of said result =
    if short result then result
    else length (values said) ∷ (values said ++ drop (suc (length (values said))) result)

-- what is in the buffer then: where `result` is too short, what was in it; otherwise what the call leaves there
abbrev pub buffer_of : List ℕ → List ℕ → List ℕ → List ℕ
buffer_of left buffer result = if short result then buffer else left
