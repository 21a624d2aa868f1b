-- What a call that reads a whole message answers in either reading: document 02, K7. "Every answer equals the old reading of the message
-- so cut, shown once for all calls that read a whole message; refusal 1 still judges the message uncut".
use Rattle.std.specs.Prelude.{List, [], ◌∷◌, ℕ, get_or, length, Result, Ok, Err, if◌then◌else◌}
use Rattle.rules.specs.Answers.{Said, says, over, over_limit, said_by}
use Rattle.rules.specs.declared.TooLong.{TooLong}
use Rattle.divider.specs.Divider.{cut}
use Rattle.divider.specs.declared.NoReading.{NoReading}
use Rattle.divider.specs.declared.Reading.{Reading}

-- a reading by its number: 0 is the whole message, 1 the message above its first divider, and no other number is a reading's
abbrev pub reading_of : ℕ → Result Reading NoReading
reading_of number = get_or (Ok Reading.Whole ∷ Ok Reading.AboveDivider ∷ []) number (Err (record {}))

-- the message in a reading. "The first reading stays as the crate has it"
abbrev pub read : Reading → List ℕ → List ℕ
read Reading.Whole message = message
read Reading.AboveDivider message = cut message

-- what a rule gives of the message so read; `refusal` where "the message uncut" is over the limit
abbrev pub in_either : {A : Type 0} → A → Reading → (List ℕ → A) → List ℕ → A
in_either refusal reading rule message = if over_limit message then refusal else rule (read reading message)

-- so of an answer, and of what a call leaves in a lent buffer or table, which a refusal does not change
abbrev pub in_reading : Reading → (List ℕ → Said) → List ℕ → Said
in_reading reading answer message = in_either (says 1 []) reading answer message

abbrev pub left_in : {A : Type 0} → Reading → (List ℕ → List A → List A) → List ℕ → List A → List A
left_in reading leaves message lent = in_either lent reading (λ (s : List ℕ). leaves s lent) message

-- ---- `message_end`: where the message ends

abbrev pub end_found_says : Result ℕ TooLong → Said
end_found_says = said_by (λ end. end ∷ []) over

abbrev pub end_says : List ℕ → Said
end_says message = says 0 (length message ∷ [])

abbrev pub end_answer : Reading → List ℕ → Said
end_answer reading message = in_reading reading end_says message
