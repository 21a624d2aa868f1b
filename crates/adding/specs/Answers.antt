-- The answer of `add_trailer`: document 02, K3. "Refusals, in order: 1 for an input; 5, token; 6, value; 7, no non-blank line; 1
-- for the result; 3."
use Rattle.std.specs.Prelude.{not, List, [], ◌∷◌, ℕ, length, Result}
use Rattle.rules.specs.Answers.{Said, Row, row, says, afterwards, judged, no_room, said_by, too_long}
use Rattle.appending.specs.Added.{added, good_token, good_value, has_line}
use Rattle.adding.specs.declared.AddingError.{AddingError}

-- the new message's length
abbrev pub length_values : ℕ → List ℕ
length_values n = n ∷ []

abbrev pub adding_refused : AddingError → Said
adding_refused AddingError.TooLong = says 1 []
adding_refused AddingError.BadToken = says 5 []
adding_refused AddingError.BadValue = says 6 []
adding_refused AddingError.NothingToStandOn = says 7 []
adding_refused (AddingError.NoRoom needed) = says 3 (needed ∷ [])

abbrev pub added_says : Result ℕ AddingError → Said
added_says = said_by length_values adding_refused

-- 5, "token"; 6, "value"; 7, "no non-blank line"
abbrev pub bad_token : List ℕ → Row
bad_token token = row (not (good_token token)) (says 5 [])

abbrev pub bad_value : List ℕ → Row
bad_value value = row (not (good_value value)) (says 6 [])

abbrev pub nothing_to_stand_on : List ℕ → Row
nothing_to_stand_on message = row (not (has_line message)) (says 7 [])

-- of the new message, behind the refusals that its inputs are given
abbrev pub new_answer : List ℕ → ℕ → Said
new_answer new room = judged (too_long (new ∷ []) ∷ no_room (length new) room ∷ []) (says 0 (length new ∷ []))

abbrev pub new_buffer : List ℕ → List ℕ → List ℕ
new_buffer new out = afterwards (new_answer new (length out)) new out

abbrev pub add_answer : List ℕ → List ℕ → List ℕ → ℕ → Said
add_answer message token value room =
    judged (too_long (message ∷ token ∷ value ∷ []) ∷ bad_token token ∷ bad_value value ∷ nothing_to_stand_on message ∷ [])
    (new_answer (added message token value) room)

-- "they too change no lent byte": the new message at the buffer's front, or the buffer as it was
abbrev pub add_buffer : List ℕ → List ℕ → List ℕ → List ℕ → List ℕ
add_buffer message token value out = afterwards (add_answer message token value (length out)) (added message token value) out
