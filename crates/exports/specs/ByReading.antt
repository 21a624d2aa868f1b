-- The calls that take a reading, or whether bytes are all of a body, by a number.
use Rattle.std.specs.Prelude.{Bool, not, List, [], ℕ, Result, Ok, Err, eqb}
use Rattle.rules.specs.Answers.{Said, says}
use Rattle.divider.specs.Readings.{in_reading, left_in}
use Rattle.divider.specs.declared.Reading.{Reading}
use Rattle.divider.specs.declared.NoReading.{NoReading}

-- 253 where the number is no reading's, with no values, and what is lent is as it was
abbrev pub asked_in : Result Reading NoReading → (List ℕ → Said) → List ℕ → Said
asked_in (Ok reading) answer message = in_reading reading answer message
asked_in (Err e) answer message = says 253 []

abbrev pub left_asked : {A : Type 0} → Result Reading NoReading → (List ℕ → List A → List A) → List ℕ → List A → List A
left_asked (Ok reading) leaves message lent = left_in reading leaves message lent
left_asked (Err e) leaves message lent = lent

-- whether last bytes are all of a body: any number but 0 says so
abbrev pub is_whole : ℕ → Bool
is_whole n = not (eqb n 0)
