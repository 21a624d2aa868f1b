-- The foot of a body: document 02, K6. "Given the last bytes of a body and whether they are all of it, fill K1's table and buffer with
-- the trailers and their distances from the end, equal to the full walk. If they aren't all, the first line is taken as torn and proves
-- nothing; the answer is given exactly when, behind that line, a blank line has a non-blank one somewhere below it. Report how many
-- lines were looked at, counted upward from the last through the blank line above the paragraph, or through the top of a whole body.
-- Refusals: 8, more bytes needed, after 1 and before 4 and 3; given never for a whole body." And K8: "K6 counts upward from the last
-- line, which is 1."
use Rattle.std.specs.Prelude.{Bool, true, false, not, ◌&&◌, ◌||◌, List, [], ◌∷◌, ◌++◌, map, ◌≡◌, ℕ, ◌+◌, ◌<◌, length, drop}
use Rattle.rules.specs.Answers.{Said, says, row, judged, too_long}
use Rattle.rules.specs.Lines.{Line, lines, blank}
use Rattle.rules.specs.Lists.{any, join}
use Rattle.rules.specs.Number.{cursor_at}
use Rattle.rules.specs.Paragraph.{Above, nothing, at_top, under, Body, empty, ended, block_start, grouped_lines, parse, solid}
use Rattle.rules.specs.declared.TrailerRef.{TrailerRef}
use Rattle.listing.specs.Answers.{room_rows}
use Rattle.listing.specs.Listing.{from_end, records_from, tell, values_from}

-- ---- what the last bytes prove

-- "If they aren't all, the first line is taken as torn and proves nothing": the lines that prove something
abbrev pub foot_lines : List ℕ → Bool → List Line
foot_lines tail true = lines tail
foot_lines tail false = drop 1 (lines tail)

-- "a blank line has a non-blank one somewhere below it"
abbrev pub settles : List Line → Bool
settles [] = false
settles (l ∷ ls) = (blank l && any solid ls) || settles ls

-- "the answer is given exactly when, behind that line, a blank line has a non-blank one somewhere below it"; "given never for a whole
-- body"
unfoldable pub foot_enough : List ℕ → Bool → Bool
foot_enough tail whole = whole || settles (foot_lines tail whole)

-- ---- the lines looked at

-- "counted upward from the last through the blank line above the paragraph, or through the top of a whole body"
abbrev pub closing : Above → ℕ
closing nothing = 0
closing (at_top b) = 1
closing (under ls l b) = 1

abbrev pub looked : Body → ℕ
looked (empty bs) = length bs
looked (ended a p bs) = closing a + length (grouped_lines p ++ bs)

abbrev pub foot : List ℕ → Bool → Body
foot tail whole = parse (foot_lines tail whole)

-- ---- the trailers, told from the end

-- the full walk of a body: K1's records from its block's start on, places and numbers told from the end; and their written values
unfoldable pub told_records : List ℕ → List TrailerRef
told_records body = map (tell (from_end (length body) (length (lines body)))) (records_from body (cursor_at body (block_start body)))

unfoldable pub told_values : List ℕ → List ℕ
told_values body = values_from body (cursor_at body (block_start body))

-- that of the lines that prove something. It is the full walk of every body that ends in these bytes (proofs/Tells, foot_tells)
abbrev pub foot_records : List ℕ → Bool → List TrailerRef
foot_records tail whole = told_records (join (foot_lines tail whole))

abbrev pub foot_values : List ℕ → Bool → List ℕ
foot_values tail whole = told_values (join (foot_lines tail whole))

-- ---- the answer

-- the records, the bytes of the buffer, the lines looked at; into a table with so many rooms and a buffer with so much room
abbrev pub foot_answer : List ℕ → Bool → ℕ → ℕ → Said
foot_answer tail whole rooms room =
    judged
    (too_long (tail ∷ []) ∷ row (not (foot_enough tail whole)) (says 8 [])
    ∷ room_rows (length (foot_records tail whole)) (length (foot_values tail whole)) rooms room)
    (says 0 (length (foot_records tail whole) ∷ length (foot_values tail whole) ∷ looked (foot tail whole) ∷ []))

-- ---- "equal to the full walk": what the last bytes tell is what the body tells

pub record Tells (tail : List ℕ) (whole : Bool) (body : List ℕ) : Type 0 where
  pub same_records : foot_records tail whole ≡ told_records body
  pub same_values : foot_values tail whole ≡ told_values body
  pub same_looked : looked (foot tail whole) ≡ looked (parse (lines body))

-- ---- "numbers rise strictly along the walk, and in K6 fall": each number is less than the one before it, the first less than n

abbrev pub Falls : ℕ → List ℕ → Type 0
Falls n [] = Unit {0}
Falls n (k ∷ ks) = (k < n) × Falls k ks
