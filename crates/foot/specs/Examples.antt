-- The worked examples of K6, and further ones, as rows of tables. One theorem holds of all of a table (proofs/Examples, cases and refused_differ).
use Rattle.std.specs.Prelude.{Bool, true, false, List, [], ◌∷◌, ◌++◌, map, ℕ, eqb, if◌then◌else◌}
use Prim.Native.String.{String}
use Rattle.rules.specs.Answers.{Said, says, ending_says, number, trailer_says}
use Rattle.rules.specs.Bytes.{bytes}
use Rattle.rules.specs.declared.TrailerRef.{TrailerRef}
use Rattle.foot.specs.Foot.{foot_answer, foot_enough, foot_records, foot_values, told_records}

-- the last bytes, whether they are all, the rooms of the table and the room of the buffer; what is said, the records as numbers, and what
-- is written; a refusal has none
pub data Row : Type 0 where
  tells : String → Bool → ℕ → ℕ → Said → List (List ℕ) → String → Row

pub data Answer : Type 0 where
  answer : Said → List (List ℕ) → List ℕ → Answer

abbrev pub wanted : Row → Answer
wanted (tells text whole rooms room said records written) = answer said records (bytes written)

-- the token's range, the value's place (0 for the input or 1 for the buffer, its start and its end), the ending (0 LF, 1 CR LF, 2 a CR
-- alone, 3 none), the line
abbrev pub shows : TrailerRef → List ℕ
shows r = trailer_says r ++ (ending_says r.ending ∷ r.line ∷ [])

abbrev pub given : {A : Type 0} → Said → List A → List A
given said xs = if eqb (number said) 0 then xs else []

abbrev pub stated : Row → Answer
stated (tells text whole rooms room said records written) =
    answer (foot_answer (bytes text) whole rooms room)
    (given (foot_answer (bytes text) whole rooms room) (map shows (foot_records (bytes text) whole)))
    (given (foot_answer (bytes text) whole rooms room) (foot_values (bytes text) whole))

unfoldable pub table : List Row
table =
    -- K6.1: the blank line right behind the torn line is enough
    tells "x\n\nA: b" false 1 0 (says 0 (1 ∷ 0 ∷ 2 ∷ [])) ((4 ∷ 3 ∷ 0 ∷ 1 ∷ 0 ∷ 3 ∷ 1 ∷ []) ∷ []) ""
    -- K6.2: the first line is torn: it may be the end of `x` and LF
    ∷ tells "\nA: b" false 1 0 (says 8 []) [] ""
    -- K6.3: the same bytes, all of the body
    ∷ tells "\nA: b" true 1 0 (says 0 (1 ∷ 0 ∷ 2 ∷ [])) ((4 ∷ 3 ∷ 0 ∷ 1 ∷ 0 ∷ 3 ∷ 1 ∷ []) ∷ []) ""
    -- K6.4: trailing blank lines count, for the number too
    ∷ tells "x\n\nA: b\n\n \n" false 1 0 (says 0 (1 ∷ 0 ∷ 4 ∷ [])) ((8 ∷ 7 ∷ 0 ∷ 5 ∷ 4 ∷ 0 ∷ 3 ∷ []) ∷ []) ""
    -- K6.5: no non-blank line below a blank one
    ∷ tells "x\n\n\n" false 0 0 (says 8 []) [] ""
    -- K6.6: 4 before 3, both counts
    ∷ tells "x\n\nA: b\n c\nB: d\n" false 1 0 (says 4 (2 ∷ 3 ∷ [])) [] ""
    -- the same with room: a folded value is in the buffer, and its place counts from the front; numbers fall
    ∷ tells "x\n\nA: b\n c\nB: d\n" false 2 3 (says 0 (2 ∷ 3 ∷ 4 ∷ []))
    ((13 ∷ 12 ∷ 1 ∷ 0 ∷ 3 ∷ 0 ∷ 3 ∷ []) ∷ (5 ∷ 4 ∷ 0 ∷ 2 ∷ 1 ∷ 0 ∷ 1 ∷ []) ∷ []) "b c"
    -- 8 before 4
    ∷ tells "A: b" false 0 0 (says 8 []) [] ""
    -- a whole body without a blank line: looked at through its top
    ∷ tells "A: b\n\n" true 1 0 (says 0 (1 ∷ 0 ∷ 2 ∷ [])) ((6 ∷ 5 ∷ 0 ∷ 3 ∷ 2 ∷ 0 ∷ 2 ∷ []) ∷ []) ""
    -- a paragraph that is no block is looked through all the same
    ∷ tells "x\n\nA: b\ny" false 0 0 (says 0 (0 ∷ 0 ∷ 3 ∷ [])) [] ""
    -- no line, and blank lines alone, of a whole body
    ∷ tells "" true 0 0 (says 0 (0 ∷ 0 ∷ 0 ∷ [])) [] ""
    ∷ tells "\n \n" true 0 0 (says 0 (0 ∷ 0 ∷ 2 ∷ [])) [] ""
    ∷ []

-- ---- last bytes that are refused, and two fronts with which the bodies tell different trailers: each a token's distance from the end
-- and its number

pub data Open : Type 0 where
  opens : String → String → String → List (List ℕ) → List (List ℕ) → Open

pub data Bodies : Type 0 where
  bodies : Bool → List (List ℕ) → List (List ℕ) → Bodies

abbrev pub wanted_of : Open → Bodies
wanted_of (opens tail one two s t) = bodies false s t

abbrev pub trailers : List ℕ → List (List ℕ)
trailers body = map (λ (r : TrailerRef). r.token.start ∷ r.line ∷ []) (told_records body)

abbrev pub stated_of : Open → Bodies
stated_of (opens tail one two s t) =
    bodies (foot_enough (bytes tail) false) (trailers (bytes one ++ bytes tail)) (trailers (bytes two ++ bytes tail))

unfoldable pub refusals : List Open
refusals =
    -- the blank line above the paragraph may be the end of a line
    opens "\nA: b" "" "x" ((4 ∷ 1 ∷ []) ∷ []) []
    -- no blank line above it
    ∷ opens "A: b" "" "x\n" ((4 ∷ 1 ∷ []) ∷ []) []
    -- the torn line may be a trailer
    ∷ opens "x\nA: b\n" "B: " "" ((10 ∷ 2 ∷ []) ∷ (5 ∷ 1 ∷ []) ∷ []) []
    -- no non-blank line behind the torn one
    ∷ opens "x\n\n\n" "A: " "" ((7 ∷ 3 ∷ []) ∷ []) []
    -- no non-blank line at all
    ∷ opens "\n\n" "A: b" "x" ((6 ∷ 2 ∷ []) ∷ []) []
    -- nothing
    ∷ opens "" "A: b" "x" ((4 ∷ 1 ∷ []) ∷ []) []
    ∷ []
