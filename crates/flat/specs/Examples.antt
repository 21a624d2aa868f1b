-- The worked examples of K1, and further ones, as rows of a single table. One theorem holds of all of them (proofs/Examples, cases).
use Rattle.std.specs.Prelude.{List, [], ◌∷◌, map, ℕ, replicate}
use Prim.Native.String.{String}
use Rattle.rules.specs.Answers.{Said, says}
use Rattle.rules.specs.Bytes.{bytes}
use Rattle.rules.specs.Number.{cursor_at}
use Rattle.divider.specs.declared.Reading.{Reading}
use Rattle.planning.specs.Scopes.{scope_answer, scope_buffer, scope_table}
use Rattle.rules.specs.Record.{part}
use Rattle.rules.specs.declared.Ending.{Ending}
use Rattle.rules.specs.declared.TrailerRef.{TrailerRef}
use Rattle.rules.specs.declared.Value.{Value}
use Rattle.planning.specs.declared.Scope.{Scope}
use Rattle.flat.specs.Flat.{numbers_of}

-- what stands where no record is
abbrev pub blank : TrailerRef
blank = record { token = part 0 0; value = Value.InInput (part 0 0); ending = Ending.None; line = 0 }

-- what is listed, the rooms of a table of blank records and the room of a buffer of dots; what is said, the table's records as numbers, and
-- the buffer: of an input from a place on, or of a message in a reading
pub data Row : Type 0 where
  lists : String → ℕ → ℕ → ℕ → Said → List (List ℕ) → String → Row
  message : String → Reading → ℕ → ℕ → Said → List (List ℕ) → String → Row

pub data Left : Type 0 where
  left : Said → List (List ℕ) → List ℕ → Left

abbrev pub wanted : Row → Left
wanted (lists text at rooms room said records buffer) = left said records (bytes buffer)
wanted (message text reading rooms room said records buffer) = left said records (bytes buffer)

-- what the statements say
abbrev pub listed : List ℕ → Scope → ℕ → ℕ → Left
listed input w rooms room =
    left (scope_answer input w rooms room)
    (map numbers_of (scope_table input w room (replicate rooms blank)))
    (scope_buffer input w rooms (replicate room 46))

abbrev pub stated : Row → Left
stated (lists text at rooms room said records buffer) = listed (bytes text) (Scope.From (cursor_at (bytes text) at)) rooms room
stated (message text reading rooms room said records buffer) = listed (bytes text) (Scope.Message reading) rooms room

abbrev pub kept : List ℕ
kept = 0 ∷ 0 ∷ 0 ∷ 0 ∷ 0 ∷ 3 ∷ 0 ∷ []

-- the token's range, the value's place (0 for the input or 1 for the buffer, its start and its end), the ending (0 LF, 1 CR LF, 2 a CR
-- alone, 3 none), the line
unfoldable pub table : List Row
table =
    -- K1.1: one behind another; the place counts from the buffer's own front; what is behind stays
    lists "A: b\nB: c\n d\nC:\n e\n f" 0 4 8 (says 0 (3 ∷ 6 ∷ []))
    ((0 ∷ 1 ∷ 0 ∷ 3 ∷ 4 ∷ 0 ∷ 1 ∷ []) ∷ (5 ∷ 6 ∷ 1 ∷ 0 ∷ 3 ∷ 0 ∷ 2 ∷ []) ∷ (13 ∷ 14 ∷ 1 ∷ 3 ∷ 6 ∷ 3 ∷ 4 ∷ []) ∷ kept ∷ []) "c de f.."
    -- K1.2: both too short: 4 before 3, and both counts
    ∷ lists "A: b\nB: c\n d\nC:\n e\n f" 0 2 5 (says 4 (3 ∷ 6 ∷ [])) (kept ∷ kept ∷ []) "....."
    -- K1.3: 3 also gives both counts; nothing is written, not even what would fit
    ∷ lists "A: b\nB: c\n d\nC:\n e\n f" 0 3 5 (says 3 (3 ∷ 6 ∷ [])) (kept ∷ kept ∷ kept ∷ []) "....."
    -- K1.4: 2 before 4
    ∷ lists "A: b\n" 6 0 0 (says 2 []) [] ""
    -- K1.5: no trailers: an ordinary answer, no table needed
    ∷ lists "x" 1 0 0 (says 0 (0 ∷ 0 ∷ [])) [] ""
    -- K1.6: places and numbers count in the message
    ∷ message "t\n\nx\n\nVehicle: 7\nRecords: 318,\n 22 late\n" Reading.Whole 2 12 (says 0 (2 ∷ 12 ∷ []))
    ((6 ∷ 13 ∷ 0 ∷ 15 ∷ 16 ∷ 0 ∷ 5 ∷ []) ∷ (17 ∷ 24 ∷ 1 ∷ 0 ∷ 12 ∷ 0 ∷ 6 ∷ []) ∷ []) "318, 22 late"
    -- a folded value that unfolds to nothing is the empty part at the used length
    ∷ lists "A:b\n c\nB:\n \u{b}\nC: d" 0 3 3 (says 0 (3 ∷ 3 ∷ []))
    ((0 ∷ 1 ∷ 1 ∷ 0 ∷ 3 ∷ 0 ∷ 1 ∷ []) ∷ (7 ∷ 8 ∷ 1 ∷ 3 ∷ 3 ∷ 0 ∷ 3 ∷ []) ∷ (13 ∷ 14 ∷ 0 ∷ 16 ∷ 17 ∷ 3 ∷ 5 ∷ []) ∷ []) "b c"
    -- in the second reading the message ends above its divider; in the first its last paragraph is below it
    ∷ message "t\n\nA: b\n---\n\nB: c" Reading.AboveDivider 1 0 (says 0 (1 ∷ 0 ∷ [])) ((3 ∷ 4 ∷ 0 ∷ 6 ∷ 7 ∷ 0 ∷ 3 ∷ []) ∷ []) ""
    ∷ message "t\n\nA: b\n---\n\nB: c" Reading.Whole 1 0 (says 0 (1 ∷ 0 ∷ [])) ((13 ∷ 14 ∷ 0 ∷ 16 ∷ 17 ∷ 3 ∷ 6 ∷ []) ∷ []) ""
    ∷ []
