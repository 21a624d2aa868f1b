-- Document 01's example of the lister, and further ones: rows of a single table. One theorem holds of all of them (proofs/Examples,
-- cases). In a buffer `.` is a byte that was there before.
use Rattle.std.specs.Prelude.{List, [], ◌∷◌, ℕ, length}
use Prim.Native.String.{String}
use Rattle.rules.specs.Answers.{Said, says}
use Rattle.rules.specs.Bytes.{bytes}
use Rattle.screen.specs.Answers.{listing_answer, listing_buffer}

-- a message and a buffer; what is said, and the buffer afterwards
pub data Row : Type 0 where
  row : String → String → Said → String → Row

abbrev pub wanted : Row → Said × List ℕ
wanted (row m out said after) = (said, bytes after)

abbrev pub ruled : Row → Said × List ℕ
ruled (row m out said after) = (listing_answer (bytes m) (length (bytes out)), listing_buffer (bytes m) (bytes out))

unfoldable pub table : List Row
table =
    -- document 01's, with three bytes to spare
    row "t\n\nx\n\nVehicle: 7\nRecords: 318,\n 22 late\n" "..............................................." (says 0 (44 ∷ []))
    "trailers 2\nVehicle: 7\nRecords: 318, 22 late\n..."
    -- the room that it needs; one byte less, and nothing is written
    ∷ row "t\n\nA: b" "................" (says 0 (16 ∷ [])) "trailers 1\nA: b\n"
    ∷ row "t\n\nA: b" "..............." (says 3 (16 ∷ [])) "..............."
    -- no trailers; white space at a value's ends and between its lines; a space before the colon; an empty value keeps its space
    ∷ row "" "............" (says 0 (11 ∷ [])) "trailers 0\n."
    ∷ row "t\n\nA:\t b \r\n\t\u{b}\n  c\r\nB :" "..........................." (says 0 (22 ∷ [])) "trailers 2\nA: b c\nB: \n....."
    -- two digits
    ∷ row "t\n\nA:\nA:\nA:\nA:\nA:\nA:\nA:\nA:\nA:\nA:\n" "...................................................." (says 0 (52 ∷ []))
    "trailers 10\nA: \nA: \nA: \nA: \nA: \nA: \nA: \nA: \nA: \nA: \n"
    ∷ []
