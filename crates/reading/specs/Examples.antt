-- The worked examples of K7, and further ones, as rows of a single table. One theorem holds of all of them (proofs/Examples, cases).
use Rattle.std.specs.Prelude.{List, [], ◌∷◌, ◌++◌, ℕ, replicate}
use Prim.Native.String.{String}
use Rattle.rules.specs.Answers.{Said, says}
use Rattle.rules.specs.Bytes.{bytes}
use Rattle.divider.specs.Readings.{end_answer, in_reading}
use Rattle.divider.specs.declared.Reading.{Reading}
use Rattle.message.specs.Decode.{title_answer}
use Rattle.message.specs.Message.{walk_answer}

pub data Row : Type 0 where
  -- a message, and where it ends in the second reading
  ends : String → ℕ → Row
  -- a message, and where the walk of its trailers begins in a reading, with the line's number
  walks : String → Reading → ℕ → ℕ → Row
  -- a message, and what is said of its title and body in the second reading
  titled : String → List ℕ → Row

abbrev pub wanted : Row → Said
wanted (ends message end) = says 0 (end ∷ [])
wanted (walks message reading at line) = says 0 (at ∷ line ∷ [])
wanted (titled message values) = says 0 values

-- what the statements say
abbrev pub stated : Row → Said
stated (ends message end) = end_answer Reading.AboveDivider (bytes message)
stated (walks message reading at line) = in_reading reading walk_answer (bytes message)
stated (titled message values) = in_reading Reading.AboveDivider title_answer (bytes message)

unfoldable pub table : List Row
table =
    -- K7.1 to K7.5
    ends "t\n\nA: b\n---\nx" 8
    ∷ ends "t\n---" 2
    ∷ ends "t\n---\t\n" 7
    ∷ ends "t\n---\r\n" 2
    ∷ walks "t\n\nx\n---\n\nA: b" Reading.AboveDivider 5 4
    ∷ walks "t\n\nx\n---\n\nA: b" Reading.Whole 8 4
    -- a divider may be the first line, or stand in the title; of two it is the first; behind a space anything may follow; a lone CR ends
    -- the last line's text
    ∷ ends "---\nA: b" 0
    ∷ titled "t\n--- \n\nA: b" (2 ∷ [])
    ∷ ends "a\n--- b\n---\n" 2
    ∷ ends "a\n---\r" 2
    -- no dividers: one CR at most goes; four hyphens; a hyphen less; an indented one; a form feed behind
    ∷ ends "a\n---\r\r\n" 8
    ∷ ends "----\n" 5
    ∷ ends "--\n" 3
    ∷ ends " ---\n" 5
    ∷ ends "---\u{c}\n" 5
    -- whoever walks on by steps hands on the message up to its end: of the uncut one they would find `B` too
    ∷ ends "t\n\nA: b\n---\nB: c" 8
    ∷ walks "t\n\nA: b\n---\nB: c" Reading.AboveDivider 3 3
    ∷ []

-- K7.6: a divider and so many bytes below it; with 1,048,573 of them the message is one byte over the limit, and its cut is empty
unfoldable pub padded : ℕ → List ℕ
padded n = bytes "---\n" ++ replicate n 120
