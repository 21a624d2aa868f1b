-- Worked examples of the calls on a body, rows of a single table. One theorem holds of all of them (proofs/Examples, cases).
use Rattle.std.specs.Prelude.{List, [], ◌∷◌, ℕ}
use Prim.Native.String.{String}
use Rattle.rules.specs.Answers.{Said, says, ending_says}
use Rattle.rules.specs.Bytes.{bytes}
use Rattle.rules.specs.Lines.{ending, text}
use Rattle.rules.specs.Number.{cursor_at}
use Rattle.rules.specs.declared.Kind.{Kind}
use Rattle.body.specs.Body.{find_answer, start_answer, step_answer}

pub data Row : Type 0 where
  -- a name, the body that it is looked up in, the room, and what is said
  looked : String → String → ℕ → Said → Row
  -- a body, the place and the room of a step on it from the right cursor, and what is said
  stepped : String → ℕ → ℕ → Said → Row
  -- a body, a cursor's place and number, and what is said of a step on it
  numbered : String → ℕ → ℕ → Said → Row
  -- a body whose block start is asked for, and what is said
  started : String → Said → Row
  -- a line, its text, and the number of its ending
  lined : String → String → ℕ → Row

abbrev pub wanted : Row → Said
wanted (looked name body room said) = said
wanted (stepped body at room said) = said
wanted (numbered body at line said) = said
wanted (started body said) = said
wanted (lined line text how) = says how (bytes text)

-- what the statements say
abbrev pub stated : Row → Said
stated (looked name body room said) = find_answer (bytes body) (bytes name) room
stated (stepped body at room said) = step_answer Kind.All (bytes body) (cursor_at (bytes body) at) room
stated (numbered body at line said) = step_answer Kind.All (bytes body) (record { at = at; line = line }) 0
stated (started body said) = start_answer (bytes body)
stated (lined line t how) = says (ending_says (ending (bytes line))) (text (bytes line))

-- the token's range, the value's place (0 for the input or 1 for the buffer, its start and its end), of a step the next
-- cursor's place, the ending (0 LF, 1 CR LF, 2 a CR alone, 3 none), the line's number, and of a step the next cursor's number
unfoldable pub table : List Row
table =
    -- K4: the last one; one that is not answered is not written, and no room is asked for it; room is asked for the last one; an
    -- empty name is found nowhere
    looked "offload-state" "Offload-state: partial\nOffload-state: complete\n" 0 (says 0 (23 ∷ 36 ∷ 0 ∷ 38 ∷ 46 ∷ 0 ∷ 2 ∷ []))
    ∷ looked "A" "A: 1\n 2\nA: 3" 0 (says 0 (8 ∷ 9 ∷ 0 ∷ 11 ∷ 12 ∷ 3 ∷ 3 ∷ []))
    ∷ looked "a" "A: 1\nA: 2\n 3\n" 2 (says 3 (3 ∷ []))
    ∷ looked "" "A: 1" 0 (says 0 [])
    -- K2: one CR at most goes; a CR alone; no block, yet the last non-blank line's ending; of the last folded line, not of the trailer line; blank lines below don't
    -- count; no such line
    ∷ lined "a\r\r\n" "a\r" 1
    ∷ lined "a\r" "a" 2
    ∷ started "x\r\n" (says 0 (3 ∷ 1 ∷ []))
    ∷ stepped "A: b\r\n c\n" 0 9 (says 0 (0 ∷ 1 ∷ 1 ∷ 0 ∷ 3 ∷ 9 ∷ 0 ∷ 1 ∷ 3 ∷ []))
    ∷ started "A: b\r\n\n \n" (says 0 (0 ∷ 1 ∷ []))
    ∷ started "" (says 0 (0 ∷ 3 ∷ []))
    -- K8: the title's lines and the empty line count (K8.1); a bare body counts from its first line (K8.2); folded lines count (K8.3);
    -- K4's record too (K8.5); at the end the last line's number; a number that belongs to no place is refused
    ∷ stepped "t\n\nA: b\nB: c" 3 0 (says 0 (3 ∷ 4 ∷ 0 ∷ 6 ∷ 7 ∷ 8 ∷ 0 ∷ 3 ∷ 4 ∷ []))
    ∷ stepped "t\n\nA: b\nB: c" 8 0 (says 0 (8 ∷ 9 ∷ 0 ∷ 11 ∷ 12 ∷ 12 ∷ 3 ∷ 4 ∷ 4 ∷ []))
    ∷ stepped "A: b" 0 9 (says 0 (0 ∷ 1 ∷ 0 ∷ 3 ∷ 4 ∷ 4 ∷ 3 ∷ 1 ∷ 1 ∷ []))
    ∷ stepped "\nA: b\n c\n d\nB: e" 0 5 (says 0 (1 ∷ 2 ∷ 1 ∷ 0 ∷ 5 ∷ 12 ∷ 0 ∷ 2 ∷ 5 ∷ []))
    ∷ stepped "\nA: b\n c\n d\nB: e" 12 5 (says 0 (12 ∷ 13 ∷ 0 ∷ 15 ∷ 16 ∷ 16 ∷ 3 ∷ 5 ∷ 5 ∷ []))
    ∷ looked "a" "A: 1\nB: 2\nA: 3" 0 (says 0 (10 ∷ 11 ∷ 0 ∷ 13 ∷ 14 ∷ 3 ∷ 3 ∷ []))
    ∷ stepped "A: b\n\n" 5 0 (says 0 (6 ∷ 3 ∷ []))
    ∷ numbered "A: b\n" 0 0 (says 2 [])
    ∷ numbered "A: b\n" 0 2 (says 2 [])
    ∷ numbered "A: b\n" 5 6 (says 0 (5 ∷ 6 ∷ []))
    ∷ []
