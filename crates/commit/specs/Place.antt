-- Where a content without a good header is refused, said by the grammar alone: document 02, K13, "Refusals".
use Rattle.std.specs.Prelude.{List, [], ◌∷◌, ◌++◌, ◌≡◌, ℕ, ◌-◌}
use Rattle.rules.specs.Lines.{Line, lines, LineStart}
use Rattle.rules.specs.Lists.{join}
use Rattle.commit.specs.Grammar.{HeaderLine, Good, counts}

-- a good header is possible after these lines: they end in LF, and some bytes behind them make a good content
pub record Viable (ls : List Line) : Type 0 where
  pub ended : LineStart (join ls)
  pub behind : List ℕ
  pub header : List HeaderLine
  pub message : List ℕ
  pub good : Good (join ls ++ behind) header message

-- "the number of the first line after which no good header is possible"; "a line without LF is bad at its own number"; "a header
-- whose lines all end in LF but that lacks its empty line is refused at the line after its last"
pub data Fault (before : List Line) : List Line → ℕ → Type 0 where
  line : {l : Line} {after : List Line} → (Viable (before ++ l ∷ []) → ⊥) → Fault before (l ∷ after) (counts (before ++ l ∷ []) 0 - 1)
  end : Fault before [] (counts before 0)

-- no header of the content is good, and this is the refusal's number: up to its line a good one is possible
pub record Refusal (content : List ℕ) (number : ℕ) : Type 0 where
  pub none : (header : List HeaderLine) (message : List ℕ) → Good content header message → ⊥
  pub before : List Line
  pub after : List Line
  pub splits : lines content ≡ before ++ after
  pub viable : Viable before
  pub fault : Fault before after number

-- header and message, or the number of the line at fault
pub data Answer : Type 0 where
  accepted : List HeaderLine → List ℕ → Answer
  refused : ℕ → Answer

-- what an answer says of a content
pub data Says (content : List ℕ) : Answer → Type 0 where
  good : {header : List HeaderLine} {message : List ℕ} → Good content header message → Says content (accepted header message)
  none : {number : ℕ} → Refusal content number → Says content (refused number)
