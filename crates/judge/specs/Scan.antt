-- What the functions answer, said by the grammar and the reader of commit.
use Rattle.std.specs.Prelude.{List, [], ◌∷◌, ◌≡◌, ℕ, suc, ◌+◌, ◌<◌, leb, length, take, drop, Option, Some, None, Result, Ok, Err, if◌then◌else◌}
use Rattle.rules.specs.Lines.{Line, lines}
use Rattle.commit.specs.Answers.{message_start}
use Rattle.commit.specs.Grammar.{HeaderLine, written_all, Good, counted}
use Rattle.commit.specs.Place.{refused}
use Rattle.commit.specs.Reader.{shape, step, commit}
use Rattle.commit.specs.declared.Phase.{Phase}
use Rattle.commit.specs.declared.Turn.{Turn}
use Rattle.judge.specs.declared.BadLine.{BadLine}
use Rattle.judge.specs.declared.Header.{Header}
use Rattle.judge.specs.declared.Turned.{Turned}

-- ---- a line

-- what a line that ends at a place does, and where it ends
abbrev pub turned : ℕ → Option Turn → Option Turned
turned end (Some t) = Some (record { turn = t; end = end })
turned end None = None

-- the line at a place, what it does there, and where it ends
pub record LineTurn (content : List ℕ) (at : ℕ) (phase : Phase) (r : Option Turned) : Type 0 where
  pub line : Line
  pub rest : List Line
  pub splits : lines (drop at content) ≡ line ∷ rest
  pub turns : r ≡ turned (at + length line) (step phase (shape line))

-- ---- where the line of a number begins

-- as far as it is seen: a line begins at a place, n lines being before it; a line behind the one sought changes nothing
abbrev pub begun : ℕ → ℕ → ℕ → ℕ → ℕ
begun k n at seen = if leb n k then at else seen

-- of the lines from a place on
abbrev pub begins : ℕ → ℕ → ℕ → ℕ → List Line → ℕ
begins k n at seen [] = seen
begins k n at seen (l ∷ ls) = begins k (counted l n) (at + length l) (begun k n at seen) ls

-- ---- the header

-- where the line of a number begins: behind the lines before it
abbrev pub start_of : List HeaderLine → ℕ → ℕ
start_of header k = length (written_all (take k header))

-- a good header, judged: its lines, the place of line k if it is one of them, and where the message starts
pub record GoodHeader (content : List ℕ) (k : ℕ) (h : Header) : Type 0 where
  pub header : List HeaderLine
  pub message : List ℕ
  pub good : Good content header message
  pub count : h.lines ≡ length header
  pub line_start : k < h.lines → h.line.start ≡ start_of header k
  pub line_end : k < h.lines → h.line.end ≡ start_of header (suc k)
  pub behind : h.message ≡ message_start header

abbrev pub Judges : List ℕ → ℕ → Result Header BadLine → Type 0
Judges content k (Ok h) = GoodHeader content k h
Judges content k (Err bad) = commit content ≡ refused bad.0
