-- Computed: the content read line by line, by what a line's bytes are (its shape) and what may come next (the phase). The answer is
-- what the grammar says of the content, and no other is (proofs/Refusals, answer_says and answer_only).
use Rattle.std.specs.Prelude.{Bool, ◌&&◌, List, [], ◌∷◌, ◌++◌, ℕ, ◌+◌, ◌-◌, eqb, length, Option, Some, None, if◌then◌else◌}
use Rattle.rules.specs.Bytes.{bytes, LF, space}
use Rattle.rules.specs.Lines.{Line, lines}
use Rattle.rules.specs.Lists.{all, equal, join}
use Rattle.commit.specs.Grammar.{four, hex_digit, HeaderLine, named, counted}
use Rattle.commit.specs.Place.{Answer, accepted, refused}
use Rattle.commit.specs.declared.Phase.{Phase}
use Rattle.commit.specs.declared.Turn.{Turn}

-- ---- a line

-- LF alone; a space and what is behind it; a name and what is behind its space; none of these, or no LF at the end
pub data Shape : Type 0 where
  empty : Shape
  continues : List ℕ → Shape
  names : List ℕ → List ℕ → Shape
  wrong : Shape

-- what is before the LF that ends a line, if one does
pub data Text : Type 0 where
  ended : List ℕ → Text
  unended : Text

abbrev pub on_text : ℕ → Text → Text
on_text c (ended t) = ended (c ∷ t)
on_text c unended = unended

abbrev pub ended_by : List ℕ → Text
ended_by [] = ended []
ended_by (c ∷ s) = unended

abbrev pub text_of : List ℕ → Text
text_of [] = unended
text_of (c ∷ s) = if eqb c LF then ended_by s else on_text c (text_of s)

abbrev pub on_space : Text → Shape
on_space (ended t) = continues t
on_space unended = wrong

abbrev pub on_lf : List ℕ → Shape
on_lf [] = empty
on_lf (c ∷ s) = wrong

abbrev pub on_name : ℕ → Shape → Shape
on_name c empty = wrong
on_name c (continues t) = names (c ∷ []) t
on_name c (names n t) = names (c ∷ n) t
on_name c wrong = wrong

abbrev pub shape : Line → Shape
shape [] = wrong
shape (c ∷ s) = if eqb c LF then on_lf s else if eqb c space then on_space (text_of s) else on_name c (shape s)

-- ---- what may come next

-- what a line does in a phase: a turn, or none where no good header goes on

abbrev pub empty_line : Phase → Option Turn
empty_line Phase.Tree = None
empty_line (Phase.Parents size) = None
empty_line Phase.Committer = None
empty_line Phase.Others = Some Turn.End
empty_line Phase.Under = Some Turn.End

abbrev pub spaced_line : Phase → Option Turn
spaced_line Phase.Tree = None
spaced_line (Phase.Parents size) = None
spaced_line Phase.Committer = None
spaced_line Phase.Others = None
spaced_line Phase.Under = Some (Turn.To Phase.Under)

unfoldable pub identifier : ℕ → List ℕ → Bool
identifier size s = eqb (length s) size && all hex_digit s

abbrev pub named_line : Phase → List ℕ → List ℕ → Option Turn
named_line Phase.Tree n t =
    if equal n (bytes "tree") then (if identifier 40 t then Some (Turn.To (Phase.Parents 40)) else if identifier 64 t then Some (Turn.To (Phase.Parents 64)) else None) else None
named_line (Phase.Parents size) n t =
    if equal n (bytes "parent") then (if identifier size t then Some (Turn.To (Phase.Parents size)) else None) else
    if equal n (bytes "author") then Some (Turn.To Phase.Committer) else None
named_line Phase.Committer n t = if equal n (bytes "committer") then Some (Turn.To Phase.Others) else None
named_line Phase.Others n t = if four n then None else Some (Turn.To Phase.Under)
named_line Phase.Under n t = if four n then None else Some (Turn.To Phase.Under)

abbrev pub step : Phase → Shape → Option Turn
step ph empty = empty_line ph
step ph (continues t) = spaced_line ph
step ph (names n t) = named_line ph n t
step ph wrong = None

-- ---- the reading

-- what continues the line above, the header lines that begin here, and the message; or the number at which it is refused
pub data Reading : Type 0 where
  reads : List ℕ → List HeaderLine → List ℕ → Reading
  stops : ℕ → Reading

-- a line in front of what is read behind it
abbrev pub put : Shape → Reading → Reading
put empty r = r
put wrong r = r
put (continues t) (reads under hs m) = reads (LF ∷ space ∷ (t ++ under)) hs m
put (continues t) (stops k) = stops k
put (names n t) (reads under hs m) = reads [] (named n (t ++ under) ∷ hs) m
put (names n t) (stops k) = stops k

abbrev pub turned : Option Turn → Shape → ℕ → List Line → (Phase → Reading) → Reading
turned (Some (Turn.To ph)) x n ls f = put x (f ph)
turned (Some Turn.End) x n ls f = reads [] [] (join ls)
turned None x n ls f = stops (n - 1)

-- n lines are counted before
abbrev pub read : Phase → ℕ → List Line → Reading
read ph n [] = stops n
read ph n (l ∷ ls) = turned (step ph (shape l)) (shape l) (counted l n) ls (λ (to : Phase). read to (counted l n) ls)

-- ---- the answer for a content

abbrev pub answer : Reading → Answer
answer (reads under hs m) = accepted hs m
answer (stops k) = refused k

unfoldable pub commit : List ℕ → Answer
commit content = answer (read Phase.Tree 0 (lines content))

-- ---- the judgement alone: how many lines the header has and where the message starts, or the refusal's number

pub data Verdict : Type 0 where
  good : ℕ → ℕ → Verdict
  bad : ℕ → Verdict

-- after a line: n are counted before it and k with it; then comes the place where it ends
abbrev pub turned_verdict : Option Turn → ℕ → ℕ → ℕ → (Phase → Verdict) → Verdict
turned_verdict (Some (Turn.To ph)) n k to f = f ph
turned_verdict (Some Turn.End) n k to f = good n to
turned_verdict None n k to f = bad (k - 1)

-- n lines are counted before the place
abbrev pub judge : Phase → ℕ → ℕ → List Line → Verdict
judge ph n at [] = bad n
judge ph n at (l ∷ ls) =
    turned_verdict (step ph (shape l)) n (counted l n) (at + length l) (λ (to : Phase). judge to (counted l n) (at + length l) ls)
