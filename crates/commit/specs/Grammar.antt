-- A commit object's content, header and message: document 02, K13.
use Rattle.std.specs.Prelude.{Bool, not, ◌&&◌, ◌||◌, List, [], ◌∷◌, ◌++◌, map, ◌≡◌, ℕ, suc, ◌+◌, T, eqb, length, if◌then◌else◌}
use Rattle.rules.specs.Bytes.{bytes, within, LF, space}
use Rattle.rules.specs.Lines.{Line, inner}
use Rattle.rules.specs.Lists.{All, equal, filled, first}

-- ---- header lines

-- a line of the header: its name and its content, "continued lines being one with theirs", "continued content as it stands"
pub data HeaderLine : Type 0 where
  named : List ℕ → List ℕ → HeaderLine

-- "lines of name, space, content, LF"
abbrev pub written : HeaderLine → List ℕ
written (named name content) = name ++ space ∷ (content ++ LF ∷ [])

abbrev pub written_all : List HeaderLine → List ℕ
written_all [] = []
written_all (h ∷ hs) = written h ++ written_all hs

-- "a line that starts with a space continues the one above": what stands behind a line's own content, up to its last LF
pub data Continued : List ℕ → Type 0 where
  none : Continued []
  more : (t : List ℕ) {s : List ℕ} → All inner t → Continued s → Continued (LF ∷ space ∷ (t ++ s))

-- ---- names

-- a byte of a name: the first space ends it, and LF the line
unfoldable pub name_byte : ℕ → Bool
name_byte c = not (eqb c LF) && not (eqb c space)

-- `tree`, `parent`, `author`, `committer`: "these four"
unfoldable pub four : List ℕ → Bool
four name = equal name (bytes "tree") || equal name (bytes "parent") || equal name (bytes "author") || equal name (bytes "committer")

-- "lines of any names but these four"; "Names are not empty."
pub record OtherName (name : List ℕ) : Type 0 where
  pub some : T (filled name)
  pub name_bytes : All name_byte name
  pub none_of_four : T (not (four name))

-- "then lines of any names but these four, in any order; only those may be continued"
pub data Others : List HeaderLine → Type 0 where
  none : Others []
  more : {name : List ℕ} (line : List ℕ) {under : List ℕ} {hs : List HeaderLine} → OtherName name → All inner line → Continued under → Others hs
      → Others (named name (line ++ under) ∷ hs)

-- ---- identifiers

unfoldable pub hex_digit : ℕ → Bool
hex_digit c = within 48 57 c || within 97 102 c

-- "Identifiers are all 40 or all 64 lower-case hex digits."
pub data Size : ℕ → Type 0 where
  sha1 : Size 40
  sha256 : Size 64

pub record Identifier (size : ℕ) (s : List ℕ) : Type 0 where
  pub long : length s ≡ size
  pub digits : All hex_digit s

pub data Identifiers (size : ℕ) : List (List ℕ) → Type 0 where
  none : Identifiers size []
  more : {s : List ℕ} {ss : List (List ℕ)} → Identifier size s → Identifiers size ss → Identifiers size (s ∷ ss)

-- ---- the content

-- a content with a good header, and what it is made of
pub record Good (content : List ℕ) (header : List HeaderLine) (message : List ℕ) : Type 0 where
  pub size : ℕ
  pub tree : List ℕ
  pub parents : List (List ℕ)
  pub author : List ℕ
  pub committer : List ℕ
  pub others : List HeaderLine
  -- "First `tree`, then any number of `parent`, then `author`, `committer`, then lines of any names but these four"
  pub order : header ≡ named (bytes "tree") tree ∷ (map (named (bytes "parent")) parents
      ++ named (bytes "author") author ∷ named (bytes "committer") committer ∷ others)
  -- "lines of name, space, content, LF, up to the first empty line"; "The empty line is LF alone"; then the message
  pub reads : content ≡ written_all header ++ LF ∷ message
  pub one_size : Size size
  pub tree_id : Identifier size tree
  pub parent_ids : Identifiers size parents
  -- a line's content is any bytes but LF: "a CR is content"
  pub author_line : All inner author
  pub committer_line : All inner committer
  pub other_lines : Others others

-- ---- numbers: "its number from 0 on, continued lines being one with theirs"

abbrev pub spaced : Line → Bool
spaced l = first (λ c. eqb c space) l

-- the lines counted, with this one: a line that starts with a space is one with the line above
abbrev pub counted : Line → ℕ → ℕ
counted l n = if spaced l then n else n + 1

-- how many lines there are, n counted before
abbrev pub counts : List Line → ℕ → ℕ
counts [] n = n
counts (l ∷ ls) n = counts ls (counted l n)

-- header line k
pub data At : List HeaderLine → ℕ → HeaderLine → Type 0 where
  here : {h : HeaderLine} {hs : List HeaderLine} → At (h ∷ hs) 0 h
  there : {h g : HeaderLine} {hs : List HeaderLine} {k : ℕ} → At hs k h → At (g ∷ hs) (suc k) h
