-- The divider and the message above it: document 02, K7, "Mails with a patch below". "Add a second reading with the manual's divider:
-- the message ends before its first line whose text is `---` or starts with `--- `."
use Rattle.std.specs.Prelude.{Bool, not, ◌||◌, List, ◌++◌, ◌≡◌, ℕ}
use Rattle.rules.specs.Bytes.{bytes}
use Rattle.rules.specs.Lines.{Line, lines, text}
use Rattle.rules.specs.Lists.{All, Stops, equal, join, run, starts}

-- a line "whose text is `---` or starts with `--- `". "Tab after the hyphens is no divider."
unfoldable pub divider : Line → Bool
divider l = equal (text l) (bytes "---") || starts (bytes "--- ") (text l)

-- a line that is none
abbrev pub plain : Line → Bool
plain l = not (divider l)

-- "the message ends before its first line" that is a divider: none of the lines above is one; the first of those below, if there are
-- any, is; and `kept` is what stands above
pub record Cut (message kept : List ℕ) : Type 0 where
  pub above : List Line
  pub below : List Line
  pub reads : lines message ≡ above ++ below
  pub none_above : All plain above
  pub divides : Stops plain below
  pub keeps : kept ≡ join above

-- ---- computed: a message is cut to `cut`, and to nothing else (proofs/Cut, exactly_one_cut)

unfoldable pub cut : List ℕ → List ℕ
cut message = join (run plain (lines message))
