-- Document 02, K9: worked examples, rows of a single table. One theorem holds of all of them (proofs/ExamplesK9, examples).
use Rattle.std.specs.Prelude.{List, [], ◌∷◌, ◌++◌, ℕ}
use Rattle.rules.specs.Bytes.{bytes}
use Rattle.rules.specs.Halves.{one_space_between}
use Rattle.rules.specs.Summary.{summary}
use Rattle.rules.specs.Trailer.{unfolded}

pub data Row : Type 0 where
  -- two halves of a raw value; both joined and unfolded, each unfolded, and these by the rule
  halves : List ℕ → List ℕ → List ℕ → List ℕ → List ℕ → List ℕ → Row
  -- a title, its summary, and the summary of that
  summed : List ℕ → List ℕ → List ℕ → Row

-- what a row shows, and what the rules say of it
abbrev pub wanted : Row → List (List ℕ)
wanted (halves a b both one two rule) = both ∷ one ∷ two ∷ rule ∷ []
wanted (summed t once twice) = once ∷ twice ∷ []

abbrev pub ruled : Row → List (List ℕ)
ruled (halves a b both one two rule) =
    unfolded (a ++ b) ∷ unfolded a ∷ unfolded b ∷ one_space_between (unfolded a) (unfolded b) ∷ []
ruled (summed t once twice) = summary t ∷ summary (summary t) ∷ []

unfoldable pub table : List Row
table =
    -- the first half ends in LF, or is empty; either answer, or none, is empty
    halves (bytes " b\n") (bytes " c") (bytes "b c") (bytes "b") (bytes "c") (bytes "b c")
    ∷ halves (bytes "") (bytes " b ") (bytes "b") (bytes "") (bytes "b") (bytes "b")
    ∷ halves (bytes " \n") (bytes " c\n") (bytes "c") (bytes "") (bytes "c") (bytes "c")
    ∷ halves (bytes "a\n") (bytes " \u{b}\n") (bytes "a") (bytes "a") (bytes "") (bytes "a")
    -- why the first half must be empty or end in LF: a line goes on in the second half; and bytes that are no white space
    -- join to some, U+00A0. No pair is smaller (proofs/Halves, nothing_joined)
    ∷ halves (bytes "a") (bytes "b") (bytes "ab") (bytes "a") (bytes "b") (bytes "a b")
    ∷ halves (0xc2 ∷ []) (0xa0 ∷ []) [] (0xc2 ∷ []) (0xa0 ∷ []) (0xc2 ∷ 0x20 ∷ 0xa0 ∷ [])
    -- with an LF between they are kept apart
    ∷ halves (0xc2 ∷ 0x0a ∷ []) (0xa0 ∷ []) (0xc2 ∷ 0x20 ∷ 0xa0 ∷ []) (0xc2 ∷ []) (0xa0 ∷ []) (0xc2 ∷ 0x20 ∷ 0xa0 ∷ [])
    -- document 01, case 5; and where the summary stops
    ∷ summed (bytes "a \n  b") (bytes "a   b") (bytes "a   b")
    ∷ summed (bytes "a\n\nb") (bytes "a") (bytes "a")
    ∷ []
