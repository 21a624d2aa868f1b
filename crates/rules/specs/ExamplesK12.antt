-- Document 02, K12: worked examples, rows of a single table. One theorem holds of all of them (proofs/ExamplesK12, examples).
use Rattle.std.specs.Prelude.{List, [], ◌∷◌, ◌++◌, map, ℕ, ◌-◌, length}
use Prim.Native.String.{String}
use Rattle.rules.specs.Bytes.{bytes}
use Rattle.rules.specs.Paragraph.{block_start, trailers_of}
use Rattle.rules.specs.Trailer.{Trailer, place_of, token_of}

-- what a body shows: its trailers, each a token and its distance from the end, and where its block starts
pub data Shown : Type 0 where
  shown : List (List ℕ × ℕ) → ℕ → Shown

-- the bytes that two bodies end in, what stands above them in each, and what each shows
pub data Row : Type 0 where
  below : String → String → String → Shown → Shown → Row

abbrev pub has : List (String × ℕ) → ℕ → Shown
has ts start = shown (map (λ (t : String × ℕ). (bytes t.0, t.1)) ts) start

abbrev pub shows : List ℕ → Shown
shows s = shown (map (λ (t : Trailer). (token_of t, length s - place_of t)) (trailers_of s)) (block_start s)

abbrev pub wanted : Row → List Shown
wanted (below foot one two s t) = s ∷ t ∷ []

abbrev pub ruled : Row → List Shown
ruled (below foot one two s t) = shows (bytes one ++ bytes foot) ∷ shows (bytes two ++ bytes foot) ∷ []

unfoldable pub table : List Row
table =
    -- a recognised line above the blank line carries nothing; "Block starts may differ"
    below "\nA: b" "" "Signed-off-by: s\n" (has (("A", 4) ∷ []) 0) (has (("A", 4) ∷ []) 16)
    -- no block in either
    ∷ below " \n c\nA: b\n\n" "x\n" "Signed-off-by: s\r\n" (has [] 13) (has [] 29)
    -- with a folded line, and more of the same above
    ∷ below "\nA: b\n c\nB: d\n" "" "A: b\n c\n\nB: d\n" (has (("A", 13) ∷ ("B", 5) ∷ []) 0) (has (("A", 13) ∷ ("B", 5) ∷ []) 13)
    -- each premise is needed. Not at a line start: there the first line is not blank
    ∷ below "\nA: b" "" "x" (has (("A", 4) ∷ []) 0) (has [] 6)
    -- the first line is not blank
    ∷ below "A: b" "" "x\n" (has (("A", 4) ∷ []) 0) (has [] 6)
    -- no later line is non-blank
    ∷ below "\n" "A: b\n" "x\n" (has (("A", 6) ∷ []) 0) (has [] 3)
    ∷ []
