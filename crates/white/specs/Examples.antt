-- What trimming keeps, by example: rows of a single table, for document 02, K5. One theorem holds of all of them
-- (proofs/Examples, cases).
use Rattle.std.specs.Prelude.{List, [], ◌∷◌, ℕ, ◌+◌, length}
use Rattle.rules.specs.White.{trim, trim_at}

-- bytes, and where what stays of them starts and ends
pub data Row : Type 0 where
  keeps : List ℕ → ℕ → ℕ → Row

abbrev pub wanted : Row → ℕ × ℕ
wanted (keeps s start end) = (start, end)

-- what the rules say of it
abbrev pub ruled : Row → ℕ × ℕ
ruled (keeps s start end) = (trim_at s, trim_at s + length (trim s))

-- 0x61 is the letter a
unfoldable pub table : List Row
table =
    -- K5.1: vertical tab is white space here, and no ASCII blank
    keeps (0x0b ∷ 0x61 ∷ 0x0b ∷ []) 1 2
    -- K5.2: the two forms of two bytes
    ∷ keeps (0xc2 ∷ 0x85 ∷ 0x61 ∷ 0xc2 ∷ 0xa0 ∷ []) 2 3
    -- K5.3: bytes that are no form stay, whatever the code point of that number
    ∷ keeps (0x85 ∷ 0x61 ∷ 0xa0 ∷ []) 0 3
    -- K5.4: overlong forms of U+0020 and U+0085 stay
    ∷ keeps (0xc0 ∷ 0xa0 ∷ 0x61 ∷ 0xe0 ∷ 0x82 ∷ 0x85 ∷ []) 0 6
    -- K5.5: U+3000 and U+2028 trim to nothing: the empty part at the front
    ∷ keeps (0xe3 ∷ 0x80 ∷ 0x80 ∷ 0xe2 ∷ 0x80 ∷ 0xa8 ∷ []) 0 0
    -- K5.6: U+1680 is in the list; U+180E, which once was, is not
    ∷ keeps (0xe1 ∷ 0x9a ∷ 0x80 ∷ 0x61 ∷ 0xe1 ∷ 0xa0 ∷ 0x8e ∷ []) 3 7
    -- K5.7: U+202F, U+205F and U+200A at the end
    ∷ keeps (0x61 ∷ 0xe2 ∷ 0x80 ∷ 0xaf ∷ 0xe2 ∷ 0x81 ∷ 0x9f ∷ 0xe2 ∷ 0x80 ∷ 0x8a ∷ []) 0 1
    -- bytes that are U+2000 only under a mask stay
    ∷ keeps (0xe2 ∷ 0x00 ∷ 0x80 ∷ 0x61 ∷ 0xe2 ∷ 0x80 ∷ 0xc0 ∷ []) 0 7
    ∷ []
