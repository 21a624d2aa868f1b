-- A code point read from the front of an input, and a form at the end of one. What the lengths found have to do with the forms
-- is proved (proofs/Utf8, found and passed; proofs/Scan, form_end_lem).
use Rattle.std.specs.Prelude.{Bool, ◌&&◌, List, ◌++◌, ◌≡◌, ℕ, ◌-◌, ◌<◌, Option, None, Some, eqb, leb, ltb, length, drop, get_or, if◌then◌else◌}
use Rattle.rules.specs.Bytes.{within}
use Rattle.rules.specs.White.{utf8, form_at}
use Rattle.white.specs.declared.CodePoint.{CodePoint}

-- the six bits that a continuation byte carries (RFC 3629, section 3: 10xxxxxx); none where the byte is no such byte
abbrev pub carries : ℕ → Option ℕ
carries b = if within 0x80 0xbf b then Some (b - 0x80) else None

-- at the front of `s` stands the form of the code point, as long as is said; or that of no code point below U+10000
pub data Decoded (s : List ℕ) : Option CodePoint → Type 0 where
  point : (p : CodePoint) (rest : List ℕ) → p.code < 0x10000 → s ≡ utf8 p.code ++ rest → p.len ≡ length (utf8 p.code) → Decoded s (Some p)
  none : ((c : ℕ) (rest : List ℕ) → c < 0x10000 → s ≡ utf8 c ++ rest → ⊥) → Decoded s None

-- the last k bytes are a form
abbrev pub last_form : ℕ → List ℕ → Bool
last_form k s = eqb (form_at (drop (length s - k) s)) k

-- the length of the form at the end; 0 where none is there. A form has at most three bytes.
unfoldable pub form_end : List ℕ → ℕ
form_end s = if last_form 1 s then 1 else if last_form 2 s then 2 else if last_form 3 s then 3 else 0

-- a byte above the space and below 0x80: no form begins or ends with it (proofs/Scan, graphic_front and graphic_last)
abbrev pub graphic : ℕ → Bool
graphic b = ltb 0x20 b && ltb b 0x80

-- it begins and ends with a graphic byte, so that nothing of it goes (proofs/Scan, solid_kept)
abbrev pub solid : List ℕ → Bool
solid s = leb 1 (length s) && (graphic (get_or s 0 0) && graphic (get_or s (length s - 1) 0))

-- as people write a value: a space before a graphic byte, and an LF after one
abbrev pub plain : List ℕ → Bool
plain s =
    leb 3 (length s)
    && (((eqb (get_or s 0 0) 0x20 && graphic (get_or s 1 0)) && graphic (get_or s (length s - 2) 0)) && eqb (get_or s (length s - 1) 0) 0x0a)
