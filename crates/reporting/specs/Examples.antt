-- Worked examples of document 02, K11: rows of a single table. One theorem holds of all of them (proofs/Examples, cases).
use Rattle.std.specs.Prelude.{List, [], ◌∷◌, ◌++◌, ℕ, length, replicate}
use Prim.Native.String.{String}
use Rattle.rules.specs.Answers.{Said, says}
use Rattle.rules.specs.Bytes.{bytes}
use Rattle.bundle.specs.Answers.{count_answer, message_answer}
use Rattle.bundling.specs.Answers.{write_answer, write_buffer}
use Rattle.counting.specs.Answers.{report_answer}

pub data Row : Type 0 where
  -- an input, ranges and a buffer; the answer of `write_bundle`, and the buffer afterwards
  written : String → List ℕ → String → Said → String → Row
  -- bytes, and the answer of `bundle_count`
  counted : String → Said → Row
  -- bytes, the number of a message, and the answer of `bundle_message`
  message : String → ℕ → Said → Row
  -- bytes, further bytes and how often each stands behind them, and the answer of `bundle_report`
  reported : String → List (ℕ × ℕ) → Said → Row

-- bytes, each as often as it says
abbrev pub repeated : List (ℕ × ℕ) → List ℕ
repeated [] = []
repeated (r ∷ rs) = replicate r.1 r.0 ++ repeated rs

-- what a row shows: an answer, and the bytes in a buffer, if there is one
pub data Shown : Type 0 where
  shown : Said → List ℕ → Shown

abbrev pub wanted : Row → Shown
wanted (written input ranges out said after) = shown said (bytes after)
wanted (counted bundle said) = shown said []
wanted (message bundle k said) = shown said []
wanted (reported bundle more said) = shown said []

abbrev pub ruled : Row → Shown
ruled (written input ranges out said after) =
    shown (write_answer (bytes input) ranges (length (bytes out))) (write_buffer (bytes input) ranges (bytes out))
ruled (counted bundle said) = shown (count_answer (bytes bundle)) []
ruled (message bundle k said) = shown (message_answer (bytes bundle) k) []
ruled (reported bundle more said) = shown (report_answer (bytes bundle ++ repeated more)) []

-- the bundle of K11.2
abbrev pub three : String
three = "\u{3}\0\0\0\u{14}\0\0\0\u{16}\0\0\0\u{16}\0\0\0\u{18}\0\0\0b\nab"

unfoldable pub table : List Row
table =
    -- K11.1, K11.2, K11.3
    written "" [] "ªªªªªªªªª" (says 0 (8 ∷ [])) "\0\0\0\0\u{8}\0\0\0ª"
    ∷ written "ab\n" (1 ∷ 3 ∷ 2 ∷ 2 ∷ 0 ∷ 2 ∷ [])
    "ªªªªªªªªªªªªªªªªªªªªªªªªªª"
    (says 0 (24 ∷ []))
    "\u{3}\0\0\0\u{14}\0\0\0\u{16}\0\0\0\u{16}\0\0\0\u{18}\0\0\0b\nabªª"
    ∷ written "ab" (0 ∷ 2 ∷ []) "ªªªªªªªªªªªªª" (says 3 (14 ∷ [])) "ªªªªªªªªªªªªª"
    -- K11.4, K11.5; not document 02's: 4,096 messages, a start without an end, a range past the input
    ∷ written "ab" (replicate 8192 0 ++ (2 ∷ 1 ∷ [])) "" (says 2 []) ""
    ∷ written "" (replicate 8194 0) "" (says 12 []) ""
    ∷ written "" (replicate 8192 0) "" (says 3 (16392 ∷ [])) ""
    ∷ written "ab" (0 ∷ 2 ∷ 1 ∷ []) "" (says 2 []) ""
    ∷ written "ab" (0 ∷ 3 ∷ []) "" (says 2 []) ""
    -- K11.6; not document 02's: a bundle, 0, 4 and 7 bytes, 4,097 messages, a first offset past the header, offsets that fall
    ∷ counted "\0\0\0\0\u{8}\0\0\0z" (says 12 [])
    ∷ counted three (says 0 (3 ∷ []))
    ∷ counted "" (says 12 [])
    ∷ counted "\0\0\0\0" (says 12 [])
    ∷ counted "\0\0\0\0\u{8}\0\0" (says 12 [])
    ∷ counted "\u{1}\u{10}\0\0\u{8}\0\0\0" (says 12 [])
    ∷ counted "\0\0\0\0\t\0\0\0z" (says 12 [])
    ∷ counted "\u{2}\0\0\0\u{10}\0\0\0\u{12}\0\0\0\u{11}\0\0\0z" (says 12 [])
    -- the messages of K11.2
    ∷ message three 0 (says 0 (20 ∷ 22 ∷ []))
    ∷ message three 1 (says 0 (22 ∷ 22 ∷ []))
    ∷ message three 2 (says 0 (22 ∷ 24 ∷ []))
    ∷ message three 3 (says 0 [])
    -- K11.7, and K11.8: one message of 49,140 bytes `z`
    ∷ reported "\u{3}\0\0\0\u{14}\0\0\0>\0\0\0^\0\0\0^\0\0\0t\n\nSIGNED-OFF-BY: a\nacked-by : b\nFixes: 1\nt\n\n(cherry picked from commit 1)"
    []
    (says 0 (1 ∷ 0 ∷ 0 ∷ 1 ∷ 0 ∷ 0 ∷ 1 ∷ 2 ∷ []))
    ∷ reported "\u{1}\0\0\0\u{c}\0\0\0\0À\0\0" ((122, 49_140) ∷ []) (says 0 (0 ∷ 0 ∷ 0 ∷ 0 ∷ 0 ∷ 0 ∷ 0 ∷ 1 ∷ []))
    ∷ []
