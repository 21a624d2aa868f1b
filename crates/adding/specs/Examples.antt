-- Worked examples of document 02, K3: rows of a single table. One theorem holds of all of them (proofs/Examples, cases). In a
-- buffer `.` is a byte that was there before.
use Rattle.std.specs.Prelude.{List, [], ◌∷◌, map, ℕ, length, take}
use Prim.Native.String.{String}
use Rattle.rules.specs.Answers.{Said, says}
use Rattle.rules.specs.Bytes.{bytes}
use Rattle.rules.specs.Paragraph.{message_trailers}
use Rattle.appending.specs.Added.{pair_of}
use Rattle.adding.specs.Answers.{add_answer, add_buffer}

pub data Row : Type 0 where
  -- a message, a token, a value and a buffer; the length written, the buffer afterwards, and the trailers read back from it
  adds : String → String → String → String → ℕ → String → List (String × String) → Row
  -- a message, a token, a value and a buffer, which stays as it is; the refusal
  refuses : String → String → String → String → Said → Row

pub data Shown : Type 0 where
  shown : Said → List ℕ → List (List ℕ × List ℕ) → Shown

abbrev pub wanted : Row → Shown
wanted (adds m t v out n after ts) = shown (says 0 (n ∷ [])) (bytes after) (map (λ (p : String × String). (bytes p.0, bytes p.1)) ts)
wanted (refuses m t v out said) = shown said (bytes out) []

abbrev pub ruled : Row → Shown
ruled (adds m t v out n after ts) =
    shown (add_answer (bytes m) (bytes t) (bytes v) (length (bytes out))) (add_buffer (bytes m) (bytes t) (bytes v) (bytes out))
    (map pair_of (message_trailers (take n (add_buffer (bytes m) (bytes t) (bytes v) (bytes out)))))
ruled (refuses m t v out said) =
    shown (add_answer (bytes m) (bytes t) (bytes v) (length (bytes out))) (add_buffer (bytes m) (bytes t) (bytes v) (bytes out)) []

unfoldable pub table : List Row
table =
    -- K3.1 to K3.6
    adds "t" "A" "v" ".........." 8 "t\n\nA: v\n.." (("A", "v") ∷ [])
    ∷ adds "t\r" "A" "v" ".........." 9 "t\r\n\nA: v\n." (("A", "v") ∷ [])
    ∷ adds "t\r\n\r\n" "A" "v" "..........." 11 "t\r\n\r\nA: v\r\n" (("A", "v") ∷ [])
    ∷ adds "t\n\nB: c\n\n \n" "A" "v" "..............." 13 "t\n\nB: c\nA: v\n.." (("B", "c") ∷ ("A", "v") ∷ [])
    ∷ refuses "" "" " " "..." (says 5 [])
    ∷ refuses "t" "A" "" "...." (says 3 (7 ∷ []))
    -- not document 02's: the room that it needs; one byte less; the order of the other refusals
    ∷ adds "t" "A" "" "......." 7 "t\n\nA: \n" (("A", "") ∷ [])
    ∷ refuses "t" "A" "" "......" (says 3 (7 ∷ []))
    ∷ refuses "t" "A_" "v\nw" "" (says 5 [])
    ∷ refuses "" "A" " v" "" (says 6 [])
    ∷ refuses "t" "A" "v\nw" "" (says 6 [])
    ∷ refuses "t" "A" "\u{b}" "" (says 6 [])
    ∷ refuses " \n\r\n" "A" "v" "" (says 7 [])
    -- an accepted block without a trailer; a paragraph that is none; a folded last line without LF; CR LF above, none at the end
    ∷ adds "t\n\n(cherry picked from commit 1)" "A" "v" "..................................................." 38
    "t\n\n(cherry picked from commit 1)\nA: v\n............." (("A", "v") ∷ [])
    ∷ adds "t\n\nB: c\nx\n" "A" "v" "................" 16 "t\n\nB: c\nx\n\nA: v\n" (("A", "v") ∷ [])
    ∷ adds "t\n\nB: c\n d" "A" "v" "................" 16 "t\n\nB: c\n d\nA: v\n" (("B", "c d") ∷ ("A", "v") ∷ [])
    ∷ adds "t\r\n\r\nB: c" "A" "v" "................" 15 "t\r\n\r\nB: c\nA: v\n." (("B", "c") ∷ ("A", "v") ∷ [])
    -- the title is no block, whatever it looks like; a CR in a value is a value's byte
    ∷ adds "B: c\n" "A" "v" "..........." 11 "B: c\n\nA: v\n" (("A", "v") ∷ [])
    ∷ adds "t" "A" "v\rw" "............" 10 "t\n\nA: v\rw\n.." (("A", "v\rw") ∷ [])
    ∷ []
