-- `paragraph::is_cherry_picked` meets its contract. Assumes nothing.
use mathlib.Core.Bool.{true, ◌&&◌, and_assoc}
use mathlib.Core.List.{List}
use mathlib.Core.Path.{◌≡◌, sym, ap₂, ◌∙◌}
use Prim.Native.Nat.{ℕ, ◌≤◌}
use native.Mathlib.Omega.{arith}
use lib.ListN.{length, take, drop, length-drop}
use lib.Seq.{drop-drop}
use Rattle.rules.specs.Bytes.{bytes}
use Rattle.rules.specs.Lists.{equal, starts}
use Rattle.rules.specs.Paragraph.{cherry_picked}
use Rattle.text.proofs.Words.{short, starts_parts, two_words}
use Rattle.paragraph.proofs.is_cherry_picked.Goals as goal

-- two words, and then the first and the last of eleven bytes
by_words : (line : List ℕ) → 27 ≤ length line
    → let first = equal (take 8 line) (bytes "(cherry ") in let second = equal (take 8 (drop 8 line)) (bytes "picked f") in
    let third = equal (take 8 (drop 16 line)) (bytes "rom comm") in let last = equal (take 8 (drop 19 line)) (bytes " commit ") in
    starts cherry_picked line ≡ (first && ((second && third) && last))
by_words line h =
    let second = equal (take 8 (drop 8 line)) (bytes "picked f") in
    let third = equal (take 8 (drop 16 line)) (bytes "rom comm") in
    let last = equal (take 8 (drop 19 line)) (bytes " commit ") in
    let end : starts (drop 16 cherry_picked) (drop 16 line) ≡ (third && last) =
    two_words (drop 16 cherry_picked) (drop 16 line) (omega arith) (omega arith) (simp length-drop (omega arith)) ∙ rw (drop-drop 3 16 line) in
    let rest : starts (drop 8 cherry_picked) (drop 8 line) ≡ ((second && third) && last) =
    starts_parts 8 (drop 8 cherry_picked) (drop 8 line) (omega arith) (simp length-drop (omega arith))
    ∙ rw (drop-drop 8 8 line, end) (sym (and_assoc second third last)) in
    starts_parts 8 cherry_picked line (omega arith) h ∙ rw rest

pub returns-then-line-lt27 : goal.returns-then-line-lt27
returns-then-line-lt27 c = sym (short cherry_picked c.args.line.now c.if-line-lt27.true)

pub returns : goal.returns
returns c =
    let line = c.args.line.now in
    let first : equal (take 8 line) (bytes "(cherry ") ≡ true = sym c.same_word.ensures ∙ c.if-not-same_word.false in
    ap₂ ◌&&◌ (ap₂ ◌&&◌ c.same_word-2.ensures c.same_word-3.ensures) c.same_word-4.ensures ∙ sym (by_words line (omega arith) ∙ rw first)
