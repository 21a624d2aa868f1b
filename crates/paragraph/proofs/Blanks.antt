-- Blank lines at a body's end: a body may be cut where a line of its rest ends, and blank lines below the cut have an empty tree and no
-- ending. Assumes nothing.
use Rattle.std.specs.Prelude.{None}
use mathlib.Core.Bool.{Bool, true, false, false≢true, ◌&&◌}
use mathlib.Core.List.{List, [], ◌∷◌, ◌++◌, append-nil}
use mathlib.Core.Path.{◌≡◌, refl, sym, ◌∙◌}
use Prim.Native.Nat.{ℕ, ◌+◌, ◌-◌, ◌≤◌}
use native.Mathlib.Omega.{arith}
use lib.ListN.{length, take, drop, length-drop, take-append-drop}
use lib.Seq.{drop_at, drop-drop, drop-length, take-add, take-append_seam, take-length}
use Rattle.rules.specs.Bytes.{blank_byte}
use Rattle.rules.specs.Lines.{Line, lines}
use Rattle.rules.specs.Lists.{all, join}
use Rattle.rules.specs.Paragraph.{empty, last_ending, parse}
use Rattle.rules.proofs.Lines.{join-lines, lines_behind}
use Rattle.rules.proofs.Parts.{rest}
use Rattle.text.proofs.Blanks.{blank_parts}
use Rattle.text.proofs.Lines.{blank-all, first_line, first_within}
use Rattle.text.specs.Lines.{first_length}
use Rattle.paragraph.specs.Solid.{BlankFrom}

-- ---- blank lines

both : (x y : Bool) → x && y ≡ true → (x ≡ true) × (y ≡ true)
both true y e = (refl, e)
both false y e = absurd (false≢true e)

pub drop_blank : (k : ℕ) (s : List ℕ) → all blank_byte s ≡ true → all blank_byte (drop k s) ≡ true
drop_blank k s e = (both (all blank_byte (take k s)) (all blank_byte (drop k s)) (sym (blank_parts k s) ∙ e)).1

-- the first of them, and those below
first_blank : (l : Line) (ls : List Line) → all blank_byte (l ++ join ls) ≡ true → (all blank_byte l ≡ true) × (all blank_byte (join ls) ≡ true)
first_blank l ls e =
    both (all blank_byte l) (all blank_byte (join ls))
    (rw (take-append_seam l (join ls), drop_at l (join ls) (length l) refl) at (sym (blank_parts (length l) (l ++ join ls)) ∙ e))

lines_tree : (ls : List Line) → all blank_byte (join ls) ≡ true → parse ls ≡ empty ls
lines_tree [] e = refl
lines_tree (l ∷ ls) e = let (one, more) = first_blank l ls e in rw (blank-all l ∙ one, lines_tree ls more)

lines_none : (ls : List Line) → all blank_byte (join ls) ≡ true → last_ending ls ≡ None
lines_none [] e = refl
lines_none (l ∷ ls) e = let (one, more) = first_blank l ls e in rw (lines_none ls more, blank-all l ∙ one)

pub blank_tree : (s : List ℕ) → all blank_byte s ≡ true → parse (lines s) ≡ empty (lines s)
blank_tree s e = lines_tree (lines s) (rw (join-lines s) e)

pub none_blank : (s : List ℕ) → all blank_byte s ≡ true → last_ending (lines s) ≡ None
none_blank s e = lines_none (lines s) (rw (join-lines s) e)

-- ---- blank from a line's end on

-- behind the first line of the rest `t`
cut : (a t : List ℕ) → let k = first_length (lines t) in lines (a ++ t) ≡ lines (a ++ take k t) ++ lines (drop k t)
cut a [] = sym (append-nil (lines (a ++ [])))
cut a (c ∷ t) = lines_behind a (c ∷ t) _ _ (first_line (c ∷ t) (omega arith))

pub blank_end : (body : List ℕ) → BlankFrom body (length body)
blank_end body = (omega arith, rw (drop-length, take-length, append-nil), rw drop-length)

pub blank_below : (body : List ℕ) (n k : ℕ) → all blank_byte (drop n body) ≡ true → n ≤ length body
    → k ≡ first_length (lines (take (length body - n) (drop n body))) → BlankFrom body (n + k)
blank_below body n k e h f =
    let first : k ≡ first_length (lines (drop n body)) = rw (rest body n) at f in
    let whole = rw (take-append-drop n body, ← first, drop-drop k n body) at (cut (take n body) (drop n body)) in
    (omega (arith, first, first_within (drop n body), length-drop n body), rw (take-add n k body) whole, rw (← drop-drop k n body) (drop_blank k (drop n body) e))
