-- The lines of a body from its end upwards, as `line_start` finds them: what is known of the lines from a place on (At), and what
-- one line more above makes of it. Assumes nothing.
use mathlib.Core.Bool.{Bool, true, false}
use mathlib.Core.List.{List, [], ◌∷◌, ◌++◌, append_assoc, append-nil}
use mathlib.Core.Path.{◌≡◌, refl, sym, ap, ap₂, ◌∙◌}
use Prim.Native.Nat.{ℕ, zero, suc, ◌+◌, ◌-◌, ◌≤◌, ◌<◌}
use native.Mathlib.Omega.{arith}
use lib.Dec.{T, eqb→eq}
use lib.ListN.{length, take, drop, length-append, length-drop, take-append-drop}
use lib.Seq.{drop_at, length-take-le, take-add, take-take}
use Rattle.rules.specs.Bytes.{CR, LF, blank_byte}
use Rattle.rules.specs.Lines.{Line, LineStart, lines, text, without}
use Rattle.rules.specs.Lists.{all, join}
use Rattle.rules.specs.Paragraph.{solid, Body, put, parse}
use Rattle.rules.proofs.Lines.{join-lines, lines_from}
use Rattle.rules.proofs.Lists.{cut_unique}
use Rattle.find.specs.Find.{behind_lf}
use Rattle.find.proofs.Words.{behind_taken}
use Rattle.text.specs.Lines.{line_start}
use Rattle.text.proofs.Lines.{behind_le, last_line, line_start-before, line_start_starts, blank-all}
use Rattle.paragraph.specs.declared.Scan.{Scan}
use Rattle.paragraph.specs.Scan.{counts, counted, scanned, paragraph, last_paragraph, text_end, end_above}
use Rattle.paragraph.specs.Solid.{BlankFrom, Cut}
use Rattle.paragraph.proofs.Blanks.{blank_tree}
use Rattle.paragraph.proofs.Scanned.{Open, open_put, blank-put, counted-put, closed, unclosed, drop_last_lem, text_end_lem}

-- `&s[start..end]`
abbrev pub part : List ℕ → ℕ → ℕ → List ℕ
part s start end = take (end - start) (drop start s)

pub part_is : (s : List ℕ) (start end : ℕ) → start ≤ end → end ≤ length s → drop start (take end s) ≡ part s start end
part_is s start end h l =
    let sum : end ≡ start + (end - start) = omega arith in
    ap (λ (n : ℕ). drop start (take n s)) sum ∙ ap (drop start) (take-add start (end - start) s)
    ∙ drop_at (take start s) (part s start end) start (length-take-le start s (omega arith))

-- ---- the line that ends at a place

-- what stands behind a line does not matter
pub start_taken : (body : List ℕ) (end : ℕ) → line_start (take end body) end ≡ line_start body end
start_taken body end = behind_taken body end (end - 1) (omega arith)

module _ (body : List ℕ) (start end : ℕ) (s : start ≡ line_start body end) where
  pub start_le : start ≤ end
  start_le = omega (arith, behind_le body (end - 1))

  pub start_before : 0 < end → start < end
  start_before z = omega (arith, line_start-before body end z)

module _ (body : List ℕ) (start end : ℕ) (s : start ≡ line_start body end) (h : end ≤ length body) where
  within : start ≤ length body
  within = omega (arith, start_le body start end s)

  sizes : (length (take start body) ≡ start) × (length (part body start end) ≡ end - start)
  sizes = (length-take-le start body within, length-take-le (end - start) (drop start body) (omega (arith, length-drop start body)))

  cut_above : Cut body start
  cut_above = rw s (lines_from (line_start body end) body (line_start_starts body end h))

  module _ (z : 0 < end) where
    pub last_part : lines (take end body) ≡ lines (take start body) ++ part body start end ∷ []
    last_part =
        rw s (last_line body end z h ∙ ap (λ (l : Line). lines (take (line_start body end) body) ++ l ∷ [])
        (part_is body (line_start body end) end (start_le body (line_start body end) end refl) h))

    line_size : end ≡ length (join (lines (take start body))) + length (part body start end)
    line_size = rw join-lines (omega (arith, sizes.0, sizes.1, start_le body start end s))

    lines_above : Cut body end → lines body ≡ lines (take start body) ++ (part body start end ∷ lines (drop end body))
    lines_above e = e ∙ rw (last_part, append_assoc)

    line_above : Cut body end → lines (drop start body) ≡ part body start end ∷ lines (drop end body)
    line_above e =
        let us : List Line = lines (take start body) in
        (cut_unique us (lines (drop start body)) us (part body start end ∷ lines (drop end body)) refl (sym cut_above ∙ lines_above e)).1

-- ---- where its text ends

-- the text of a line below others drops what the text of all of them drops
without_under : (x : ℕ) (a : List ℕ) (c : ℕ) (l : List ℕ) → without x (a ++ c ∷ l) ≡ a ++ without x (c ∷ l)
without_under x [] c l = refl
without_under x (b ∷ []) c l = refl
without_under x (b ∷ d ∷ a) c l = ap (λ (t : List ℕ). b ∷ t) (without_under x (d ∷ a) c l)

no_cr : (a : List ℕ) → LineStart a → without CR a ≡ a
no_cr [] h = refl
no_cr (c ∷ []) h = let e : c ≡ LF = eqb→eq c LF h in rw e
no_cr (c ∷ d ∷ a) h = ap (λ (t : List ℕ). c ∷ t) (no_cr (d ∷ a) h)

text_under : (a l : List ℕ) → LineStart a → 0 < length l → text (a ++ l) ≡ a ++ text l
unfolding text
text_under a [] h z = absurd (omega arith)
text_under a (c ∷ l) h z = ap (without CR) (without_under LF a c l) ∙ by (without LF (c ∷ l))
  where
    by : (t : List ℕ) → without CR (a ++ t) ≡ a ++ without CR t
    by [] = ap (without CR) (append-nil a) ∙ no_cr a h ∙ sym (append-nil a)
    by (d ∷ t) = without_under CR a d t

module _ (body : List ℕ) (start end : ℕ) (s : start ≡ line_start body end) (h : end ≤ length body) where
  text_above : length (text (take end body)) ≡ start + length (text (part body start end))
  unfolding behind_lf text
  text_above = by end s h
    where
      by : (k : ℕ) → start ≡ line_start body k → k ≤ length body → length (text (take k body)) ≡ start + length (text (part body start k))
      by zero e l = rw e
      by (suc n) e l =
          let before : start ≤ suc n = start_le body start (suc n) e in
          let whole : take start body ++ part body start (suc n) ≡ take (suc n) body =
          ap₂ (λ (u v : List ℕ). u ++ v) (sym (take-take start (suc n) body before)) (sym (part_is body start (suc n) before l))
          ∙ take-append-drop start (take (suc n) body) in
          let top : LineStart (take start body) = rw e (line_start_starts body (suc n) l) in
          let some : 0 < length (part body start (suc n)) =
          omega (arith, (sizes body start (suc n) e l).1, start_before body start (suc n) e (omega arith)) in
          rw (← whole, text_under (take start body) (part body start (suc n)) top some, length-append, (sizes body start (suc n) e l).0)

  text_end_is : start + length (text (part body start end)) ≡ text_end (lines (take end body))
  unfolding behind_lf text
  text_end_is = by end s h
    where
      by : (k : ℕ) → start ≡ line_start body k → k ≤ length body
          → start + length (text (part body start k)) ≡ text_end (lines (take k body))
      by zero e l = rw e
      by (suc n) e l =
          rw (last_part body start (suc n) e l (omega arith), text_end_lem, join-lines, (sizes body start (suc n) e l).0)

  pub end_above_is : (k : ℕ) → end ≡ line_start body k → k ≤ length body → length (text (take end body)) ≡ end_above (lines (take k body))
  unfolding behind_lf
  end_above_is zero e l = text_above ∙ text_end_is ∙ rw e
  end_above_is (suc n) e l = text_above ∙ text_end_is ∙ rw (last_part body end (suc n) e l (omega arith), drop_last_lem)

-- ---- the scan at a line's start

-- the lines from `end` on have been seen, and counted so
pub record At (body : List ℕ) (end : ℕ) (scan : Scan) : Type 0 where
  pub inside : end ≤ length body
  pub cut : Cut body end
  pub below : Open (parse (lines (drop end body)))
  pub seen : scan ≡ counted (parse (lines (drop end body)))

-- nothing but blank lines has been seen
pub at_blanks : (body : List ℕ) (end : ℕ) → BlankFrom body end → At body end (counts false false 0 0 0)
at_blanks body end b =
    let tree = blank_tree (drop end body) b.2 in
    record { inside = b.0; cut = b.1; below = rw tree tt; seen = rw tree }

module _ (body : List ℕ) (start end : ℕ) (s : start ≡ line_start body end) (z : 0 < end) (scan : Scan) (a : At body end scan) where
  abbrev line : Line
  line = part body start end

  abbrev tree : Body
  tree = parse (lines (drop end body))

  next_tree : (b : Bool) → b ≡ all blank_byte line → parse (lines (drop start body)) ≡ put b line tree
  next_tree b e =
      ap parse (line_above body start end s a.inside z a.cut) ∙ ap (λ (x : Bool). put x line tree) (blank-all line ∙ sym e)

  next_at : (next : Scan) (t : Body) → parse (lines (drop start body)) ≡ t → Open t → next ≡ counted t → At body start next
  next_at next t e o n =
      record {
        inside = within body start end s a.inside;
        cut = cut_above body start end s a.inside;
        below = rw e o;
        seen = rw e n;
      }

  -- one line more that is not blank
  pub at_solid : (next : Scan) → false ≡ all blank_byte line → next ≡ scanned line scan → At body start next
  at_solid next e n =
      let solid-line : T (solid line) = rw (blank-all line, ← e) tt in
      next_at next (put false line tree) (next_tree false e) (open_put line tree a.below)
      (n ∙ ap (scanned line) a.seen ∙ sym (counted-put line tree solid-line a.below))

  -- one that is blank, below the paragraph
  pub at_blank : true ≡ all blank_byte line → scan.saw_non_blank_line ≡ false → At body start scan
  at_blank e n =
      let (o, q) = blank-put line tree a.below (rw a.seen at n) in
      next_at scan (put true line tree) (next_tree true e) o (a.seen ∙ sym q)

  -- and one above it
  pub at_paragraph : true ≡ all blank_byte line → scan.saw_non_blank_line ≡ true → last_paragraph (parse (lines body)) ≡ paragraph end scan
  at_paragraph e n =
      rw (lines_above body start end s a.inside z a.cut, a.seen)
      (closed end (lines (take start body)) (lines (drop end body)) line (line_size body start end s a.inside z)
      a.below (rw a.seen at n) (rw (blank-all line, ← e) tt))

-- no line is left above
pub at_top : (body : List ℕ) (scan : Scan) → At body 0 scan → last_paragraph (parse (lines body)) ≡ paragraph 0 scan
at_top body scan a = unclosed (parse (lines body)) a.below ∙ ap (paragraph 0) (sym a.seen)
