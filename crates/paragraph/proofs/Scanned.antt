-- The backward scan: its counts are those of the tree of the lines that it has seen (counted-put), they are small enough to be
-- summed and tripled (counted_within), a blank line above the paragraph settles them (closed), and they give the block start
-- (start_decided). Assumes nothing.
use Rattle.std.specs.Prelude.{Option, is_some, if◌then◌else◌}
use mathlib.Core.Bool.{Bool, true, false, true≢false, false≢true}
use mathlib.Core.List.{List, [], ◌∷◌, ◌++◌, append_assoc, append-nil, drop_last}
use mathlib.Core.Logic.{inl, inr}
use mathlib.Core.Path.{◌≡◌, refl, sym, ap, ◌∙◌}
use Prim.Native.Nat.{ℕ, ◌+◌, ◌*◌, ◌≤◌}
use native.Mathlib.Nat.{add_comm, zero-add}
use native.Mathlib.Omega.{arith}
use borrow.Author.Tests.{ne_eqb}
use lib.Dec.{T, T_not, not_T, eqb}
use lib.ListN.{length, take, length-append}
use lib.Seq.{take-append_seam}
use Rattle.rules.specs.Bytes.{blank_byte}
use Rattle.rules.specs.Lines.{Line, lines, text, blank, indented, folds}
use Rattle.rules.specs.Lists.{All, filled, join, starts}
use Rattle.rules.specs.Paragraph.{cherry_picked, signed_off, recognised, leads, Group, grouped, grouped_lines, lead_count, other_count, any_recognised}
use Rattle.rules.specs.Paragraph.{accepted, Above, nothing, at_top, under, above_lines, solid, Body, empty, ended, body_lines}
use Rattle.rules.specs.Paragraph.{block_at, start_of, onto, put, parse, block_start}
use Rattle.rules.specs.Trailer.{trailer_line, token_in}
use Rattle.rules.proofs.Above.{settled}
use Rattle.rules.proofs.Lines.{filled-lines, join-lines, lines_prefix}
use Rattle.rules.proofs.Lists.{and_right, or_cases, or_left, filled_some, is_true, is_false, join-append}
use Rattle.rules.proofs.Paragraph.{leads_not_folds, parse-lines}
use Rattle.rules.proofs.Trailer.{indented_no_trailer, trailer_line_lem}
use Rattle.trailer.specs.Line.{parsed}
use Rattle.trailer.proofs.Parsed.{parsed_told}
use Rattle.trailer.specs.declared.line.TrailerLine.{TrailerLine}
use Rattle.paragraph.specs.declared.Scan.{Scan}
use Rattle.paragraph.specs.declared.Paragraph.{Paragraph}
pub use Rattle.paragraph.specs.Scan.{is_block}
use Rattle.paragraph.specs.Scan.{counts, counted, scanned, start_in, paragraph, last_paragraph, text_end, end_above}

-- ---- a trailer line

-- what an answer of `parse_trailer_line` tells of the line
pub told : (l : Line) (r q : Option TrailerLine) → r ≡ parsed l → r ≡ q → trailer_line l ≡ is_some q
told l r q e f = sym (parsed_told l) ∙ ap is_some (sym e ∙ f)

-- ---- an indented line is no trailer line, and none that begins with `S` or `(`

pub indented_not_leads : (l : Line) → indented l ≡ true → leads l ≡ false
unfolding indented leads recognised blank_byte
indented_not_leads [] i = absurd (false≢true i)
indented_not_leads (c ∷ l) i =
    rw (differs 83 refl, differs 40 refl, is_false (trailer_line (c ∷ l)) (indented_no_trailer (c ∷ l) (rw i tt)))
  where
    differs : (x : ℕ) → blank_byte x ≡ false → eqb x c ≡ false
    differs x n = ne_eqb x c (λ e. false≢true (sym n ∙ ap blank_byte e ∙ i))

-- ---- one line more above

-- no blank line stands above the paragraph yet
abbrev pub Open : Body → Type 0
Open (empty bs) = Unit {0}
Open (ended nothing p bs) = Unit {0}
Open (ended (at_top b) p bs) = ⊥
Open (ended (under ls l b) p bs) = ⊥

same_counts : {saw one : Bool} {t u n m p q : ℕ} → t ≡ u → n ≡ m → p ≡ q → counts saw one t n p ≡ counts saw one u m q
same_counts e f g = rw (e, f, g)

not_recognised : (l : Line) → leads l ≡ false → recognised l ≡ false
unfolding leads
not_recognised l e = is_false (recognised l) (not_T (recognised l) (λ r. T_not (leads l) (rw e tt) (or_left (recognised l) (trailer_line l) r)))

counted-onto : (saw : Bool) (l : Line) (top : List Line) (gs : List Group) (bs : List Line) → T (solid l)
    → counted (ended nothing (onto (folds l) l (grouped top gs)) bs)
    ≡ scanned l (counts saw (any_recognised gs) (lead_count gs) (other_count gs) (length top))
unfolding folds
counted-onto saw l top gs bs s = by (leads l) (indented l) refl refl
  where
    by : (b i : Bool) → leads l ≡ b → indented l ≡ i
        → counted (ended nothing (onto (folds l) l (grouped top gs)) bs)
        ≡ scanned l (counts saw (any_recognised gs) (lead_count gs) (other_count gs) (length top))
    by true i e f = simp (e, is_false (folds l) (leads_not_folds l (rw e tt))) (same_counts (omega arith) (omega arith) refl)
    by false true e f = simp (e, f, is_false (blank l) s) (same_counts refl refl (omega arith))
    by false false e f = simp (e, f, not_recognised l e) (same_counts (omega arith) (omega arith) refl)

pub counted-put : (l : Line) (t : Body) → T (solid l) → Open t → counted (put false l t) ≡ scanned l (counted t)
counted-put l (empty bs) s o = counted-onto false l [] [] bs s
counted-put l (ended nothing (grouped top gs) bs) s o = counted-onto true l top gs bs s
counted-put l (ended (at_top b) p bs) s o = absurd o
counted-put l (ended (under ls m b) p bs) s o = absurd o

pub open_put : (l : Line) (t : Body) → Open t → Open (put false l t)
open_put l (empty bs) o = tt
open_put l (ended nothing p bs) o = tt
open_put l (ended (at_top b) p bs) o = o
open_put l (ended (under ls m b) p bs) o = o

-- blank lines below the paragraph change nothing
pub blank-put : (l : Line) (t : Body) → Open t → (counted t).saw_non_blank_line ≡ false
    → Open (put true l t) × (counted (put true l t) ≡ counted t)
blank-put l (empty bs) o n = (tt, refl)
blank-put l (ended a (grouped top gs) bs) o n = absurd (true≢false n)

-- ---- the counts are no more than the bytes: a line has one, and one that leads has two

starts_within : (p : List ℕ) (l : Line) → T (starts p l) → length p ≤ length l
starts_within [] l s = omega arith
starts_within (x ∷ p) [] s = absurd s
starts_within (x ∷ p) (c ∷ l) s = omega (arith, starts_within p l (and_right (eqb x c) (starts p l) s))

recognised_two : (l : Line) → T (recognised l) → 2 ≤ length l
unfolding recognised
recognised_two l r = elim (or_cases (starts signed_off l) (starts cherry_picked l) r) [
  | inl s ↦ omega (arith, starts_within signed_off l s)
  | inr s ↦ omega (arith, starts_within cherry_picked l s)
]

trailer_two : (l : Line) → T (trailer_line l) → 2 ≤ length l
trailer_two l t =
    let r = trailer_line_lem l t in
    omega (arith, filled_some (token_in l) r.not_empty, simp length-append at (ap length r.read))

leads_two : (l : Line) → T (leads l) → 2 ≤ length l
unfolding leads
leads_two l h = elim (or_cases (recognised l) (trailer_line l) h) [ inl r ↦ recognised_two l r | inr t ↦ trailer_two l t ]

abbrev pub weight : Scan → ℕ
weight s = 2 * s.trailer_lines + s.non_trailer_lines + s.possible_continuation_lines

scanned_within : (l : Line) (s : Scan) → T (filled l) → weight (scanned l s) ≤ weight s + length l
scanned_within l s f = by (leads l) (indented l) refl refl
  where
    by : (b i : Bool) → leads l ≡ b → indented l ≡ i → weight (scanned l s) ≤ weight s + length l
    by true i e g = simp e (omega (arith, leads_two l (rw e tt)))
    by false true e g = simp (e, g) (omega (arith, filled_some l f))
    by false false e g = simp (e, g) (omega (arith, filled_some l f))

put_within : (b : Bool) (l : Line) (t : Body) → b ≡ blank l → T (filled l) → weight (counted (put b l t)) ≤ weight (counted t) + length l
put_within true l (empty bs) e f = omega arith
put_within false l (empty bs) e f = rw (counted-put l (empty bs) (rw (← e) tt) tt) (scanned_within l (counted (empty bs)) f)
put_within true l (ended nothing (grouped top gs) bs) e f = omega arith
put_within false l (ended nothing p bs) e f =
    rw (counted-put l (ended nothing p bs) (rw (← e) tt) tt) (scanned_within l (counted (ended nothing p bs)) f)
put_within b l (ended (at_top c) (grouped top gs) bs) e f = omega arith
put_within b l (ended (under ls m c) (grouped top gs) bs) e f = omega arith

parse_within : (ls : List Line) → All filled ls → weight (counted (parse ls)) ≤ length (join ls)
parse_within [] f = omega arith
parse_within (l ∷ ls) f =
    omega (arith, put_within (blank l) l (parse ls) refl f.0, parse_within ls f.1, length-append l (join ls))

pub counted_within : (s : List ℕ) → weight (counted (parse (lines s))) ≤ length s
counted_within s = rw (join-lines s) at (parse_within (lines s) (filled-lines s))

-- ---- a blank line above the paragraph settles it, whatever stands above

pub closed : (end : ℕ) (us ls : List Line) (b : Line) → end ≡ length (join us) + length b
    → Open (parse ls) → (counted (parse ls)).saw_non_blank_line ≡ true → T (blank b)
    → last_paragraph (parse (us ++ b ∷ ls)) ≡ paragraph end (counted (parse ls))
closed end us ls b q o n t = by (parse ls) refl o n
  where
    by : (x : Body) → parse ls ≡ x → Open x → (counted x).saw_non_blank_line ≡ true
        → last_paragraph (parse (us ++ b ∷ ls)) ≡ paragraph end (counted x)
    by (empty bs) e w m = absurd (false≢true m)
    by (ended nothing (grouped top gs) bs) e w m =
        let s = settled us (b ∷ ls) (at_top b) (grouped top gs) bs (rw (is_true (blank b) t, e)) tt in
        simp (q, s.tree, s.all_above, join-append, length-append, append-nil)
    by (ended (at_top c) p bs) e w m = absurd w
    by (ended (under ms k c) p bs) e w m = absurd w

-- where no blank line stands above, the paragraph starts at 0
pub unclosed : (t : Body) → Open t → last_paragraph t ≡ paragraph 0 (counted t)
unclosed (empty bs) o = refl
unclosed (ended nothing (grouped top gs) bs) o = refl
unclosed (ended (at_top b) p bs) o = absurd o
unclosed (ended (under ls l b) p bs) o = absurd o

-- ---- it starts in the body

start_in_lem : (t : Body) → start_in t ≤ length (join (body_lines t))
start_in_lem (empty bs) = omega arith
start_in_lem (ended a p bs) = simp (join-append, length-append) (omega arith)

pub paragraph_within : (body : List ℕ) (p : Paragraph) → p ≡ last_paragraph (parse (lines body))
    → (p.start ≤ length body) × (weight p.scan ≤ length body)
paragraph_within body p e =
    rw e (rw (parse-lines (lines body), join-lines body) at (start_in_lem (parse (lines body))), counted_within body)

-- ---- the block start by the counts

pub drop_last_lem : (us : List Line) (l : Line) → drop_last (us ++ l ∷ []) ≡ us
drop_last_lem [] l = refl
drop_last_lem (u ∷ []) l = refl
drop_last_lem (u ∷ v ∷ us) l = rw (drop_last_lem (v ∷ us) l)

pub text_end_lem : (us : List Line) (l : Line) → text_end (us ++ l ∷ []) ≡ length (join us) + length (text l)
text_end_lem [] l = rw (zero-add (length (text l)))
text_end_lem (u ∷ []) l = rw append-nil
text_end_lem (u ∷ v ∷ us) l = omega (arith, text_end_lem (v ∷ us) l, length-append u (join (v ∷ us)))

end_above_lem : (us : List Line) (l b : Line) → end_above (us ++ l ∷ b ∷ []) ≡ length (join us) + length (text l)
end_above_lem us l b = ap text_end (ap drop_last (sym (append_assoc us (l ∷ []) (b ∷ []))) ∙ drop_last_lem (us ++ l ∷ []) b) ∙ text_end_lem us l

above_end : (a : Above) → end_above (above_lines a) ≡ block_at a
above_end nothing = refl
above_end (at_top b) = refl
above_end (under ls l b) = end_above_lem ls l b

tree_decides : (body : List ℕ) (t : Body) → body_lines t ≡ lines body
    → start_of t (length body) ≡ (if is_block (counted t) then end_above (lines (take (start_in t) body)) else length body)
unfolding accepted
tree_decides body (empty bs) e = refl
tree_decides body (ended a (grouped top gs) bs) e =
    let us : List Line = above_lines a in
    let ls : List Line = grouped_lines (grouped top gs) ++ bs in
    let read : lines body ≡ us ++ ls = sym e ∙ append_assoc us (grouped_lines (grouped top gs)) bs in
    let above : take (length (join us)) body ≡ join us =
    ap (take (length (join us))) (sym (join-lines body) ∙ ap join read ∙ join-append us ls) ∙ take-append_seam (join us) (join ls) in
    rw (above, lines_prefix body us ls read, above_end a, add_comm (other_count gs) (length top))

pub start_decided : (body : List ℕ) (p : Paragraph) (b : Bool) → p ≡ last_paragraph (parse (lines body)) → b ≡ is_block p.scan
    → block_start body ≡ (if b then end_above (lines (take p.start body)) else length body)
unfolding block_start
start_decided body p b e d = rw (d, e) (tree_decides body (parse (lines body)) (parse-lines (lines body)))
