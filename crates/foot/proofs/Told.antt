-- The full walk of a body, told from the end: it may be listed from any place from which the trailers are the same, with the lines counted
-- from there (told_from), so from the last paragraph (walk_from_foot); and what stands above a blank line above the last paragraph
-- changes nothing of it (told_below, values_below). Assumes nothing.
use Rattle.std.specs.Prelude.{if◌then◌else◌}
use mathlib.Core.Bool.{Bool, true, false}
use mathlib.Core.List.{List, [], ◌∷◌, ◌++◌, append_assoc, map}
use mathlib.Core.Path.{◌≡◌, refl, sym, ap, ◌∙◌}
use Prim.Native.Nat.{ℕ, ◌+◌, ◌≤◌, ◌<◌}
use native.Mathlib.Nat.{add-zero}
use native.Mathlib.Omega.{arith}
use borrow.Author.Tests.{le-leb}
use lib.Dec.{T}
use lib.ListN.{length, take, drop, length-drop, take-append-drop}
use lib.Seq.{drop_at}
use Rattle.rules.proofs.Above.{Foot, trailers_below}
use Rattle.rules.proofs.BodyTrailers.{block_trailers, body_trailers}
use Rattle.rules.proofs.Lines.{join-lines, lines_suffix}
use Rattle.rules.proofs.Lists.{join-append}
use Rattle.rules.proofs.Number.{feeds_and_lines}
use Rattle.rules.proofs.Paragraph.{body_unique, parse_is, parse-lines, start_by}
use Rattle.rules.proofs.Walk.{shifted as further, walk_ends, walk_moves, walk_shift, walk_within}
use Rattle.rules.specs.Lines.{Line, LineStart, lines}
use Rattle.rules.specs.Lists.{filled, join}
use Rattle.rules.specs.Number.{cursor_at, cursor_fits, line_feeds}
use Rattle.rules.specs.Paragraph.{Above, nothing, Grouped, Body, empty, ended, IsBody, above_lines, accepted, block_start, body_lines, grouped_lines, parse, trailers_of}
use Rattle.rules.specs.Trailer.{Trailer, walk, walk_from}
use Rattle.paragraph.proofs.Scanned.{paragraph_within}
use Rattle.paragraph.specs.Scan.{last_paragraph, start_in}
use Rattle.listing.specs.Listing.{from_end, records_from, tell, values_of}
use Rattle.foot.specs.Foot.{told_records, told_values}
use Rattle.foot.specs.Found.{foot_cursor, foot_start, lines_from, walk_start}
use Rattle.foot.proofs.Moved.{not_moved, told_same, values_moved}

-- ---- lines and LFs

pub some_filled : (s : List ℕ) → 0 < length s → T (filled s)
some_filled [] h = absurd (omega arith)
some_filled (c ∷ s) h = tt

-- a walk that finds a trailer has bytes before it
walk-filled : (s : List ℕ) (at : ℕ) (ts : List Trailer) → walk_from s at ≡ ts → T (filled ts) → T (filled (drop at s))
walk-filled s at [] e f = absurd f
walk-filled s at (t ∷ ts) e f =
    some_filled (drop at s) (omega (arith, length-drop at s, walk_moves s at t ts e, walk_within s at t ts e))

walk_some : (s : List ℕ) (at : ℕ) (ts : List Trailer) → walk_from s at ≡ ts → T (filled ts) → T (filled s)
walk_some s at [] e f = absurd f
walk_some s at (t ∷ ts) e f = some_filled s (omega (arith, walk_moves s at t ts e, walk_within s at t ts e))

-- the LFs before a place and the lines from there on are all lines
pub lines_at : (s : List ℕ) (at : ℕ) → T (filled (drop at s)) → length (lines s) ≡ line_feeds (take at s) + lines_from s at
lines_at s at f = ap (λ (x : List ℕ). length (lines x)) (sym (take-append-drop at s)) ∙ feeds_and_lines (take at s) (drop at s) f

-- ---- from another place

pub told_from : (body : List ℕ) (at : ℕ) → walk_from body at ≡ trailers_of body
    → told_records body ≡ map (tell (from_end (length body) (lines_from body at))) (records_from body (record { at = at; line = 1 }))
unfolding told_records
told_from body at same =
    told_same [] body (length (lines body)) (lines_from body at) (cursor_at body (block_start body)) (record { at = at; line = 1 }) (walk_from body at)
    (λ f. omega (arith, lines_at body at (walk-filled body at (walk_from body at) refl f)))
    (sym same ∙ sym (not_moved (walk_from body at))) refl

-- ---- from the last paragraph

-- the last paragraph and the blank lines below it are a body by themselves, whose trailers are those of the paragraph
by_itself : (p : Grouped) (bs : List Line) → IsBody (ended nothing p bs) → lines (join (grouped_lines p ++ bs)) ≡ grouped_lines p ++ bs → accepted p ≡ true
    → walk 0 (grouped_lines p ++ bs) ≡ walk 0 (grouped_lines p)
by_itself p bs w e taken =
    let s : List ℕ = join (grouped_lines p ++ bs) in
    let t : Body = ended nothing p bs in
    let tree : parse (lines s) ≡ t = body_unique (parse (lines s)) t (parse_is (lines s)) w (parse-lines (lines s) ∙ e) in
    let start : block_start s ≡ 0 = start_by s t w (sym e) ∙ rw taken in
    ap (walk 0) (sym e) ∙ ap (walk_from s) (sym start) ∙ body_trailers s ∙ rw (tree, taken)

walk_at : (k : ℕ) (ls : List Line) → walk k ls ≡ map (further k) (walk 0 ls)
walk_at k ls = ap (λ (i : ℕ). walk i ls) (sym (add-zero k)) ∙ walk_shift k 0 ls

-- the lines from the paragraph on
pub lines_below : (body : List ℕ) (a : Above) (p : Grouped) (bs : List Line) → body_lines (ended a p bs) ≡ lines body
    → lines (drop (length (join (above_lines a))) body) ≡ grouped_lines p ++ bs
lines_below body a p bs e =
    let k : ℕ = length (join (above_lines a)) in
    let rest : List Line = grouped_lines p ++ bs in
    let read : lines body ≡ above_lines a ++ rest = sym e ∙ append_assoc (above_lines a) (grouped_lines p) bs in
    let here : drop k body ≡ join rest =
    ap (drop k) (sym (join-lines body) ∙ ap join read ∙ join-append (above_lines a) rest) ∙ drop_at (join (above_lines a)) (join rest) k refl in
    ap lines here ∙ lines_suffix body (above_lines a) rest read

tree_walk : (body : List ℕ) (t : Body) → IsBody t → body_lines t ≡ lines body → walk_from body (walk_start t (length body)) ≡ block_trailers t
tree_walk body (empty bs) w e = walk_ends body (length body) (omega arith)
tree_walk body (ended a p bs) w e = by (accepted p) refl
  where
    by : (b : Bool) → accepted p ≡ b
        → walk_from body (if b then length (join (above_lines a)) else length body)
        ≡ (if b then walk (length (join (above_lines a))) (grouped_lines p) else [])
    by true taken =
        let k : ℕ = length (join (above_lines a)) in
        let rest : List Line = grouped_lines p ++ bs in
        let read : lines (drop k body) ≡ rest = lines_below body a p bs e in
        let alone : lines (join rest) ≡ rest = ap (λ (ls : List Line). lines (join ls)) (sym read) ∙ ap lines (join-lines (drop k body)) ∙ read in
        ap (walk k) read ∙ walk_at k rest
        ∙ ap (map (further k)) (by_itself p bs (tt, w.1, w.2, w.3, w.4) alone taken) ∙ sym (walk_at k (grouped_lines p))
    by false no_block = walk_ends body (length body) (omega arith)

pub walk_from_foot : (body : List ℕ) → walk_from body (foot_start body) ≡ trailers_of body
unfolding foot_start
walk_from_foot body =
    tree_walk body (parse (lines body)) (parse_is (lines body)) (parse-lines (lines body)) ∙ sym (body_trailers body)

-- its cursor fits
start_inside : (t : Body) (size : ℕ) → start_in t ≤ size → walk_start t size ≤ size
start_inside (empty bs) size h = omega arith
start_inside (ended a p bs) size h = by (accepted p)
  where
    by : (b : Bool) → (if b then length (join (above_lines a)) else size) ≤ size
    by true = h
    by false = omega arith

pub foot_inside : (body : List ℕ) → foot_start body ≤ length body
unfolding foot_start
foot_inside body =
    start_inside (parse (lines body)) (length body) (paragraph_within body (last_paragraph (parse (lines body))) refl).0

pub foot_fits : (body : List ℕ) → cursor_fits (foot_cursor body) body ≡ true
foot_fits body =
    rw (le-leb (foot_start body) (length body) (foot_inside body), le-leb 1 (foot_start body + 1) (omega arith))

-- ---- below a blank line

pub told_below : (above below : List ℕ) → LineStart above → Foot (lines below) → told_records (above ++ below) ≡ told_records below
unfolding told_records
told_below above below start f =
    told_same above below (length (lines (above ++ below))) (length (lines below))
    (cursor_at (above ++ below) (block_start (above ++ below))) (cursor_at below (block_start below)) (trailers_of below)
    (λ g. omega (arith, feeds_and_lines above below (walk_some below (block_start below) (trailers_of below) refl g)))
    (trailers_below above below start f) refl

pub values_below : (above below : List ℕ) → LineStart above → Foot (lines below) → told_values (above ++ below) ≡ told_values below
unfolding told_values
values_below above below start f =
    ap values_of (trailers_below above below start f) ∙ values_moved (length above) (trailers_of below)
