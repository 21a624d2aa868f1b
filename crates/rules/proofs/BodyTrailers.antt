-- The trailers of a body are those of its last paragraph where that is a block, and none otherwise (body_trailers): from the
-- block's start on, nothing above the paragraph is a trailer line, and nothing below it is. Assumes nothing.
use Rattle.std.specs.Prelude.{if◌then◌else◌}
use mathlib.Core.Bool.{Bool, true, false, not}
use mathlib.Core.List.{List, [], ◌∷◌, ◌++◌, append_assoc, append-nil}
use mathlib.Core.Path.{◌≡◌, refl, sym, ap, ◌∙◌}
use Prim.Native.Nat.{ℕ, ◌+◌}
use native.Mathlib.Omega.{arith}
use lib.Dec.{T, T_not, not_T}
use lib.ListN.{length, drop, length-append}
use lib.Seq.{drop_at}
use Rattle.rules.specs.Bytes.{LF, CR, blank_byte}
use Rattle.rules.specs.Lines.{Line, lines, text, blank, indented, folds}
use Rattle.rules.specs.Lists.{All, Stops, join}
use Rattle.rules.specs.Paragraph.{Above, nothing, at_top, under, above_lines, IsAbove, Body, empty, ended, body_lines, IsBody}
use Rattle.rules.specs.Paragraph.{grouped_lines, accepted, block_at, start_of, parse, block_start, trailers_of}
use Rattle.rules.specs.Trailer.{Trailer, walk, walk_from}
use Rattle.rules.proofs.Lines.{Ending, bare, lf, crlf, cr, text_ending, join-lines, lines_suffix}
use Rattle.rules.proofs.Lists.{and_right, all_of, join-append}
use Rattle.rules.proofs.Paragraph.{parse-lines, parse_is}
use Rattle.rules.proofs.Trailer.{plain, blank_no_trailer, indented_no_trailer, walk-plain, walk-append}
use Rattle.rules.proofs.Walk.{walk_ends}

-- ---- from the block's start on, the lines above the paragraph are no trailer lines

-- a line's ending and the blank line under it: one or two lines, none of which is a trailer line
abbrev Opening : List ℕ → Line → List Line → Type 0
Opening e b rest = (pre : List Line) × (lines (e ++ join (b ∷ rest)) ≡ pre ++ rest) × All plain pre × (join pre ≡ e ++ b)

opening : (e : List ℕ) (b : Line) (rest : List Line) → Ending e → T (blank b) → lines (join (b ∷ rest)) ≡ b ∷ rest → Opening e b rest
unfolding indented blank_byte
opening e b rest bare t q = (b ∷ [], q, (blank_no_trailer b t, tt), append-nil b)
opening e b rest lf t q = (
  (LF ∷ []) ∷ b ∷ [],
  ap (λ (x : List Line). (LF ∷ []) ∷ x) q,
  (indented_no_trailer (LF ∷ []) tt, (blank_no_trailer b t, tt)),
  rw (append-nil b),
)
opening e b rest crlf t q = (
  (CR ∷ LF ∷ []) ∷ b ∷ [],
  ap (λ (x : List Line). (CR ∷ LF ∷ []) ∷ x) q,
  (indented_no_trailer (CR ∷ LF ∷ []) tt, (blank_no_trailer b t, tt)),
  rw (append-nil b),
)
opening e b rest cr t q = ((CR ∷ b) ∷ [], rw q, (indented_no_trailer (CR ∷ b) tt, tt), append-nil (CR ∷ b))

-- ---- so the walk from the block's start is that of the paragraph and the lines below it

-- from the end `at` of the first bytes `x` of the line above the blank line on
walk_under : (body : List ℕ) (at : ℕ) (ls : List Line) (l b : Line) (x end : List ℕ) (rest : List Line)
    → Ending end → T (blank b) → l ≡ x ++ end → at ≡ length (join ls) + length x
    → lines body ≡ (ls ++ l ∷ b ∷ []) ++ rest → walk_from body at ≡ walk (length (join (ls ++ l ∷ b ∷ []))) rest
walk_under body at ls l b x end rest ends w q k e =
    let read : lines body ≡ (ls ++ l ∷ []) ++ b ∷ rest = e ∙ simp append_assoc in
    let whole : body ≡ (join ls ++ x) ++ (end ++ join (b ∷ rest)) =
    sym (join-lines body) ∙ ap join read ∙ simp (join-append, append_assoc, q) in
    let here : drop at body ≡ end ++ join (b ∷ rest) =
    ap (drop at) whole ∙ drop_at (join ls ++ x) (end ++ join (b ∷ rest)) at (length-append (join ls) x ∙ sym k) in
    let (pre, reads, skipped, size) = opening end b rest ends w (lines_suffix body (ls ++ l ∷ []) (b ∷ rest) read) in
    ap (λ (s : List ℕ). walk at (lines s)) here ∙ ap (walk at) reads
    ∙ walk-plain at (length (join (ls ++ l ∷ b ∷ []))) pre rest skipped
    (rw (size, q) (simp (join-append, length-append, append-nil) (omega arith)))

walk_above : (body : List ℕ) (a : Above) (rest : List Line) → IsAbove a → lines body ≡ above_lines a ++ rest
    → walk_from body (block_at a) ≡ walk (length (join (above_lines a))) rest
walk_above body nothing rest w e = ap (walk 0) e
walk_above body (at_top b) rest w e =
    ap (walk 0) e ∙ walk-plain 0 (length (join (b ∷ []))) (b ∷ []) rest (blank_no_trailer b w, tt) (omega arith)
walk_above body (under ls l b) rest w e =
    let (end, ends, q) = text_ending l in
    walk_under body (block_at (under ls l b)) ls l b (text l) end rest ends w q refl e

-- ---- no trailer begins in the blank lines below, and none of them goes on with a value

blank_stops : (bs : List Line) → All blank bs → Stops folds bs
unfolding folds
blank_stops [] w = tt
blank_stops (b ∷ bs) w = not_T (folds b) (λ f. T_not (blank b) (and_right (indented b) (not (blank b)) f) w.0)

walk_blanks : (at : ℕ) (bs : List Line) → All blank bs → walk at bs ≡ []
walk_blanks at bs w =
    rw (append-nil bs) at (walk-plain at (at + length (join bs)) bs [] (all_of blank plain blank_no_trailer bs w) refl)

walk_below : (at : ℕ) (ls bs : List Line) → All blank bs → walk at (ls ++ bs) ≡ walk at ls
walk_below at ls bs w =
    let k : ℕ = at + length (join ls) in
    walk-append at k ls bs (blank_stops bs w) refl ∙ rw (walk_blanks k bs w) (append-nil (walk at ls))

-- ---- the trailers of a body

-- those of its last paragraph, at their places, where that is a block
abbrev pub block_trailers : Body → List Trailer
block_trailers (empty bs) = []
block_trailers (ended a p bs) = if accepted p then walk (length (join (above_lines a))) (grouped_lines p) else []

tree_trailers : (body : List ℕ) (t : Body) → IsBody t → body_lines t ≡ lines body → walk_from body (start_of t (length body)) ≡ block_trailers t
tree_trailers body (empty bs) w e = walk_ends body (length body) (omega arith)
tree_trailers body (ended a p bs) w e = by (accepted p)
  where
    first : ℕ
    first = length (join (above_lines a))

    by : (b : Bool) → walk_from body (if b then block_at a else length body) ≡ (if b then walk first (grouped_lines p) else [])
    by true =
        walk_above body a (grouped_lines p ++ bs) w.0 (sym e ∙ append_assoc (above_lines a) (grouped_lines p) bs)
        ∙ walk_below first (grouped_lines p) bs w.4
    by false = walk_ends body (length body) (omega arith)

pub body_trailers : (body : List ℕ) → trailers_of body ≡ block_trailers (parse (lines body))
unfolding block_start
body_trailers body = tree_trailers body (parse (lines body)) (parse_is (lines body)) (parse-lines (lines body))
