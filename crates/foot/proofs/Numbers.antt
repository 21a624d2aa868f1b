-- K8 in K6: a record's number counts the lines from the trailer's own to the last, which is 1 (counted_upward); the numbers fall along the
-- walk, and none is more than the lines looked at (numbers_fall, foot_falls). Assumes nothing.
use Rattle.std.specs.Prelude.{if◌then◌else◌}
use mathlib.Core.Bool.{Bool, true, false}
use mathlib.Core.List.{List, [], ◌∷◌, ◌++◌, map}
use mathlib.Core.Path.{◌≡◌, refl, sym, ap, ◌∙◌}
use Prim.Native.Nat.{ℕ, suc, ◌+◌, ◌-◌, ◌≤◌, ◌<◌}
use native.Mathlib.Omega.{arith}
use lib.ListN.{length, take, drop, length-drop, drop_of_length-le}
use lib.Seq.{drop_at, drop-drop}
use Rattle.rules.proofs.Lines.{join-lines, lines_suffix}
use Rattle.rules.proofs.Number.{moved_right}
use Rattle.rules.proofs.Paragraph.{parse-lines}
use Rattle.rules.proofs.Walk.{walk_moves, walk_stands, walk_step}
use Rattle.rules.specs.Lines.{Line, folds, lines}
use Rattle.rules.specs.Lists.{join, run}
use Rattle.rules.specs.Number.{Right, cursor_at, line_feeds, moved_on}
use Rattle.rules.specs.Paragraph.{Body, empty, ended, above_lines, accepted, block_start, body_lines, grouped_lines, parse, trailers_of}
use Rattle.rules.specs.Record.{written_of}
use Rattle.rules.specs.Trailer.{Trailer, trailer, end_of, place_of, raw_value, trailer_line, walk, walk_from}
use Rattle.rules.specs.declared.Cursor.{Cursor}
use Rattle.rules.specs.declared.TrailerRef.{TrailerRef}
use Rattle.listing.specs.Listing.{from_end, records_of, tell}
use Rattle.foot.specs.Foot.{Falls, closing, foot, foot_lines, foot_records, looked, told_records}
use Rattle.foot.specs.Found.{foot_start, lines_from, walk_start}
use Rattle.foot.proofs.Moved.{walk_place}
use Rattle.foot.proofs.Told.{lines_at, lines_below, some_filled, walk_from_foot}

abbrev pub numbers_of : List TrailerRef → List ℕ
numbers_of rs = map (λ (r : TrailerRef). r.line) rs

abbrev pub lines_up_to : List ℕ → List Trailer → List ℕ
lines_up_to body ts = map (λ (t : Trailer). lines_from body (place_of t)) ts

-- ---- what a number counts

right_at : (body : List ℕ) (c : Cursor) (at : ℕ) → c ≡ cursor_at body at → Right body c
right_at body c at e = rw e refl

told_lines : (body : List ℕ) (size used : ℕ) (c : Cursor) (ts : List Trailer) → Right body c → walk_from body c.at ≡ ts
    → numbers_of (map (tell (from_end size (length (lines body)))) (records_of body c used ts)) ≡ lines_up_to body ts
unfolding records_of
told_lines body size used c [] right e = refl
told_lines body size used c (t ∷ ts) right e =
    let at : ℕ = place_of t in
    let stands = walk_stands body c.at t ts e in
    let inside : at < length body = omega (arith, stands.token_ends, stands.raw_ends, stands.inside) in
    let here : (moved_on body c at).line ≡ suc (line_feeds (take at body)) =
    ap (λ (d : Cursor). d.line) (moved_right body c at right (walk_place body c.at t ts e)) in
    let all = lines_at body at (some_filled (drop at body) (omega (arith, length-drop at body))) in
    let number : length (lines body) + 1 - (moved_on body c at).line ≡ lines_from body at = omega (arith, here, all) in
    let next = moved_right body c (end_of t) right (omega (arith, walk_moves body c.at t ts e)) in
    rw (
      number,
      told_lines body size (used + length (written_of (raw_value t))) (moved_on body c (end_of t)) ts
          (right_at body (moved_on body c (end_of t)) (end_of t) next) (walk_step body c.at t ts e),
    )

-- "counts upward from the last line, which is 1"
pub counted_upward : (body : List ℕ) → numbers_of (told_records body) ≡ lines_up_to body (trailers_of body)
unfolding told_records
counted_upward body = told_lines body (length body) 0 (cursor_at body (block_start body)) (trailers_of body) refl refl

-- ---- they fall

falls_more : (ks : List ℕ) (n m : ℕ) → n ≤ m → Falls n ks → Falls m ks
falls_more [] n m h f = tt
falls_more (k ∷ ks) n m h f = (omega (arith, f.0), f.1)

walk_falls : (body : List ℕ) (at : ℕ) (ls : List Line) → drop at body ≡ join ls → lines (join ls) ≡ ls → Falls (suc (length ls)) (lines_up_to body (walk at ls))
walk_falls body at [] e f = tt
walk_falls body at (l ∷ ls) e f = by (trailer_line l) (walk_falls body (at + length l) ls next (lines_suffix (join (l ∷ ls)) (l ∷ []) ls f))
  where
    next : drop (at + length l) body ≡ join ls
    next = sym (drop-drop (length l) at body) ∙ rw e (drop_at l (join ls) (length l) refl)

    here : lines_from body at ≡ suc (length ls)
    here = ap (λ (s : List ℕ). length (lines s)) e ∙ ap length f

    by : (b : Bool) → Falls (suc (length ls)) (lines_up_to body (walk (at + length l) ls))
        → Falls (suc (suc (length ls))) (lines_up_to body (if b then trailer at l (run folds ls) ∷ walk (at + length l) ls else walk (at + length l) ls))
    by true h = (omega (arith, here), rw here h)
    by false h = falls_more (lines_up_to body (walk (at + length l) ls)) (suc (length ls)) (suc (suc (length ls))) (omega arith) h

-- the walk's lines are among those looked at
tree_looked : (body : List ℕ) (t : Body) → body_lines t ≡ lines body → lines_from body (walk_start t (length body)) ≤ looked t
tree_looked body (empty bs) e = rw (drop_of_length-le body {i = length body} (omega arith)) (omega arith)
tree_looked body (ended a p bs) e = by (accepted p)
  where
    by : (b : Bool) → lines_from body (if b then length (join (above_lines a)) else length body) ≤ closing a + length (grouped_lines p ++ bs)
    by true = omega (arith, ap length (lines_below body a p bs e))
    by false = rw (drop_of_length-le body {i = length body} (omega arith)) (omega arith)

walk-looked : (body : List ℕ) → lines_from body (foot_start body) ≤ looked (parse (lines body))
unfolding foot_start
walk-looked body = tree_looked body (parse (lines body)) (parse-lines (lines body))

-- "numbers rise strictly along the walk, and in K6 fall"
pub numbers_fall : (body : List ℕ) → Falls (suc (looked (parse (lines body)))) (numbers_of (told_records body))
numbers_fall body =
    let at : ℕ = foot_start body in
    let rest : List ℕ = drop at body in
    rw (counted_upward body, ← (walk_from_foot body))
    (falls_more (lines_up_to body (walk_from body at)) (suc (lines_from body at)) (suc (looked (parse (lines body)))) (omega (arith, walk-looked body))
    (walk_falls body at (lines rest) (sym (join-lines rest)) (ap lines (join-lines rest))))

kept_lines : (tail : List ℕ) (whole : Bool) → lines (join (foot_lines tail whole)) ≡ foot_lines tail whole
kept_lines tail true = ap lines (join-lines tail)
kept_lines tail false = by (lines tail) refl
  where
    by : (ls : List Line) → lines tail ≡ ls → lines (join (drop 1 ls)) ≡ drop 1 ls
    by [] e = refl
    by (l ∷ ls) e = lines_suffix tail (l ∷ []) ls e

pub foot_falls : (tail : List ℕ) (whole : Bool) → Falls (suc (looked (foot tail whole))) (numbers_of (foot_records tail whole))
foot_falls tail whole =
    rw (kept_lines tail whole) at (numbers_fall (join (foot_lines tail whole)))
