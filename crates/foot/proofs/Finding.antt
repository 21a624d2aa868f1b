-- What `find_foot` reads off the last paragraph: its closing blank line is the first of the last bytes, or there is none, exactly where they
-- are not enough (enough_is); the lines looked at are those from its start on (looked_is); the walk starts where it should (start_is); what stands above
-- is not looked at (above_unread). What an answer of `find_foot` tells (found_more, found_at). Assumes nothing.
use Rattle.std.specs.Prelude.{None, Some, if◌then◌else◌}
use Rattle.std.proofs.lemmas.Option.{same_Some}
use mathlib.Core.Bool.{Bool, true, false, not, ◌&&◌}
use mathlib.Core.List.{List, [], ◌∷◌, ◌++◌, append_assoc, drop_last}
use mathlib.Core.Path.{◌≡◌, refl, sym, ap, ◌∙◌}
use Prim.Native.Nat.{ℕ, suc, ◌+◌, ◌-◌, ◌≤◌, ◌<◌}
use native.Mathlib.Nat.{add_comm}
use native.Mathlib.Omega.{arith}
use borrow.Author.Tests.{ne_eqb}
use lib.Dec.{T, eqb}
use lib.ListN.{length, take, drop, length-append, length-drop}
use lib.Seq.{drop-append-add, drop_at, length-take-le, take_at}
use Rattle.rules.proofs.Above.{Foot, settled}
use Rattle.rules.proofs.Lines.{join-lines, lines-append, lines_prefix, lines_suffix}
use Rattle.rules.proofs.Lists.{join-append}
use Rattle.rules.proofs.Paragraph.{parse-lines}
use Rattle.rules.specs.Bytes.{LF}
use Rattle.rules.specs.Lines.{Line, LineStart, before, lines}
use Rattle.rules.specs.Lists.{filled, join}
use Rattle.rules.specs.Number.{line_feeds}
use Rattle.rules.specs.Paragraph.{nothing, at_top, under, above_lines, Body, empty, ended, accepted, body_lines, grouped, grouped_lines, other_count, parse}
use Rattle.find.specs.Find.{behind_lf}
use Rattle.text.proofs.Lines.{behind_le, last_line}
use Rattle.text.specs.Lines.{line_start}
use Rattle.paragraph.proofs.Scanned.{drop_last_lem, is_block, paragraph_within}
use Rattle.paragraph.specs.Scan.{last_paragraph, start_in}
use Rattle.paragraph.specs.declared.Paragraph.{Paragraph}
use Rattle.foot.specs.Foot.{foot, foot_enough, looked, settles}
use Rattle.foot.specs.Found.{foot_at, foot_found, foot_start, lines_from, walk_start}
use Rattle.foot.specs.declared.Foot.{Foot as Found}
use Rattle.foot.proofs.Settles.{is_under, looked_below, settles_under}
use Rattle.foot.proofs.Tells.{foot_tells, whole_answers}
use Rattle.foot.proofs.Told.{lines_at}

-- ---- where the closing blank line starts

some_bytes : (s : List ℕ) → 0 < length (lines s) → 0 < length s
some_bytes [] h = h
some_bytes (c ∷ s) h = omega arith

-- s has the lines `us`, then the line `b`, then `rest`
module _ (s : List ℕ) (us : List Line) (b : Line) (rest : List Line) (e : lines s ≡ (us ++ b ∷ []) ++ rest) where
  abbrev front : List ℕ
  front = join (us ++ b ∷ [])

  line_starts : line_start s (length front) ≡ length (join us)
  line_starts =
      let end : ℕ = length front in
      let top : ℕ = line_start s end in
      let front_read : lines front ≡ us ++ b ∷ [] = lines_prefix s (us ++ b ∷ []) rest e in
      let whole : s ≡ front ++ join rest = sym (join-lines s) ∙ ap join e ∙ join-append (us ++ b ∷ []) rest in
      let within : end ≤ length s = omega (arith, ap length whole, length-append front (join rest)) in
      let some : 0 < end = some_bytes front (omega (arith, ap length front_read, length-append us (b ∷ []))) in
      let read : lines (take end s) ≡ us ++ b ∷ [] = ap lines (ap (take end) whole ∙ take_at front (join rest) end refl) ∙ front_read in
      let last = last_line s end some within in
      let above : lines (take top s) ≡ us =
      sym (drop_last_lem (lines (take top s)) (drop top (take end s))) ∙ ap drop_last (sym last ∙ read) ∙ drop_last_lem us b in
      let bytes : take top s ≡ join us = sym (join-lines (take top s)) ∙ ap join above in
      omega (arith, ap length bytes, length-take-le top s (omega (arith, behind_le s (end - 1))))

  lines_there : lines_from s (length (join us)) ≡ suc (length rest)
  lines_there =
      let read : lines s ≡ us ++ b ∷ rest = e ∙ append_assoc us (b ∷ []) rest in
      let here : drop (length (join us)) s ≡ join (b ∷ rest) =
      ap (drop (length (join us))) (sym (join-lines s) ∙ ap join read ∙ join-append us (b ∷ rest)) ∙ drop_at (join us) (join (b ∷ rest)) (length (join us)) refl in
      ap (λ (x : List ℕ). length (lines x)) here ∙ ap length (lines_suffix s us (b ∷ rest) read)

  closing_seen : (k : ℕ) → k ≡ length front → (line_start s k ≡ length (join us)) × (lines_from s (line_start s k) ≡ suc (length rest))
  closing_seen k q =
      let at : line_start s k ≡ length (join us) = ap (line_start s) q ∙ line_starts in
      (at, ap (lines_from s) at ∙ lines_there)

-- the lines looked at are those from the closing line's start on; that is not 0 where a line stands above
record Seen (s : List ℕ) (t : Body) : Type 0 where
  lines_seen : looked t ≡ lines_from s (line_start s (start_in t))
  above_seen : is_under t ≡ not (eqb (line_start s (start_in t)) 0)

seen : (s : List ℕ) (t : Body) → body_lines t ≡ lines s → Seen s t
unfolding behind_lf
seen s (empty bs) e = record { lines_seen = ap length e; above_seen = refl }
seen s (ended nothing p bs) e = record { lines_seen = omega (arith, ap length e); above_seen = refl }
seen s (ended (at_top b) p bs) e =
    let (at, count) = closing_seen s [] b (grouped_lines p ++ bs) (sym e) (length (join (b ∷ []))) refl in
    record { lines_seen = omega (arith, count); above_seen = rw at }
seen s (ended (under ls l b) p bs) e =
    let us : List Line = ls ++ l ∷ [] in
    let rest : List Line = grouped_lines p ++ bs in
    let above-is : above_lines (under ls l b) ≡ us ++ b ∷ [] = sym (append_assoc ls (l ∷ []) (b ∷ [])) in
    let read : lines s ≡ (us ++ b ∷ []) ++ rest =
    sym e ∙ append_assoc (above_lines (under ls l b)) (grouped_lines p) bs ∙ ap (λ (x : List Line). x ++ rest) above-is in
    let (at, count) = closing_seen s us b rest read (start_in (ended (under ls l b) p bs)) (ap (λ (x : List Line). length (join x)) above-is) in
    let above-read : lines (join us) ≡ us = lines_prefix s us (b ∷ rest) (read ∙ append_assoc us (b ∷ []) rest) in
    let some : 0 < length (join us) = some_bytes (join us) (omega (arith, ap length above-read, length-append ls (l ∷ []))) in
    record { lines_seen = omega (arith, count); above_seen = rw (at, ne_eqb (length (join us)) 0 (λ z. omega arith)) }

-- ---- what the finder asks

torn_enough : (ls : List Line) → settles (drop 1 ls) ≡ is_under (parse ls)
torn_enough [] = refl
torn_enough (l ∷ ls) = settles_under l ls

tree_start : (t : Body) (size : ℕ) → walk_start t size ≡ (if is_block (last_paragraph t).scan then (last_paragraph t).start else size)
unfolding accepted
tree_start (empty bs) size = refl
tree_start (ended a (grouped top gs) bs) size = rw (add_comm (other_count gs) (length top))

module _ (tail : List ℕ) (p : Paragraph) (e : p ≡ last_paragraph (parse (lines tail))) where
  all_seen : (top : ℕ) → top ≡ line_start tail p.start → (looked (parse (lines tail)) ≡ lines_from tail top) × (is_under (parse (lines tail)) ≡ not (eqb top 0))
  all_seen top q =
      let s = seen tail (parse (lines tail)) (parse-lines (lines tail)) in
      rw (q, e) (s.lines_seen, s.above_seen)

  enough_is : (whole : Bool) (top : ℕ) → top ≡ line_start tail p.start → foot_enough tail whole ≡ not (not whole && eqb top 0)
  unfolding foot_enough
  enough_is true top q = refl
  enough_is false top q = torn_enough (lines tail) ∙ (all_seen top q).1

  looked_is : (whole : Bool) (top : ℕ) → top ≡ line_start tail p.start → foot_enough tail whole ≡ true → looked (foot tail whole) ≡ lines_from tail top
  looked_is whole top q h = (foot_tells [] tail whole (λ _. refl) h).same_looked ∙ (all_seen top q).0

  pub start_is : foot_start tail ≡ (if is_block p.scan then p.start else length tail)
  unfolding foot_start
  start_is = rw e (tree_start (parse (lines tail)) (length tail))

  pub top_inside : (top : ℕ) → top ≡ line_start tail p.start → top ≤ length tail
  top_inside top q = omega (arith, q, behind_le tail (p.start - 1), (paragraph_within tail p e).0)

  -- its answers
  pub more_answer : (whole : Bool) (top : ℕ) → top ≡ line_start tail p.start → (not whole && eqb top 0) ≡ true
      → None ≡ foot_found tail whole
  more_answer whole top q t = rw (enough_is whole top q, t)

  pub found_answer : (whole : Bool) (top at n k : ℕ) → top ≡ line_start tail p.start → (not whole && eqb top 0) ≡ false
      → at ≡ (if is_block p.scan then p.start else length tail) → n ≡ lines_from tail at → k ≡ lines_from tail top
      → foot_at at n k ≡ foot_found tail whole
  found_answer whole top at n k q t f g h =
      let enough : foot_enough tail whole ≡ true = enough_is whole top q ∙ ap not t in
      let start : at ≡ foot_start tail = f ∙ sym start_is in
      rw (enough, g, h, start, looked_is whole top q enough)

-- ---- lines counted

one_byte : (y : List ℕ) → length y ≡ 1 → (T (filled y)) × (length (lines y) ≡ 1)
one_byte [] h = absurd (omega arith)
one_byte (c ∷ []) h = (tt, elim (eqb c LF) as (λ b. length (before b c []) ≡ 1) [ true ↦ refl | false ↦ refl ])
one_byte (c ∷ d ∷ y) h = absurd (omega arith)

pub count_is : (s : List ℕ) (at : ℕ) → at < length s → lines_from s at ≡ 1 + line_feeds (take (length s - 1 - at) (drop at s))
count_is s at h =
    let y : List ℕ = drop at s in
    let n : ℕ = length s - 1 - at in
    let (some, one) = one_byte (drop n y) (omega (arith, length-drop n y, length-drop at s)) in
    omega (arith, lines_at y n some, one)

-- ---- what stands above is not looked at: it moves the place on, and changes nothing else of the answer

below_start : (b : Bool) (n i j k m : ℕ) → i ≡ n + j → k ≡ n + m → (if b then i else k) ≡ n + (if b then j else m)
below_start true n i j k m e f = e
below_start false n i j k m e f = f

start_below : (above below : List ℕ) → LineStart above → Foot (lines below) → foot_start (above ++ below) ≡ length above + foot_start below
unfolding foot_start
start_below above below start f =
    let s = settled (lines above) (lines below) f.above f.paragraph f.below f.tree f.closed in
    let size : length (join (above_lines s.above)) ≡ length above + length (join (above_lines f.above)) =
    ap (λ (us : List Line). length (join us)) s.all_above
    ∙ rw (join-append (lines above) (above_lines f.above), join-lines above) (length-append above (join (above_lines f.above))) in
    rw (lines-append above below start, s.tree, f.tree)
    (below_start (accepted f.paragraph) (length above) (length (join (above_lines s.above))) (length (join (above_lines f.above)))
    (length (above ++ below)) (length below) size (length-append above below))

pub above_unread : (above below : List ℕ) → LineStart above → Foot (lines below)
    → foot_found (above ++ below) true ≡ foot_at (length above + foot_start below) (lines_from below (foot_start below)) (looked (foot below true))
above_unread above below start f =
    rw (whole_answers (above ++ below), start_below above below start f, drop-append-add above below (foot_start below), lines-append above below start)
    (ap (foot_at (length above + foot_start below) (lines_from below (foot_start below))) (looked_below (lines above) (lines below) f))

-- ---- what an answer tells

pub found_more : (tail : List ℕ) (whole : Bool) → foot_found tail whole ≡ None → foot_enough tail whole ≡ false
found_more tail whole = by (foot_enough tail whole) refl
  where
    by : (b : Bool) → foot_enough tail whole ≡ b
        → (if b then foot_at (foot_start tail) (lines_from tail (foot_start tail)) (looked (foot tail whole)) else None) ≡ None
        → foot_enough tail whole ≡ false
    by true q e = let z : ◌≡◌ {A = ℕ} 0 1 = cc in absurd (omega (arith, z))
    by false q e = q

pub record FoundAt (tail : List ℕ) (whole : Bool) (f : Found) : Type 0 where
  pub is_enough : foot_enough tail whole ≡ true
  pub at_is : f.at ≡ foot_start tail
  pub lines_is : f.lines ≡ lines_from tail (foot_start tail)
  pub looked_at_is : f.looked ≡ looked (foot tail whole)

pub found_at : (tail : List ℕ) (whole : Bool) {f : Found} → foot_found tail whole ≡ Some f → FoundAt tail whole f
found_at tail whole {f} = by (foot_enough tail whole) refl
  where
    by : (b : Bool) → foot_enough tail whole ≡ b
        → (if b then foot_at (foot_start tail) (lines_from tail (foot_start tail)) (looked (foot tail whole)) else None) ≡ Some f
        → FoundAt tail whole f
    by true q e =
        let is = same_Some _ _ (sym e) in
        record {
          is_enough = q;
          at_is = ap (λ (x : Found). x.at) is;
          lines_is = ap (λ (x : Found). x.lines) is;
          looked_at_is = ap (λ (x : Found). x.looked) is;
        }
    by false q e = let z : ◌≡◌ {A = ℕ} 0 1 = cc in absurd (omega (arith, z))
