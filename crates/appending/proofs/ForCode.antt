-- What the code asks instead: the block start for `has_block` (has_block), and for `kept` a scan of lines from the end
-- (kept-blank, kept-solid), after which the last ending is that of the kept bytes (kept_ending). Assumes nothing.
use Rattle.std.specs.Prelude.{Option, if◌then◌else◌}
use mathlib.Core.Bool.{Bool, true, false, not, ◌||◌, or_assoc, or-false, or-true}
use mathlib.Core.List.{List, [], ◌∷◌, ◌++◌, append_assoc, append-nil}
use mathlib.Core.Path.{◌≡◌, sym, ap, ◌∙◌}
use Prim.Native.Nat.{ℕ, ◌+◌, ◌≤◌, ◌<◌}
use native.Mathlib.Omega.{arith}
use borrow.Author.Tests.{lt-ltb, le-ltb, ne_eqb}
use lib.Dec.{T, eqb, ltb}
use lib.ListN.{length, take, length-append}
use lib.Seq.{take-append_seam}
use Rattle.rules.specs.Lines.{Line, lines, text, blank}
use Rattle.rules.specs.Lists.{All, any, filled, join}
use Rattle.rules.specs.Paragraph.{Grouped, grouped_lines, Above, nothing, at_top, under, above_lines, solid}
use Rattle.rules.specs.Paragraph.{Body, empty, ended, body_lines, IsBody, accepted, block_at, start_of, parse, block_start}
use Rattle.rules.specs.Paragraph.{LastEnding, last, nowhere, or_none, ending_below}
use Rattle.rules.specs.Title.{body}
use Rattle.rules.specs.declared.Ending.{Ending}
use Rattle.rules.proofs.LastEndings.{last_is, last_only}
use Rattle.rules.proofs.Lines.{filled-lines, join-lines, lines_prefix, text_ending}
use Rattle.rules.proofs.Lists.{all_left, all_right, filled_some, is_true, join-append}
use Rattle.rules.proofs.Paragraph.{parse_is, parse-lines, start_by}
use Rattle.appending.specs.Added.{up_to_last, kept, is_block, has_block, has_line}
use Rattle.appending.proofs.Written.{ending_is, kept_is, none_left, none_solid, some_solid}

-- ---- a block is there exactly where it starts before the body's end

above_within : (a : Above) → block_at a ≤ length (join (above_lines a))
above_within nothing = omega arith
above_within (at_top b) = omega arith
above_within (under ls l b) =
    let (e, w, q) = text_ending l in
    simp (join-append, length-append) (omega (arith, length-append (text l) e, ap length q))

some_bytes : (ls : List Line) → T (filled ls) → All filled ls → 0 < length (join ls)
some_bytes [] f a = absurd f
some_bytes (l ∷ ls) f a = omega (arith, length-append l (join ls), filled_some l a.0)

start_before : (b : List ℕ) (a : Above) (p : Grouped) (cs : List Line) → IsBody (ended a p cs) → body_lines (ended a p cs) ≡ lines b → block_at a < length b
start_before b a p cs w e =
    let whole : All filled ((above_lines a ++ grouped_lines p) ++ cs) = rw e (filled-lines b) in
    let fill : All filled (grouped_lines p) = all_right filled (above_lines a) (grouped_lines p) (all_left filled (above_lines a ++ grouped_lines p) cs whole) in
    omega (
      arith,
      above_within a,
      some_bytes (grouped_lines p) w.1 fill,
      ap length (sym (join-lines b) ∙ ap join (sym e)),
      ap length (join-append (above_lines a ++ grouped_lines p) cs),
      length-append (join (above_lines a ++ grouped_lines p)) (join cs),
      ap length (join-append (above_lines a) (grouped_lines p)),
      length-append (join (above_lines a)) (join (grouped_lines p)),
    )

pub has_block_lem : (message : List ℕ) → has_block message ≡ ltb (block_start (body message)) (length (body message))
unfolding has_block
has_block_lem message = rw (start_by b (parse (lines b)) (parse_is (lines b)) (parse-lines (lines b))) (by (parse (lines b)) (parse_is (lines b)) (parse-lines (lines b)))
  where
    b : List ℕ
    b = body message

    by : (x : Body) → IsBody x → body_lines x ≡ lines b → is_block x ≡ ltb (start_of x (length b)) (length b)
    by (empty cs) w e = sym (le-ltb (length b) (length b) (omega arith))
    by (ended a p cs) w e = to (accepted p)
      where
        to : (c : Bool) → c ≡ ltb (if c then block_at a else length b) (length b)
        to true = sym (lt-ltb (block_at a) (length b) (start_before b a p cs w e))
        to false = sym (le-ltb (length b) (length b) (omega arith))

-- ---- a scan from the end: a blank line is dropped, another is the last

any_last : (us : List Line) (l : Line) → any solid (us ++ l ∷ []) ≡ any solid us || solid l
any_last [] l = or-false (solid l)
any_last (u ∷ us) l = rw (any_last us l) (sym (or_assoc (solid u) (any solid us) (solid l)))

pub kept-blank : (us : List Line) (l : Line) → solid l ≡ false → up_to_last (us ++ l ∷ []) ≡ up_to_last us
kept-blank [] l e = rw e
kept-blank (u ∷ us) l e = rw (any_last us l, e, or-false (any solid us), kept-blank us l e)

pub kept-solid : (us : List Line) (l : Line) → solid l ≡ true → up_to_last (us ++ l ∷ []) ≡ us ++ l ∷ []
kept-solid [] l e = rw e
kept-solid (u ∷ us) l e = rw (any_last us l, e, or-true (any solid us), or-true (solid u), kept-solid us l e)

-- ---- the kept bytes are the message's first, and their last line is its last non-blank one

module _ (message : List ℕ) where
  module _ (us : List Line) (l : Line) (bs : List Line) (read : lines message ≡ us ++ l ∷ bs) (s : T (solid l)) (b : All blank bs) where
    front_of : message ≡ kept message ++ join bs
    front_of =
        sym (join-lines message) ∙ ap join read ∙ join-append us (l ∷ bs)
        ∙ (rw (kept_is message us l bs read s b) (sym (append_assoc (join us) l (join bs))))

    lines_of_it : lines (kept message) ≡ us ++ l ∷ []
    lines_of_it =
        let whole : lines message ≡ (us ++ l ∷ []) ++ bs = read ∙ sym (append_assoc us (l ∷ []) bs) in
        let bytes : join (us ++ l ∷ []) ≡ kept message = rw (kept_is message us l bs read s b) (simp (join-append, append-nil)) in
        rw bytes at (lines_prefix message (us ++ l ∷ []) bs whole)

  nothing_kept : All blank (lines message) → kept message ≡ []
  unfolding kept
  nothing_kept b = ap join (none_left (lines message) b)

  pub kept_front : take (length (kept message)) message ≡ kept message
  kept_front = by (last_is (lines message))
    where
      by : {o : Option Ending} → LastEnding (lines message) o → take (length (kept message)) message ≡ kept message
      by (last us l bs read s b) =
          ap (take (length (kept message))) (front_of us l bs read s b) ∙ take-append_seam (kept message) (join bs)
      by (nowhere b) = rw (nothing_kept b)

  pub kept_ending : ending_below (kept message) ≡ ending_below message
  unfolding ending_below
  kept_ending = by (last_is (lines message))
    where
      by : {o : Option Ending} → LastEnding (lines message) o → ending_below (kept message) ≡ ending_below message
      by (last us l bs read s b) =
          ending_is (kept message) us l [] (lines_of_it us l bs read s b) s tt ∙ sym (ending_is message us l bs read s b)
      by (nowhere b) = rw (nothing_kept b) (ap or_none (last_only {ls = lines message} (nowhere b)))

  -- nothing is kept exactly where no line is non-blank
  pub kept_none : eqb (length (kept message)) 0 ≡ not (has_line message)
  unfolding has_line
  kept_none = by (last_is (lines message))
    where
      by : {o : Option Ending} → LastEnding (lines message) o → eqb (length (kept message)) 0 ≡ not (any solid (lines message))
      by (last us l bs read s b) =
          let Some : T (filled l) = (all_right filled us (l ∷ bs) (rw read at (filled-lines message))).0 in
          let size : 0 < length (kept message) = rw (kept_is message us l bs read s b) (omega (arith, length-append (join us) l, filled_some l Some)) in
          ne_eqb (length (kept message)) 0 (λ z. omega arith) ∙ rw (read, is_true (any solid (us ++ l ∷ bs)) (some_solid us l bs s))
      by (nowhere b) = rw (nothing_kept b, none_solid (lines message) b)
