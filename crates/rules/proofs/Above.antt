-- K12: nothing above reaches down. A blank line above the paragraph settles it, whatever stands above (settled), so lines above
-- such a foot move its trailers on and change nothing else (trailers_below); told from the end, they are the same
-- (nothing_reaches_down). Assumes nothing.
use Rattle.std.specs.Prelude.{if◌then◌else◌}
use mathlib.Core.Bool.{Bool, true, false, not, ◌||◌}
use mathlib.Core.List.{List, [], ◌∷◌, ◌++◌, map}
use mathlib.Core.Path.{◌≡◌, refl, sym, ap, ◌∙◌}
use Prim.Native.Nat.{ℕ, ◌+◌, ◌-◌}
use native.Mathlib.Omega.{arith}
use lib.Dec.{T}
use lib.ListN.{length, length-append}
use Rattle.rules.specs.Above.{EndsIn, BlankThenNot, from_end, SameTrailers}
use Rattle.rules.specs.Lines.{Line, LineStart, lines, blank}
use Rattle.rules.specs.Lists.{any, join}
use Rattle.rules.specs.Paragraph.{Above, nothing, at_top, under, above_lines, Grouped, grouped_lines, solid, Body, empty, ended}
use Rattle.rules.specs.Paragraph.{accepted, put, parse, trailers_of}
use Rattle.rules.specs.Trailer.{Trailer, trailer, walk}
use Rattle.rules.proofs.BodyTrailers.{block_trailers, body_trailers}
use Rattle.rules.proofs.Lines.{join-lines, lines-append}
use Rattle.rules.proofs.Lists.{is_true, join-append}
use Rattle.rules.proofs.Walk.{shifted, walk_shift}

-- ---- a blank line above the paragraph settles it

-- a blank line stands above
abbrev pub Closed : Above → Type 0
Closed nothing = ⊥
Closed (at_top b) = Unit {0}
Closed (under ls l b) = Unit {0}

-- the lines `us` stand above what is read as `a`, `p` and `bs`, and nothing else is changed
pub record Settled (us ls : List Line) (a : Above) (p : Grouped) (bs : List Line) : Type 0 where
  pub above : Above
  pub tree : parse (us ++ ls) ≡ ended above p bs
  pub all_above : above_lines above ≡ us ++ above_lines a
  pub still_closed : Closed above

pub settled : (us ls : List Line) (a : Above) (p : Grouped) (bs : List Line) → parse ls ≡ ended a p bs → Closed a → Settled us ls a p bs
settled [] ls a p bs e c = record { above = a; tree = e; all_above = refl; still_closed = c }
settled (u ∷ us) ls a p bs e c = let s = settled us ls a p bs e c in raised s.above s.tree s.all_above s.still_closed
  where
    raised : (b : Above) → parse (us ++ ls) ≡ ended b p bs → above_lines b ≡ us ++ above_lines a → Closed b → Settled (u ∷ us) ls a p bs
    raised nothing f g k = absurd k
    raised (at_top b) f g k =
        record { above = under [] u b; tree = rw f; all_above = ap (λ (x : List Line). u ∷ x) g; still_closed = tt }
    raised (under ms m b) f g k =
        record { above = under (u ∷ ms) m b; tree = rw f; all_above = ap (λ (x : List Line). u ∷ x) g; still_closed = tt }

-- ---- lines that begin with a blank one, and of which a later one is not blank, are settled

-- there is a last paragraph
abbrev Ended : Body → Type 0
Ended t = (a : Above) × (p : Grouped) × (bs : List Line) × (t ≡ ended a p bs)

put-solid : (l : Line) (t : Body) → Ended (put false l t)
put-solid l (empty bs) = (_, _, _, refl)
put-solid l (ended nothing p bs) = (_, _, _, refl)
put-solid l (ended (at_top c) p bs) = (_, _, _, refl)
put-solid l (ended (under ls m c) p bs) = (_, _, _, refl)

-- a blank line above it closes it
put-blank : (l : Line) (a : Above) (p : Grouped) (bs : List Line) → (c : Above) × (put true l (ended a p bs) ≡ ended c p bs) × Closed c
put-blank l nothing p bs = (at_top l, refl, tt)
put-blank l (at_top c) p bs = (under [] l c, refl, tt)
put-blank l (under ls m c) p bs = (under (l ∷ ls) m c, refl, tt)

some_paragraph : (ls : List Line) → T (any solid ls) → Ended (parse ls)
some_paragraph [] h = absurd h
some_paragraph (l ∷ ls) h = by (blank l) h (some_paragraph ls)
  where
    by : (b : Bool) → T (not b || any solid ls) → (T (any solid ls) → Ended (parse ls)) → Ended (put b l (parse ls))
    by false h more = put-solid l (parse ls)
    by true h more =
        let (a, p, bs, e) = more h in
        let (c, f, k) = put-blank l a p bs in
        (c, p, bs, ap (put true l) e ∙ f)

-- the last paragraph of these lines has a blank line above it
pub record Foot (ls : List Line) : Type 0 where
  pub above : Above
  pub paragraph : Grouped
  pub below : List Line
  pub tree : parse ls ≡ ended above paragraph below
  pub closed : Closed above

pub blank_closes : (ls : List Line) → BlankThenNot ls → Foot ls
blank_closes [] h = absurd h
blank_closes (l ∷ ls) h =
    let (a, p, bs, e) = some_paragraph ls h.1 in
    let (c, f, k) = put-blank l a p bs in
    record { above = c; paragraph = p; below = bs; tree = rw (is_true (blank l) h.0) (ap (put true l) e ∙ f); closed = k }

-- ---- so what stands above moves the trailers on, and changes nothing else

shift_block : (b : Bool) (n at k : ℕ) (ls : List Line) → k ≡ n + at
    → (if b then walk k ls else []) ≡ map (shifted n) (if b then walk at ls else [])
shift_block true n at k ls e = rw e (walk_shift n at ls)
shift_block false n at k ls e = refl

pub trailers_below : (above foot : List ℕ) → LineStart above → Foot (lines foot)
    → trailers_of (above ++ foot) ≡ map (shifted (length above)) (trailers_of foot)
trailers_below above foot start r =
    let s : Settled (lines above) (lines foot) r.above r.paragraph r.below =
    settled (lines above) (lines foot) r.above r.paragraph r.below r.tree r.closed in
    let size : length (join (above_lines s.above)) ≡ length above + length (join (above_lines r.above)) =
    ap (λ (us : List Line). length (join us)) s.all_above
    ∙ rw (join-append (lines above) (above_lines r.above), join-lines above) (length-append above (join (above_lines r.above))) in
    body_trailers (above ++ foot) ∙ ap (λ (ls : List Line). block_trailers (parse ls)) (lines-append above foot start)
    ∙ ap block_trailers s.tree
    ∙ shift_block (accepted r.paragraph) (length above) (length (join (above_lines r.above)))
    (length (join (above_lines s.above))) (grouped_lines r.paragraph) size
    ∙ ap (map (shifted (length above))) (sym (body_trailers foot ∙ ap block_trailers r.tree))

-- ---- K12

-- told from the end, what was moved on with all that follows stands where it stood
told_shifted : (above foot : List ℕ) (ts : List Trailer) → map (from_end (above ++ foot)) (map (shifted (length above)) ts) ≡ map (from_end foot) ts
told_shifted above foot [] = refl
told_shifted above foot (trailer at l js ∷ ts) =
    let distance : length (above ++ foot) - (length above + at) ≡ length foot - at = omega (arith, length-append above foot) in
    rw (distance, told_shifted above foot ts)

-- a body has the trailers of its foot, read as a body by itself
pub told_foot : (body foot : List ℕ) → EndsIn body foot → BlankThenNot (lines foot) → SameTrailers body foot
told_foot body foot r h =
    rw r.read (ap (map (from_end (r.above ++ foot))) (trailers_below r.above foot r.line_start (blank_closes (lines foot) h))
    ∙ told_shifted r.above foot (trailers_of foot))

-- "if two bodies end in the same bytes, those bytes start at a line start in both, their first line is blank, and a later line
-- of them is not, then both have the same trailers at the same distances from the end"
pub nothing_reaches_down : (one two foot : List ℕ)
    → EndsIn one foot → EndsIn two foot → BlankThenNot (lines foot) → SameTrailers one two
nothing_reaches_down one two foot a b h = told_foot one foot a h ∙ sym (told_foot two foot b h)
