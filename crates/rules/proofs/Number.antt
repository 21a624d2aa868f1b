-- Line numbers. A number counted on from a right one is right, and a line's start has one more than the lines before it. The numbers
-- of a walk rise strictly from every position, through filters and through blocks (numbers_rise, numbers_rise_in_blocks). Assumes nothing.
use Rattle.std.specs.Prelude.{if◌then◌else◌}
use mathlib.Core.Bool.{Bool, true, false, false≢true, and-true, ◌&&◌}
use mathlib.Core.List.{List, [], ◌∷◌, ◌++◌, nil≢cons}
use mathlib.Core.Path.{◌≡◌, refl, sym, ap, ◌∙◌}
use Prim.Native.Nat.{ℕ, suc, ◌+◌, ◌-◌, ◌≤◌}
use native.Mathlib.Omega.{arith}
use borrow.Author.Tests.{le-leb, leb-true}
use lib.Dec.{T, eqb, leb}
use lib.ListN.{length, take, drop, length-append, length-take}
use lib.Seq.{drop_at, drop-drop, take-add, take_at}
use Rattle.rules.specs.Answers.{place_fits}
use Rattle.rules.specs.Bytes.{LF}
use Rattle.rules.specs.Division.{blocks, walk_parts}
use Rattle.rules.specs.Lines.{Line, LineStart, lines, before, folds}
use Rattle.rules.specs.Lists.{filled, join, run}
use Rattle.rules.specs.Number.{Right, Rises, cursor_at, cursor_fits, line_feeds, line_number, moved_on, numbers}
use Rattle.rules.specs.Title.{body, body_start}
use Rattle.rules.specs.Trailer.{Trailer, trailer, trailer_line, place_of, token_of, is_of, only, walk, walk_from}
use Rattle.rules.specs.declared.Cursor.{Cursor}
use Rattle.rules.specs.declared.Kind.{Kind}
use Rattle.rules.proofs.Blocks.{walks_agree}
use Rattle.rules.proofs.Lines.{join-lines, lines-append, lines-filled, lines_suffix}
use Rattle.rules.proofs.Lists.{append-filled}

-- ---- LFs counted

pub feeds_append : (s t : List ℕ) → line_feeds (s ++ t) ≡ line_feeds s + line_feeds t
feeds_append [] t = omega arith
feeds_append (c ∷ s) t = omega (arith, feeds_append s t)

at_most_one : (b : Bool) → (if b then 1 else 0) ≤ 1
at_most_one true = omega arith
at_most_one false = omega arith

-- no more than bytes
pub feeds_most : (s : List ℕ) → line_feeds s ≤ length s
feeds_most [] = omega arith
feeds_most (c ∷ s) = omega (arith, at_most_one (eqb c LF), feeds_most s)

pub feeds_within : (s : List ℕ) (i n : ℕ) → line_feeds (take n (drop i s)) ≤ n
feeds_within s i n = omega (arith, feeds_most (take n (drop i s)), length-take n (drop i s))

-- of the bytes up to a place, and of those from there to a later one
pub feeds_split : (s : List ℕ) (from to : ℕ) → from ≤ to → line_feeds (take to s) ≡ line_feeds (take from s) + line_feeds (take (to - from) (drop from s))
feeds_split s from to h =
    let size : from + (to - from) ≡ to = omega arith in
    ap (λ (k : ℕ). line_feeds (take k s)) (sym size) ∙ ap line_feeds (take-add from (to - from) s)
    ∙ feeds_append (take from s) (take (to - from) (drop from s))

-- ---- LFs and lines

before-length : (b : Bool) (c : ℕ) (ls : List Line) → T (filled ls) → length (before b c ls) ≡ (if b then 1 else 0) + length ls
before-length b c [] f = absurd f
before-length true c (l ∷ ls) f = omega arith
before-length false c (l ∷ ls) f = omega arith

-- the LFs ahead of some bytes, and the lines of those, are the lines of all
pub feeds_and_lines : (x y : List ℕ) → T (filled y) → length (lines (x ++ y)) ≡ line_feeds x + length (lines y)
feeds_and_lines [] y f = omega arith
feeds_and_lines (c ∷ x) y f =
    before-length (eqb c LF) c (lines (x ++ y)) (lines-filled (x ++ y) (append-filled x y f)) ∙ omega (arith, feeds_and_lines x y f)

-- a line's start has one more than the lines before it
pub number_of_start : (s : List ℕ) (at : ℕ) → LineStart (take at s) → line_number s at ≡ suc (length (lines (take at s)))
number_of_start s at start =
    let x : List ℕ = take at s in
    let y : List ℕ = 0 ∷ [] in
    omega (arith, feeds_and_lines x y tt, ap length (lines-append x y start), length-append (lines x) (lines y))

-- the lines of the title, and of what separates it, are counted in the message and not in the body
pub number_in_message : (message : List ℕ) (at : ℕ)
    → line_number message (body_start message + at) ≡ line_feeds (take (body_start message) message) + line_number (body message) at
number_in_message message at =
    let size : body_start message + at - body_start message ≡ at = omega arith in
    omega (arith, rw size at (feeds_split message (body_start message) (body_start message + at) (omega arith)))

-- ---- cursors

pub moved_right : (s : List ℕ) (c : Cursor) (at : ℕ) → Right s c → c.at ≤ at → moved_on s c at ≡ cursor_at s at
moved_right s c at right h =
    let same : c.line + line_feeds (take (at - c.at) (drop c.at s)) ≡ line_number s at = omega (arith, right, feeds_split s c.at at h) in
    ap (λ (n : ℕ). record { at = at; line = n }) same

pub moved_twice : (s : List ℕ) (c : Cursor) (at next : ℕ) → c.at ≤ at → at ≤ next → moved_on s (moved_on s c at) next ≡ moved_on s c next
moved_twice s c at next h k =
    let there : c.at + (at - c.at) ≡ at = omega arith in
    let left : next - c.at - (at - c.at) ≡ next - at = omega arith in
    let later : drop (at - c.at) (drop c.at s) ≡ drop at s = drop-drop (at - c.at) c.at s ∙ ap (λ (n : ℕ). drop n s) there in
    let split = rw (left, later) at (feeds_split (drop c.at s) (at - c.at) (next - c.at) (omega arith)) in
    let same : c.line + line_feeds (take (at - c.at) (drop c.at s)) + line_feeds (take (next - at) (drop at s))
    ≡ c.line + line_feeds (take (next - c.at) (drop c.at s)) = omega (arith, split) in
    ap (λ (n : ℕ). record { at = next; line = n }) same

-- a number that belongs to a place goes on to belong to one
pub moved_within : (s : List ℕ) (c : Cursor) (at : ℕ) → c.line ≤ c.at + 1 → c.at ≤ at → (moved_on s c at).line ≤ at + 1
moved_within s c at h k = omega (arith, feeds_within s c.at (at - c.at))

-- a cursor that is right fits where its place does
pub right_fits : (s : List ℕ) (c : Cursor) → Right s c → cursor_fits c s ≡ place_fits c.at s
right_fits s c right =
    rw (le-leb 1 c.line (omega (arith, right)), le-leb c.line (c.at + 1) (omega (arith, right, feeds_within s 0 c.at)))
    (and-true (place_fits c.at s))

-- what a cursor is that fits
pub fits_is : (s : List ℕ) (c : Cursor) → cursor_fits c s ≡ true → (c.at ≤ length s) × (1 ≤ c.line) × (c.line ≤ c.at + 1)
fits_is s c e = by (leb c.at (length s)) (leb 1 c.line) (leb c.line (c.at + 1)) refl refl refl e
  where
    by : (a b d : Bool) → leb c.at (length s) ≡ a → leb 1 c.line ≡ b → leb c.line (c.at + 1) ≡ d → (a && (b && d)) ≡ true
        → (c.at ≤ length s) × (1 ≤ c.line) × (c.line ≤ c.at + 1)
    by false b d p q r h = absurd (false≢true h)
    by true false d p q r h = absurd (false≢true h)
    by true true false p q r h = absurd (false≢true h)
    by true true true p q r h = (leb-true c.at (length s) p, leb-true 1 c.line q, leb-true c.line (c.at + 1) r)

-- a cursor that fits, moved on inside, fits
pub moved_fits : (s : List ℕ) (c : Cursor) (at : ℕ) → cursor_fits c s ≡ true → c.at ≤ at → at ≤ length s → cursor_fits (moved_on s c at) s ≡ true
moved_fits s c at e h k =
    let (a, b, d) = fits_is s c e in
    rw (le-leb at (length s) k, le-leb 1 (moved_on s c at).line (omega (arith, b)), le-leb (moved_on s c at).line (at + 1) (moved_within s c at d h))

-- ---- "numbers rise strictly along the walk"

-- a line that isn't the last has one LF
behind_filled : (s : List ℕ) (m : Line) (ls : List Line) → lines s ≡ m ∷ ls → T (filled s)
behind_filled [] m ls e = absurd (nil≢cons e)
behind_filled (c ∷ s) m ls e = tt

one_feed : (l m : Line) (ls : List Line) → lines (join (l ∷ m ∷ ls)) ≡ l ∷ m ∷ ls → line_feeds l ≡ 1
one_feed l m ls e =
    let rest : lines (join (m ∷ ls)) ≡ m ∷ ls = lines_suffix (join (l ∷ m ∷ ls)) (l ∷ []) (m ∷ ls) e in
    omega (arith, feeds_and_lines l (join (m ∷ ls)) (behind_filled (join (m ∷ ls)) m ls rest), ap length rest, ap length e)

rises_less : (ks : List ℕ) (n m : ℕ) → n ≤ m → Rises m ks → Rises n ks
rises_less [] n m h r = tt
rises_less (k ∷ ks) n m h r = (omega (arith, r.0), r.1)

walk_rises : (body : List ℕ) (at : ℕ) (ls : List Line) → drop at body ≡ join ls → lines (join ls) ≡ ls → Rises (line_feeds (take at body)) (numbers body (walk at ls))
walk_rises body at [] e f = tt
walk_rises body at (l ∷ []) e f = by (trailer_line l)
  where
    by : (b : Bool) → Rises (line_feeds (take at body)) (numbers body (if b then trailer at l [] ∷ [] else []))
    by true = (omega arith, tt)
    by false = tt
walk_rises body at (l ∷ m ∷ ls) e f =
    by (trailer_line l) (walk_rises body (at + length l) (m ∷ ls) next (lines_suffix (join (l ∷ m ∷ ls)) (l ∷ []) (m ∷ ls) f))
  where
    next : drop (at + length l) body ≡ join (m ∷ ls)
    next = sym (drop-drop (length l) at body) ∙ rw e (drop_at l (join (m ∷ ls)) (length l) refl)

    passed : take (at + length l) body ≡ take at body ++ l
    passed = take-add at (length l) body ∙ rw e (ap (λ (x : List ℕ). take at body ++ x) (take_at l (join (m ∷ ls)) (length l) refl))

    one_more : line_feeds (take (at + length l) body) ≡ suc (line_feeds (take at body))
    one_more = ap line_feeds passed ∙ omega (arith, feeds_append (take at body) l, one_feed l m ls f)

    by : (b : Bool) → Rises (line_feeds (take (at + length l) body)) (numbers body (walk (at + length l) (m ∷ ls)))
        → Rises (line_feeds (take at body)) (numbers body (if b then trailer at l (run folds (m ∷ ls)) ∷ walk (at + length l) (m ∷ ls) else walk (at + length l) (m ∷ ls)))
    by true r = (omega arith, rw one_more at r)
    by false r = rises_less (numbers body (walk (at + length l) (m ∷ ls))) (line_feeds (take at body)) (line_feeds (take (at + length l) body)) (omega (arith, one_more)) r

only_rises : (body : List ℕ) (kind : Kind) (ts : List Trailer) (n : ℕ) → Rises n (numbers body ts) → Rises n (numbers body (only kind ts))
only_rises body kind [] n r = tt
only_rises body kind (t ∷ ts) n r = by (is_of kind (token_of t)) (only_rises body kind ts (line_number body (place_of t)) r.1)
  where
    by : (b : Bool) → Rises (line_number body (place_of t)) (numbers body (only kind ts)) → Rises n (numbers body (if b then t ∷ only kind ts else only kind ts))
    by true h = (r.0, h)
    by false h = rises_less (numbers body (only kind ts)) n (line_number body (place_of t)) (omega (arith, r.0)) h

-- from every position, filters too; the first is no less than the position's
pub numbers_rise : (body : List ℕ) (at : ℕ) (kind : Kind) → Rises (line_feeds (take at body)) (numbers body (only kind (walk_from body at)))
numbers_rise body at kind =
    only_rises body kind (walk_from body at) (line_feeds (take at body))
    (walk_rises body at (lines (drop at body)) (sym (join-lines (drop at body))) (ap lines (join-lines (drop at body))))

-- through the blocks of the body
pub numbers_rise_in_blocks : (body : List ℕ) (start : ℕ) → start ≤ length body → (kind : Kind)
    → Rises (line_feeds (take start body)) (numbers body (only kind (walk_parts 0 (blocks body start))))
numbers_rise_in_blocks body start h kind = rw (walks_agree body start h) (numbers_rise body start kind)
