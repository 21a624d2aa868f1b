-- Counting, one trailer at a time, and what a record of the walk asks for in the buffer. Assumes nothing.
use Rattle.std.specs.Prelude.{Some, if◌then◌else◌}
use mathlib.Core.Bool.{Bool, true, false}
use mathlib.Core.List.{List, [], ◌∷◌}
use mathlib.Core.Path.{◌≡◌, refl, ap, ◌∙◌}
use Prim.Native.Nat.{ℕ, ◌+◌, ◌-◌, ◌≤◌, ◌<◌}
use native.Mathlib.Omega.{arith}
use lib.Dec.{eqb}
use lib.ListN.{length, take, drop, length-append}
use Rattle.rules.proofs.Parts.{rest}
use Rattle.rules.proofs.Record.{places_fit, raw_is}
use Rattle.rules.proofs.Unfolded.{unfolded_short}
use Rattle.rules.proofs.Walk.{Stands, those_place, walk_stands, walk_step}
use Rattle.rules.specs.Bytes.{LF}
use Rattle.rules.specs.Lines.{Line, before, folds, lines}
use Rattle.rules.specs.Lists.{run}
use Rattle.rules.specs.Number.{line_feeds}
use Rattle.rules.specs.Record.{part, value_of, written_of}
use Rattle.rules.specs.Trailer.{Trailer, trailer, end_of, is_of, place_of, raw_value, trailer_line, unfolded, value_is_written, walk, walk_from}
use Rattle.rules.specs.White.{trim, trim_at}
use Rattle.rules.specs.declared.Kind.{Kind}
use Rattle.rules.specs.declared.Places.{Places}
use Rattle.rules.specs.declared.Value.{Value}
use Rattle.trailer.proofs.Steps.{First, first_is}
use Rattle.trailer.specs.Walk.{next_of}
use Rattle.listing.proofs.Turn.{all_kept}
use Rattle.listing.specs.Listing.{values_of}
use Rattle.planning.specs.Planning.{from}

-- no more is written than the raw value has
written_short : (raw : List ℕ) → length (written_of raw) ≤ length raw
written_short raw = by (value_is_written raw)
  where
    by : (b : Bool) → length (if b then unfolded raw else []) ≤ length raw
    by true = unfolded_short raw
    by false = omega arith

-- a value stands in the buffer from its front on
pub from_front : (at : ℕ) (raw : List ℕ) → from (value_of at raw) ≡ 0
from_front at raw = by (value_is_written raw)
  where
    by : (b : Bool)
        → from (if b then Value.InBuffer (part 0 (length (unfolded raw))) else Value.InInput (part (at + trim_at raw) (at + trim_at raw + length (trim raw)))) ≡ 0
    by true = refl
    by false = refl

pub none_left : (s : List ℕ) (at : ℕ) → walk_from s at ≡ [] → (length (walk_from s at) ≡ 0) × (length (values_of (walk_from s at)) ≡ 0)
unfolding values_of
none_left s at e = (ap length e, ap (λ (ts : List Trailer). length (values_of ts)) e)

-- the trailer that a step from `at` on has found, by its places: its value is ahead, and what it adds
pub record Found (s : List ℕ) (at : ℕ) (p : Places) : Type 0 where
  pub ahead : at ≤ p.value_start
  pub one : length (walk_from s at) ≡ length (walk_from s p.end) + 1
  pub bytes : length (values_of (walk_from s at))
      ≡ length (written_of (take (p.end - p.value_start) (drop p.value_start s))) + length (values_of (walk_from s p.end))
  pub few : length (written_of (take (p.end - p.value_start) (drop p.value_start s))) ≤ p.end - p.value_start

module _ (s : List ℕ) (at : ℕ) {p : Places} (q : next_of (walk_from s at) ≡ Some p) where
  first : First (walk_from s at) p
  first = first_is (walk_from s at) q

  abbrev t : Trailer
  t = first.found

  there : Stands s t
  there = walk_stands s at t first.later first.walked

  list : walk_from s at ≡ t ∷ walk_from s (end_of t)
  list = cc (first.walked, walk_step s at t first.later first.walked)

  values_are : length (values_of (walk_from s at)) ≡ length (written_of (raw_value t)) + length (values_of (walk_from s (end_of t)))
  unfolding values_of
  values_are = ap (λ (ts : List Trailer). length (values_of ts)) list ∙ length-append (written_of (raw_value t)) (values_of (walk_from s (end_of t)))

  pub found : Found s at p
  found =
      let end : p.end ≡ end_of t = ap (λ (k : Places). k.end) first.places in
      let begin : p.start ≡ place_of t = ap (λ (k : Places). k.start) first.places in
      let raw = raw_is there first.places in
      let fit = places_fit there first.places in
      let place = those_place s (is_of Kind.All) at (walk_from s at) t first.later refl (all_kept (walk_from s at) ∙ first.walked) in
      record {
        ahead = omega (arith, fit, place, begin);
        one = omega (arith, ap length list, ap (λ (k : ℕ). length (walk_from s k)) end);
        bytes = omega (arith, values_are, ap (λ (x : List ℕ). length (written_of x)) raw, ap (λ (k : ℕ). length (values_of (walk_from s k))) end);
        few = omega (arith, written_short (raw_value t), there.raw_ends, end, ap (λ (k : Places). k.value_start) first.places, ap (λ (x : List ℕ). length (written_of x)) raw);
      }

-- ---- no more than lines and bytes

walk_few : (at : ℕ) (ls : List Line) → length (walk at ls) ≤ length ls
walk_few at [] = omega arith
walk_few at (l ∷ ls) = by (trailer_line l) (walk_few (at + length l) ls)
  where
    by : (b : Bool) → length (walk (at + length l) ls) ≤ length ls
        → length (if b then trailer at l (run folds ls) ∷ walk (at + length l) ls else walk (at + length l) ls) ≤ length (l ∷ ls)
    by true h = omega (arith, h)
    by false h = omega (arith, h)

lines_few : (s : List ℕ) → length (lines s) ≤ line_feeds s + 1
lines_few [] = omega arith
lines_few (c ∷ s) = by (eqb c LF) (lines s) (lines_few s)
  where
    by : (b : Bool) (ls : List Line) → length ls ≤ line_feeds s + 1 → length (before b c ls) ≤ (if b then 1 else 0) + line_feeds s + 1
    by true ls h = omega (arith, h)
    by false [] h = omega arith
    by false (l ∷ ls) h = omega (arith, h)

values_few : (s : List ℕ) (at : ℕ) (ts : List Trailer) → at ≤ length s → walk_from s at ≡ ts → length (values_of ts) ≤ length s - at
unfolding values_of
values_few s at [] h e = omega arith
values_few s at (t ∷ ts) h e =
    let place = those_place s (is_of Kind.All) at (walk_from s at) t ts refl (all_kept (walk_from s at) ∙ e) in
    let there = walk_stands s at t ts e in
    let behind = values_few s (end_of t) ts there.inside (walk_step s at t ts e) in
    omega (arith, behind, place, there.raw_ends, there.token_ends, there.inside, written_short (raw_value t), length-append (written_of (raw_value t)) (values_of ts))

-- where there is a room for each line and one for each byte, there is room for all
pub ample : (s : List ℕ) (at rooms room : ℕ) → at ≤ length s → length s - at ≤ room → line_feeds (take (length s - at) (drop at s)) < rooms
    → (length (walk_from s at) ≤ rooms) × (length (values_of (walk_from s at)) ≤ room)
ample s at rooms room h fits lines_fit = (
  omega (arith, walk_few at (lines (drop at s)), lines_few (drop at s), lines_fit, ap line_feeds (rest s at)),
  omega (arith, values_few s at (walk_from s at) h refl, fits),
)
