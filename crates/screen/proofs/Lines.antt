-- The lines of a walk, one trailer at a time, and how long they can be. Assumes nothing.
use Rattle.std.specs.Prelude.{Some}
use mathlib.Core.List.{List, [], ◌∷◌, ◌++◌}
use mathlib.Core.Path.{◌≡◌, refl, sym, ap, ◌∙◌}
use Prim.Native.Nat.{ℕ, ◌+◌, ◌-◌, ◌*◌, ◌≤◌}
use native.Mathlib.Omega.{arith}
use lib.ListN.{length, drop, length-append, length-drop}
use lib.Seq.{length-take-le}
use Rattle.rules.proofs.Record.{places_fit, raw_is, token_is}
use Rattle.rules.proofs.Unfolded.{unfolded_short}
use Rattle.rules.proofs.Walk.{Stands, those_place, walk_stands, walk_step}
use Rattle.rules.specs.Record.{places_of}
use Rattle.rules.specs.Trailer.{Trailer, end_of, is_of, only, place_of, token_of, unfolded, walk_from}
use Rattle.rules.specs.declared.Kind.{Kind}
use Rattle.rules.specs.declared.Places.{Places}
use Rattle.copy.specs.Onto.{onto}
use Rattle.copy.proofs.Onto.{onto-append, onto-nil}
use Rattle.trailer.proofs.Steps.{First, first_is}
use Rattle.trailer.specs.Walk.{next_of}
use Rattle.adding.proofs.Writing.{size_kept}
use Rattle.message.specs.Message.{walk_start}
use Rattle.message.proofs.Started.{walk_fits}
use Rattle.screen.specs.Listing.{decimal, first_line, line_of, lines_of, listed, listing}
use Rattle.screen.specs.Parts.{Fits, between, line_at, lines_from}
use Rattle.screen.proofs.Decimal.{decimal_short}
use Rattle.screen.proofs.Writing.{first_size, line_size, name_size, value_size}

-- ---- a line by its places

pub between_size : (m : List ℕ) (from to : ℕ) → from ≤ to → to ≤ length m → length (between m from to) ≡ to - from
between_size m from to h k = length-take-le (to - from) (drop from m) (omega (arith, length-drop from m))

pub line_at_size : (m : List ℕ) (p : Places) → Fits m p
    → length (line_at m p) ≡ p.token_end - p.start + 2 + length (unfolded (between m p.value_start p.end)) + 1
line_at_size m p f =
    let token : List ℕ = between m p.start p.token_end in
    let raw : List ℕ = between m p.value_start p.end in
    omega (
      arith,
      line_size token raw,
      name_size token,
      value_size raw,
      between_size m p.start p.token_end f.0 (omega (arith, f.1, f.2, f.3)),
    )

-- it has at most two bytes more than the trailer
pub line_short : (m : List ℕ) (p : Places) → Fits m p → length (line_at m p) ≤ p.end - p.start + 2
line_short m p f =
    let raw : List ℕ = between m p.value_start p.end in
    omega (arith, f, line_at_size m p f, unfolded_short raw, between_size m p.value_start p.end f.2 f.3)

-- ---- the trailer that a step from `at` on has found, by its places

pub record Found (m : List ℕ) (at : ℕ) (p : Places) : Type 0 where
  pub fits : Fits m p
  pub ahead : at ≤ p.start
  pub one : length (walk_from m at) ≡ length (walk_from m p.end) + 1
  pub lines : lines_from m at ≡ line_at m p ++ lines_from m p.end

-- every token is of all kinds
all_pass : (ts : List Trailer) → only Kind.All ts ≡ ts
all_pass [] = refl
all_pass (t ∷ ts) = ap (λ (us : List Trailer). t ∷ us) (all_pass ts)

module _ (m : List ℕ) (at : ℕ) {p : Places} (q : next_of (walk_from m at) ≡ Some p) where
  first : First (walk_from m at) p
  first = first_is (walk_from m at) q

  abbrev t : Trailer
  t = first.found

  there : Stands m t
  there = walk_stands m at t first.later first.walked

  end : p.end ≡ end_of t
  end = ap (λ (k : Places). k.end) first.places

  list : walk_from m at ≡ t ∷ walk_from m p.end
  list = first.walked ∙ ap (λ (ts : List Trailer). t ∷ ts) (sym (walk_step m at t first.later first.walked) ∙ ap (walk_from m) (sym end))

  line : line_at m p ≡ listed t
  line =
      ap (λ (x : List ℕ). line_of x (between m p.value_start p.end)) (token_is there first.places)
      ∙ ap (λ (y : List ℕ). line_of (token_of t) y) (raw_is there first.places)

  lines_are : lines_from m at ≡ line_at m p ++ lines_from m p.end
  unfolding lines_of
  lines_are = ap lines_of list ∙ ap (λ (l : List ℕ). l ++ lines_from m p.end) (sym line)

  pub found : Found m at p
  found =
      let begin : p.start ≡ place_of t = ap (λ (k : Places). k.start) first.places in
      record {
        fits = places_fit there first.places;
        ahead = omega (arith, begin, those_place m (is_of Kind.All) at (walk_from m at) t first.later refl (all_pass (walk_from m at) ∙ first.walked));
        one = omega (arith, ap length list);
        lines = lines_are;
      }

-- how long the lines are, by it
pub found_size : {m : List ℕ} {at : ℕ} {p : Places} → Found m at p → length (lines_from m at) ≡ length (line_at m p) + length (lines_from m p.end)
found_size {m} {at} {p} w = ap length w.lines ∙ length-append (line_at m p) (lines_from m p.end)

pub none_left : (m : List ℕ) (at : ℕ) → walk_from m at ≡ [] → lines_from m at ≡ []
unfolding lines_of
none_left m at e = ap lines_of e

-- ---- the lines written, one behind another

-- with none left the buffer is done
pub lines_written : (m : List ℕ) (at to : ℕ) (o : List ℕ) {done : List ℕ} → walk_from m at ≡ [] → onto to (lines_from m at) o ≡ done → o ≡ done
lines_written m at to o e k = sym (onto-nil to o) ∙ ap (λ (w : List ℕ). onto to w o) (sym (none_left m at e)) ∙ k

-- one more of them
pub line_written : {m : List ℕ} {at : ℕ} {p : Places} → Found m at p → (to next : ℕ) (d o : List ℕ) → to + length (lines_from m at) ≤ length d
    → next ≡ to + length (line_at m p) → o ≡ onto to (line_at m p) d
    → (length o ≡ length d) × (next + length (lines_from m p.end) ≤ length o) × (onto next (lines_from m p.end) o ≡ onto to (lines_from m at) d)
line_written {m} {at} {p} w to next d o h k e =
    let fits : to + length (line_at m p) ≤ length d = omega (arith, found_size w) in
    let size : length o ≡ length d = size_kept d o (line_at m p) to e fits in (
      size,
      omega (arith, size, found_size w),
      ap (λ (j : ℕ). onto j (lines_from m p.end) o) k ∙ ap (λ (x : List ℕ). onto (to + length (line_at m p)) (lines_from m p.end) x) e
          ∙ sym (onto-append to (line_at m p) (lines_from m p.end) d fits) ∙ ap (λ (l : List ℕ). onto to l d) (sym w.lines),
    )

-- ---- how long the listing is

pub bound : (m : List ℕ) (ts : List Trailer) (at : ℕ) → walk_from m at ≡ ts → at ≤ length m
    → (length (walk_from m at) + at ≤ length m) × (length (lines_from m at) + 3 * at ≤ 3 * length m)
bound m [] at e h = (omega (arith, ap length e), omega (arith, ap length (none_left m at e)))
bound m (t ∷ ts) at e h =
    let w : Found m at (places_of t) = found m at (ap next_of e) in
    let f : Fits m (places_of t) = w.fits in
    let (few, more) = bound m ts (end_of t) (walk_step m at t ts e) f.3 in
    let size : length (lines_from m at) ≡ length (line_at m (places_of t)) + length (lines_from m (end_of t)) = found_size w in
    (omega (arith, w.one, few, w.ahead, f), omega (arith, size, more, w.ahead, f, line_short m (places_of t) f))

-- the listing of a message of at most 32,768 bytes: its first line has at most five digits, and no other is longer than three times
-- its trailer
pub listing_short : (m : List ℕ) → length m ≤ 32_768 → length (listing m) ≤ 15 + 3 * length m
unfolding listing
listing_short m h =
    let ts : List Trailer = walk_from m (walk_start m).at in
    let (few, lines) = bound m (walk_from m (walk_start m).at) (walk_start m).at refl (walk_fits m) in
    let number : List ℕ = decimal (length (walk_from m (walk_start m).at)) in
    let digits : length (decimal (length (walk_from m (walk_start m).at))) ≤ 5 = decimal_short 4 (length (walk_from m (walk_start m).at)) (omega arith) in
    omega (arith, length-append (first_line number) (lines_of ts), first_size number)
