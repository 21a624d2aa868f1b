-- The trailer ahead, read into the part of the buffer that is still free, as a turn of the listing. Assumes nothing.
use Rattle.std.specs.Prelude.{Option, Some, Result, Ok, IsOk}
use mathlib.Core.List.{List, ◌++◌}
use mathlib.Core.Path.{◌≡◌, refl, sym, ap, ◌∙◌}
use Prim.Native.Nat.{ℕ, ◌+◌, ◌-◌, ◌≤◌, ◌<◌, ◌^◌}
use native.Mathlib.Omega.{arith}
use borrow.Author.Tests.{le-ltb}
use borrow.Rule.Slice.PartMut.{put_mid}
use lib.ListN.{length, take, drop, length-drop}
use Rattle.record.specs.Read.{trailer_read}
use Rattle.rules.proofs.Number.{fits_is, moved_twice, moved_within}
use Rattle.rules.proofs.Parts.{rest}
use Rattle.rules.proofs.Record.{MayRead, first_line_is, may_read, places_fit, raw_is}
use Rattle.rules.proofs.Walk.{Stands, those_place, walk_stands, walk_step}
use Rattle.rules.specs.Lines.{lines}
use Rattle.rules.specs.Number.{moved_on}
use Rattle.rules.specs.Record.{fitted, places_of, record_of, written_of}
use Rattle.rules.specs.Trailer.{Trailer, end_of, is_of, place_of, raw_value, raw_value_at}
use Rattle.rules.specs.declared.Cursor.{Cursor}
use Rattle.rules.specs.declared.Kind.{Kind}
use Rattle.rules.specs.declared.Places.{Places}
use Rattle.rules.specs.declared.Refusal.{Refusal}
use Rattle.rules.specs.declared.TrailerRef.{TrailerRef}
use Rattle.trailer.proofs.Steps.{First, first_is}
use Rattle.copy.specs.Onto.{onto}
use Rattle.copy.proofs.Onto.{tail_written}
use Rattle.body.specs.Body.{first_writes}
use Rattle.listing.proofs.Turn.{all_kept, taken_is}
use Rattle.listing.specs.Listing.{taken}
use Rattle.listing.specs.Turns.{Ready, left_at, turn_of}
use Rattle.listing.specs.declared.Spot.{Spot}
use Rattle.listing.specs.declared.FromEnd.{FromEnd}
use Rattle.planning.specs.Planning.{found, from}
use Rattle.planning.proofs.Counted.{from_front}

-- what is read of a trailer whose value has room
read_as : {s : List ℕ} {t : Trailer} {at : Places} {r : Result TrailerRef Refusal} → Stands s t → at ≡ places_of t → (line room : ℕ) → length (written_of (raw_value t)) ≤ room
    → r ≡ trailer_read line at (take (at.end - at.value_start) (drop at.value_start s)) room → r ≡ Ok (record_of line t)
read_as {t = t} w e line room h q = q ∙ rw (raw_is w e, le-ltb room (length (written_of (raw_value t))) h, w.ending_is, e)

module _ (s : List ℕ) (p : Spot) (at : Places) (out : List ℕ) (y : Ready s p at (length out)) where
  abbrev free : List ℕ
  free = take (length out - p.done.bytes) (drop p.done.bytes out)

  abbrev raw : List ℕ
  raw = take (at.end - at.value_start) (drop at.value_start s)

  free-length : length free ≡ length out - p.done.bytes
  free-length = ap length (rest out p.done.bytes) ∙ length-drop p.done.bytes out

  pub first : First (left_at p s) at
  first = first_is (left_at p s) y.ahead

  abbrev t : Trailer
  t = first.found

  there : Stands s t
  there = walk_stands s p.cursor.at t first.later first.walked

  places : at ≡ places_of t
  places = first.places

  room : length (written_of (raw_value t)) ≤ length free
  room = omega (arith, y.fits, free-length, ap (λ (ts : List Trailer). length (first_writes ts)) first.walked)

  -- the cursor may be moved on to the trailer's start, and from there to its end
  pub start_fits : (p.cursor.line ≤ p.cursor.at + 1) × (p.cursor.at ≤ at.start) × (at.start ≤ length s)
  start_fits =
      let place = those_place s (is_of Kind.All) p.cursor.at (left_at p s) t first.later refl (all_kept (left_at p s) ∙ first.walked) in
      ((fits_is s p.cursor y.placed).2, omega (arith, place, ap (λ (k : Places). k.start) places), omega (arith, places_fit there places))

  pub read_fits : MayRead s at
  read_fits = may_read there places

  -- its number is one of a line
  pub first_line : 1 ≤ (moved_on s p.cursor (place_of t)).line
  first_line = omega (arith, fits_is s p.cursor y.placed)

  module _ {here : Cursor} (h : here ≡ moved_on s p.cursor at.start) where
    pub end_fits : ((here.line ≤ here.at + 1) × (here.at < at.end) × (at.end ≤ length s))
        × (length (lines (take (at.first_end - here.at) (drop here.at s))) ≡ 1)
    end_fits =
        let number = moved_within s p.cursor at.start start_fits.0 start_fits.1 in
        rw h ((number, omega (arith, places_fit there places), read_fits.0.1), first_line_is there places)

    next_is : {next : Cursor} → next ≡ moved_on s here at.end → next ≡ moved_on s p.cursor (end_of t)
    next_is n =
        n ∙ ap (λ (k : Cursor). moved_on s k at.end) h
        ∙ moved_twice s p.cursor at.start at.end start_fits.1 (omega (arith, places_fit there places))
        ∙ ap (λ (k : Places). moved_on s p.cursor k.end) places

    -- its record
    read_is : {r : Result TrailerRef Refusal} → r ≡ trailer_read here.line at raw (length free)
        → r ≡ Ok (record_of (moved_on s p.cursor (place_of t)).line t)
    read_is e =
        read_as there places here.line (length free) room e ∙ ap (λ (k : Cursor). Ok (record_of k.line t)) h
        ∙ ap (λ (k : Places). Ok (record_of (moved_on s p.cursor k.start).line t)) places

    pub not_refused : {r : Result TrailerRef Refusal} → r ≡ trailer_read here.line at raw (length free) → IsOk r
    not_refused e = rw (read_is e) refl

    pub found_is : {r : Result TrailerRef Refusal} {x : TrailerRef} → r ≡ Ok x → r ≡ trailer_read here.line at raw (length free)
        → x ≡ record_of (moved_on s p.cursor (place_of t)).line t
    found_is {x = x} is e = let same : Ok x ≡ Ok (record_of (moved_on s p.cursor (place_of t)).line t) = sym is ∙ read_is e in cc

    module _ {r : TrailerRef} (e : r ≡ record_of (moved_on s p.cursor (place_of t)).line t) {next : Cursor} (n : next ≡ moved_on s here at.end) where
      pub next_within : next.at ≤ length s
      next_within = rw n read_fits.0.1

      -- what is asked of a turn: its places fit
      pub turn_fits : length out < 2 ^ 64 → (p.done.bytes + taken r.value < 2 ^ 64) × (from r.value ≤ taken r.value)
      turn_fits b =
          rw (e, taken_is (raw_value_at t) (raw_value t), from_front (raw_value_at t) (raw_value t))
          (omega (arith, y.fits, ap (λ (ts : List Trailer). length (first_writes ts)) first.walked), omega arith)

      pub turn_is : (told : Option FromEnd) → Some (found p.done told s r next) ≡ turn_of p told s (left_at p s)
      turn_is told = rw (first.walked, e, next_is n, taken_is (raw_value_at t) (raw_value t), walk_step s p.cursor.at t first.later first.walked)

  -- the buffer that is left
  pub left : (z : List ℕ) → z ≡ fitted (written_of raw) free → put_mid p.done.bytes (length out - p.done.bytes) out z ≡ onto p.done.bytes (first_writes (left_at p s)) out
  left z e =
      let w : List ℕ = written_of (raw_value t) in
      let so : z ≡ w ++ drop (length w) free = e ∙ rw (raw_is there places, le-ltb (length free) (length (written_of (raw_value t))) room) in
      rw first.walked (ap (put_mid p.done.bytes (length out - p.done.bytes) out) so ∙ tail_written out w p.done.bytes)
