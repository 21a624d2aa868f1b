-- Where a listing begins, by its rows. Assumes nothing.
use Rattle.std.specs.Prelude.{Option, None, Some, Result, Ok, Err, IsOk, if◌then◌else◌}
use Rattle.std.specs.Option.{ok_or}
use mathlib.Core.Bool.{Bool, true, false}
use mathlib.Core.List.{List, [], ◌∷◌, map}
use mathlib.Core.Path.{◌≡◌, refl, sym, ap, ◌∙◌}
use Prim.Native.Nat.{ℕ, ◌≤◌, ◌<◌}
use native.Mathlib.Omega.{arith}
use borrow.Author.Tests.{le-ltb, lt-ltb, ltb-false}
use lib.Dec.{ltb}
use lib.ListN.{length, take, length-map}
use lib.Seq.{take-length}
use Rattle.divider.proofs.Readings.{handed_on, read_short, read_within}
use Rattle.divider.specs.Readings.{read}
use Rattle.divider.specs.declared.Reading.{Reading}
use Rattle.foot.proofs.Finding.{FoundAt}
use Rattle.foot.proofs.Tells.{foot_records_lem, foot_values_lem}
use Rattle.foot.proofs.Told.{foot_fits}
use Rattle.foot.specs.Found.{foot_cursor, foot_start, lines_from}
use Rattle.message.specs.Message.{walk_answer, walk_start}
use Rattle.rules.specs.Answers.{limit, limited, number, over_limit, refused, walk_found_says}
use Rattle.rules.specs.declared.Refusal.{Refusal}
use Rattle.rules.specs.declared.TooLong.{TooLong}
use Rattle.rules.specs.Number.{cursor_fits}
use Rattle.rules.specs.Trailer.{walk_from}
use Rattle.rules.specs.declared.Cursor.{Cursor}
use Rattle.rules.specs.declared.TrailerRef.{TrailerRef}
use Rattle.listing.proofs.Turn.{length_records}
use Rattle.listing.specs.Listing.{from_end, from_front, records_from, tell, values_from}
use Rattle.listing.specs.Turns.{Begun}
use Rattle.listing.specs.declared.Beginning.{Beginning}
use Rattle.listing.specs.declared.Counts.{Counts}
use Rattle.listing.specs.declared.ListingError.{ListingError}
use Rattle.planning.specs.declared.Scope.{Scope}
use Rattle.listing.specs.declared.FromEnd.{FromEnd}
use Rattle.foot.specs.declared.Foot.{Foot}
use Rattle.planning.specs.declared.Opening.{Opening}
use Rattle.planning.specs.Openings.{Opens}
use Rattle.planning.specs.Planning.{beginning, counts_at, settled_says}

module _ (input : List ℕ) (o : Opening) (rooms room : ℕ) where
  abbrev text : List ℕ
  text = take o.end input

  abbrev pub Settles : Result Beginning ListingError → Type 0
  Settles r = Begun input (settled_says text o rooms room) (map (tell o.told) (records_from text o.cursor)) (values_from text o.cursor) rooms room r

  told_count : length (map (tell o.told) (records_from text o.cursor)) ≡ length (records_from text o.cursor)
  told_count = length-map (records_from text o.cursor) (tell o.told)

  count_is : length (records_from text o.cursor) ≡ length (walk_from text o.cursor.at)
  count_is = length_records text o.cursor 0 (walk_from text o.cursor.at)

  module _ {k : Counts} (e : k ≡ counts_at text o.cursor.at) where
    records_are : length (records_from text o.cursor) ≡ k.records
    records_are = count_is ∙ ap (λ (x : Counts). x.records) (sym e)

    bytes_are : length (values_from text o.cursor) ≡ k.bytes
    bytes_are = ap (λ (x : Counts). x.bytes) (sym e)

    pub few_rooms : rooms < k.records → Settles (Err (ListingError.ShortTable k))
    few_rooms h = rw (records_are, bytes_are, lt-ltb rooms k.records h) refl

    pub no_room : k.records ≤ rooms → room < k.bytes → Settles (Err (ListingError.NoRoom k))
    no_room h r = rw (records_are, bytes_are, le-ltb rooms k.records h, lt-ltb room k.bytes r) refl

  pub all_fit : o.end ≤ length input → cursor_fits o.cursor text ≡ true → length (walk_from text o.cursor.at) ≤ rooms → length (values_from text o.cursor) ≤ room
      → Settles (Ok (beginning text o))
  all_fit within placed h r =
      let few = le-ltb rooms (length (records_from text o.cursor)) (omega (arith, count_is, h)) in
      let fits = le-ltb room (length (values_from text o.cursor)) r in (
        within,
        record {
          placed = placed;
          stands = refl;
          records_are = refl;
          values_are = refl;
          records_fit = omega (arith, told_count, count_is, h);
          bytes_fit = r;
          at_last = rw (told_count, few, fits);
        },
      )

-- told from the front, records are as they are
told_front : (rs : List TrailerRef) → map (tell from_front) rs ≡ rs
told_front [] = refl
told_front (r ∷ rs) = ap (λ (xs : List TrailerRef). r ∷ xs) (told_front rs)

-- ---- what there is to list

-- what was there
pub there : {A E : Type 0} (o : Option A) (e : E) {x : A} → Ok x ≡ ok_or o e → o ≡ Some x
there (Some y) e q = cc
there None e q = let z : ◌≡◌ {A = ℕ} 0 1 = cc in absurd (omega (arith, z))

pub is_short : (s : List ℕ) {u : Unit {0}} → Ok u ≡ limited s → length s ≤ limit
is_short s = by (over_limit s) refl
  where
    by : (b : Bool) → over_limit s ≡ b → {u : Unit {0}} → ◌≡◌ {A = Result (Unit {0}) TooLong} (Ok u) (if b then Err (record {}) else Ok tt) → length s ≤ limit
    by true q e = let z : ◌≡◌ {A = ℕ} 0 1 = cc in absurd (omega (arith, z))
    by false q e = ltb-false limit (length s) q

refuses : (r : Refusal) → number (refused r) ≡ 0 → ⊥
refuses Refusal.TooLong e = omega (arith, e)
refuses Refusal.BadPlace e = omega (arith, e)
refuses (Refusal.NoRoom n) e = omega (arith, e)

-- the walk of a message within the limit is not refused
walk_begins : (m : List ℕ) (r : Result Cursor Refusal) → ltb limit (length m) ≡ false → walk_found_says r ≡ walk_answer m → IsOk r
walk_begins m (Ok c) short e = refl
walk_begins m (Err x) short e = absurd (refuses x (ap number e ∙ rw short refl))

-- so of what is read of one
pub read_begins : (message : List ℕ) (reading : Reading) {end : ℕ} (r : Result Cursor Refusal) → length message ≤ limit → end ≡ length (read reading message)
    → walk_found_says r ≡ walk_answer (take end message) → IsOk r
read_begins message reading {end} r short q e =
    let same : take end message ≡ read reading message = (handed_on reading message q).0 in
    let long = le-ltb limit (length message) short in
    walk_begins (take end message) r (rw same (read_short reading message long)) e

pub from_opens : (input : List ℕ) (c : Cursor) → length input ≤ limit → cursor_fits c input ≡ true →
    Opens input (Scope.From c) (record { end = length input; cursor = c; looked = None; told = None })
from_opens input c short fits =
    let all : take (length input) input ≡ input = take-length input in
    record {
      within = omega arith;
      fits = rw all fits;
      answers = λ rooms room. rw (all, le-ltb limit (length input) short, fits);
      records_are = rw all (sym (told_front (records_from input c)));
      values_are = rw all;
    }

-- of a message: the text that is read of it, from where its walk begins
pub message_opens : (message : List ℕ) (reading : Reading) {end : ℕ} {c : Cursor} → end ≡ length (read reading message) → length message ≤ limit →
    (c ≡ walk_start (take end message)) × (cursor_fits c (take end message) ≡ true) →
    Opens message (Scope.Message reading) (record { end = end; cursor = c; looked = None; told = None })
message_opens message reading {end} {c} e short (at, fits) =
    let m : List ℕ = read reading message in
    let same : take end message ≡ m = (handed_on reading message e).0 in
    let long = le-ltb limit (length message) short in
    let at' : c ≡ walk_start m = rw same at at in
    let fits' : cursor_fits (walk_start m) m ≡ true = rw (same, at') at fits in
    record {
      within = omega (arith, e, read_within reading message);
      fits = fits;
      answers = λ rooms room. rw (same, at', long, read_short reading message long, fits');
      records_are = rw (same, at') (sym (told_front (records_from m (walk_start m))));
      values_are = rw (same, at');
    }

-- of a foot: the last bytes of a body, from where the walk of their trailers begins
pub foot_opens : (tail : List ℕ) (whole : Bool) {f : Foot} → length tail ≤ limit → FoundAt tail whole f →
    Opens tail (Scope.Foot whole)
    (record { end = length tail; cursor = record { at = f.at; line = 1 }; looked = Some f.looked; told = from_end (length tail) f.lines })
foot_opens tail whole short f =
    let c : Cursor = foot_cursor tail in
    let told : Option FromEnd = from_end (length tail) (lines_from tail (foot_start tail)) in
    let all : take (length tail) tail ≡ tail = take-length tail in
    let enough = f.is_enough in
    record {
      within = omega arith;
      fits = rw (all, f.at_is) (foot_fits tail);
      answers = λ rooms room. rw (
        all,
        f.at_is,
        f.looked_at_is,
        le-ltb limit (length tail) short,
        enough,
        foot_records_lem tail whole enough,
        foot_values_lem tail whole enough,
        length-map (records_from tail c) (tell told),
      );
      records_are = rw (all, f.at_is, f.lines_is) (foot_records_lem tail whole enough);
      values_are = rw (all, f.at_is) (foot_values_lem tail whole enough);
    }
