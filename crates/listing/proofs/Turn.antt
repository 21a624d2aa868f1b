-- The turns of a loop that lists, as facts on lists: where they start, what a turn asks of the step, what it leaves, and how they end. A
-- record is laid into the table as the cells that `cells` makes of it: itself, or numbers. Assumes nothing.
use Rattle.std.specs.Prelude.{Option, Some, None, Ok, if◌then◌else◌}
use Rattle.std.proofs.lemmas.Option.{same_Some}
use mathlib.Core.Bool.{Bool, true, false}
use mathlib.Core.List.{List, [], ◌∷◌, ◌++◌, map}
use mathlib.Core.Path.{◌≡◌, refl, sym, ap, ◌∙◌}
use Prim.Native.Nat.{ℕ, suc, ◌+◌, ◌≤◌, ◌<◌}
use native.Mathlib.Omega.{arith}
use borrow.Author.Tests.{le-ltb}
use lib.Dec.{eqb, ltb}
use lib.ListN.{length, drop, length-append, length-map}
use Rattle.rules.proofs.Number.{moved_fits}
use Rattle.rules.proofs.Walk.{walk_moves, walk_step, walk_within}
use Rattle.rules.specs.Answers.{Said, afterwards, limit, number, trailer_step_says}
use Rattle.rules.specs.Number.{cursor_fits, moved_on}
use Rattle.rules.specs.Record.{part, record_of, value_of, written_of}
use Rattle.rules.specs.Trailer.{Trailer, end_of, only, place_of, raw_value, unfolded, value_is_written, walk_from}
use Rattle.rules.specs.White.{trim, trim_at}
use Rattle.rules.specs.declared.Cursor.{Cursor}
use Rattle.rules.specs.declared.Kind.{Kind}
use Rattle.rules.specs.declared.Places.{Places}
use Rattle.rules.specs.declared.TrailerRef.{TrailerRef}
use Rattle.rules.specs.declared.Value.{Value}
use Rattle.copy.specs.Onto.{onto}
use Rattle.copy.proofs.Onto.{length-onto, onto-append, onto_front, onto-nil}
use Rattle.body.specs.Body.{first_step, first_writes, step_answer, step_buffer}
use Rattle.listing.specs.Answers.{listing_says}
use Rattle.listing.specs.Listing.{records_of, shifted_record, taken, tell, values_of}
use Rattle.trailer.proofs.Steps.{First, first_is, none_is}
use Rattle.trailer.specs.Walk.{next_of}
use Rattle.listing.specs.Turns.{Ready, Starts, counts, laid, left_at, listed, standing, turn_of}
use Rattle.listing.specs.declared.Beginning.{Beginning}
use Rattle.listing.specs.declared.Counts.{Counts}
use Rattle.listing.specs.declared.Spot.{Spot}
use Rattle.listing.specs.declared.Step.{Step}
use Rattle.listing.specs.declared.FromEnd.{FromEnd}

-- ---- the single step

-- all kinds: no trailer is passed over
pub all_kept : (ts : List Trailer) → only Kind.All ts ≡ ts
all_kept [] = refl
all_kept (t ∷ ts) = ap (λ (us : List Trailer). t ∷ us) (all_kept ts)

module _ (s : List ℕ) (c : Cursor) (room : ℕ) (short : ltb limit (length s) ≡ false) (placed : cursor_fits c s ≡ true)
    (fits : length (first_writes (walk_from s c.at)) ≤ room) where
  -- it is not refused
  pub single_says : step_answer Kind.All s c room ≡ trailer_step_says (Ok (first_step s c (walk_from s c.at)))
  single_says = rw (all_kept (walk_from s c.at), short, placed, le-ltb room (length (first_writes (walk_from s c.at))) fits)

first_number : (s : List ℕ) (c : Cursor) (ts : List Trailer) → number (trailer_step_says (Ok (first_step s c ts))) ≡ 0
first_number s c [] = refl
first_number s c (t ∷ ts) = refl

-- and it writes to the front of what it is lent
pub single_left : (s : List ℕ) (c : Cursor) (out : List ℕ) → ltb limit (length s) ≡ false → cursor_fits c s ≡ true
    → length (first_writes (walk_from s c.at)) ≤ length out
    → step_buffer Kind.All s c out ≡ first_writes (walk_from s c.at) ++ drop (length (first_writes (walk_from s c.at))) out
single_left s c out short placed fits =
    let w : List ℕ = first_writes (walk_from s c.at) in
    rw (all_kept (walk_from s c.at))
    (ap (λ (said : Said). afterwards said w out) (rw (all_kept (walk_from s c.at)) at (single_says s c (length out) short placed fits))
    ∙ ap (λ (k : ℕ). if eqb k 0 then w ++ drop (length w) out else out) (first_number s c (walk_from s c.at)))

-- a value takes what is written of it
pub taken_is : (at : ℕ) (raw : List ℕ) → taken (value_of at raw) ≡ length (written_of raw)
taken_is at raw = by (value_is_written raw)
  where
    by : (b : Bool)
        → taken (if b then Value.InBuffer (part 0 (length (unfolded raw))) else Value.InInput (part (at + trim_at raw) (at + trim_at raw + length (trim raw))))
        ≡ length (if b then unfolded raw else [])
    by true = refl
    by false = refl

-- ---- records and values

pub length_records : (s : List ℕ) (c : Cursor) (used : ℕ) (ts : List Trailer) → length (records_of s c used ts) ≡ length ts
unfolding records_of
length_records s c used [] = refl
length_records s c used (t ∷ ts) = ap suc (length_records s (moved_on s c (end_of t)) (used + length (written_of (raw_value t))) ts)

-- the cells of the records of some trailers, as they are told
abbrev told_cells : {A : Type 0} → (TrailerRef → List A) → Option FromEnd → List ℕ → Cursor → ℕ → List Trailer → List A
told_cells cells told s c used ts = laid cells (map (tell told) (records_of s c used ts))

none_laid : {A : Type 0} (cells : TrailerRef → List A) (told : Option FromEnd) (s : List ℕ) (c : Cursor) (used : ℕ) → told_cells cells told s c used [] ≡ []
unfolding records_of laid
none_laid cells told s c used = refl

no_values : values_of [] ≡ []
unfolding values_of
no_values = refl

values_cons : (t : Trailer) (ts : List Trailer) → values_of (t ∷ ts) ≡ written_of (raw_value t) ++ values_of ts
unfolding values_of
values_cons t ts = refl

-- the first of some trailers, as it is laid
laid_cons : {A : Type 0} (cells : TrailerRef → List A) (told : Option FromEnd) (s : List ℕ) (c : Cursor) (used : ℕ) (t : Trailer) (ts : List Trailer)
    → told_cells cells told s c used (t ∷ ts)
    ≡ cells (tell told (shifted_record used (record_of (moved_on s c (place_of t)).line t)))
    ++ told_cells cells told s (moved_on s c (end_of t)) (used + length (written_of (raw_value t))) ts
unfolding records_of laid
laid_cons cells told s c used t ts = refl

-- ---- the answer's counts

same_counts : {a b n m : ℕ} → a ≡ b → n ≡ m → counts a n ≡ counts b m
same_counts p q = rw (p, q)

-- ---- the turns

-- What holds between turns of a listing that begins at b: the next record goes to `at`, the listing stands at p, the table is l and the
-- buffer z. The trailers of `todo` are left of the walk, and their values have room; where they are stored the table is T, the buffer is Z,
-- and this is said.
pub record Turn {A : Type 0} (cells : TrailerRef → List A) (s : List ℕ) (b : Beginning) (said : Said) (lt lz : ℕ) (T : List A) (Z : List ℕ) (at : ℕ) (p : Spot) (l : List A) (z : List ℕ) : Type 0 where
  pub todo : List Trailer
  pub left : left_at p s ≡ todo
  pub ahead : p.ahead ≡ next_of todo
  pub placed : cursor_fits p.cursor (s) ≡ true
  pub few : p.done.records ≤ p.cursor.at
  pub room : p.done.bytes + length (values_of todo) ≤ lz
  pub long : length l ≡ lt
  pub wide : length z ≡ lz
  pub rooms : at + length (told_cells cells b.told (s) p.cursor p.done.bytes todo) ≤ lt
  pub table : onto at (told_cells cells b.told (s) p.cursor p.done.bytes todo) l ≡ T
  pub buffer : onto p.done.bytes (values_of todo) z ≡ Z
  pub at_last : listing_says (listed (counts (p.done.records + length todo) (p.done.bytes + length (values_of todo))) b.looked) ≡ said

module _ {A : Type 0} {cells : TrailerRef → List A} {s : List ℕ} {b : Beginning} {said : Said} {lt lz : ℕ} {T : List A} {Z : List ℕ} {at : ℕ} {p : Spot} {l : List A} {z : List ℕ}
    (t : Turn cells s b said lt lz T Z at p l z) where
  module _ {places : Places} (h : p.ahead ≡ Some places) where
    first : First t.todo places
    first = first_is t.todo (sym t.ahead ∙ h)

    abbrev u : Trailer
    u = first.found

    abbrev us : List Trailer
    us = first.later

    -- what is written of its value, its record's cells, and the cells of the others
    abbrev written : List ℕ
    written = written_of (raw_value u)

    abbrev cell : List A
    cell = cells (tell b.told (shifted_record p.done.bytes (record_of (moved_on s p.cursor (place_of u)).line u)))

    abbrev later : List A
    later = told_cells cells b.told s (moved_on s p.cursor (end_of u)) (p.done.bytes + length written) us

    walked : left_at p s ≡ u ∷ us
    walked = t.left ∙ first.walked

    values_are : values_of t.todo ≡ written ++ values_of us
    values_are = ap values_of first.walked ∙ values_cons u us

    cells_are : told_cells cells b.told s p.cursor p.done.bytes t.todo ≡ cell ++ later
    cells_are = ap (λ (ts : List Trailer). told_cells cells b.told s p.cursor p.done.bytes ts) first.walked ∙ laid_cons cells b.told s p.cursor p.done.bytes u us

    fits : p.done.bytes + length written + length (values_of us) ≤ lz
    fits = omega (arith, t.room, ap length values_are ∙ length-append written (values_of us))

    fits_table : at + length cell + length later ≤ lt
    fits_table = omega (arith, t.rooms, ap length cells_are ∙ length-append cell later)

    -- what the step asks
    pub ready : Ready s p places (length z)
    ready = record {
      placed = t.placed;
      ahead = ap next_of t.left ∙ sym t.ahead ∙ h;
      few = t.few;
      fits = rw walked (omega (arith, t.wide, fits));
    }

    module _ (r : Step) (e : Some r ≡ turn_of p b.told s (left_at p s)) where
      answer : Some r ≡ turn_of p b.told s (u ∷ us)
      answer = rw walked at e

      step_is : r ≡ record {
        found = tell b.told (shifted_record p.done.bytes (record_of (moved_on s p.cursor (place_of u)).line u));
        next = standing (moved_on s p.cursor (end_of u)) (counts (p.done.records + 1) (p.done.bytes + length written)) us;
      }
      step_is = same_Some _ _ answer

      -- the walk moves on, inside the text
      pub nearer : (p.cursor.at < r.next.cursor.at) × (r.next.cursor.at ≤ length s)
      nearer = rw step_is (walk_moves s p.cursor.at u us walked, walk_within s p.cursor.at u us walked)

      -- the room that its record has
      pub fits_next : at + length (cells r.found) ≤ length l
      fits_next = rw step_is (omega (arith, t.long, fits_table))

      pub next : (j : ℕ) (ls : List A) (zs : List ℕ) → j ≡ at + length (cells r.found) → ls ≡ onto at (cells r.found) l
          → zs ≡ onto p.done.bytes (first_writes (left_at p s)) z → Turn cells s b said lt lz T Z j r.next ls zs
      next j ls zs at-is f g =
          let g' : zs ≡ onto p.done.bytes written z = rw walked at g in
          let f' : ls ≡ onto at cell l = rw step_is at f in
          let j' : j ≡ at + length cell = rw step_is at at-is in
          let moves = walk_moves s p.cursor.at u us walked in
          let n : p.done.records + 1 + length us ≡ p.done.records + length t.todo = omega (arith, ap length first.walked) in
          let m : p.done.bytes + length written + length (values_of us) ≡ p.done.bytes + length (values_of t.todo) =
          omega (arith, ap length values_are ∙ length-append written (values_of us)) in
          rw step_is (record {
            todo = us;
            left = walk_step s p.cursor.at u us walked;
            ahead = refl;
            placed = moved_fits s p.cursor (end_of u) t.placed (omega (arith, moves)) (walk_within s p.cursor.at u us walked);
            few = omega (arith, t.few, moves);
            room = fits;
            long = ap length f' ∙ length-onto at cell l (omega (arith, t.long, fits_table)) ∙ t.long;
            wide = ap length g' ∙ length-onto p.done.bytes written z (omega (arith, t.wide, fits)) ∙ t.wide;
            rooms = rw j' fits_table;
            table = rw (j', f') (sym (onto-append at cell later l (omega (arith, t.long, fits_table))) ∙ rw cells_are at t.table);
            buffer = rw g' (sym (onto-append p.done.bytes written (values_of us) z (omega (arith, t.wide, fits))) ∙ rw values_are at t.buffer);
            at_last = ap (λ (c : Counts). listing_says (listed c b.looked)) (same_counts n m) ∙ t.at_last;
          })

  -- the end
  module _ (h : p.ahead ≡ None) where
    none_left : t.todo ≡ []
    none_left = none_is t.todo (sym t.ahead ∙ h)

    pub table_is : l ≡ T
    table_is = sym (onto-nil at l) ∙ rw (none_left, none_laid) at t.table

    pub buffer_is : z ≡ Z
    buffer_is = sym (onto-nil p.done.bytes z) ∙ rw (none_left, no_values) at t.buffer

    pub said_is : listing_says (listed p.done b.looked) ≡ said
    said_is =
        let n : p.done.records + length t.todo ≡ p.done.records = omega (arith, ap length none_left) in
        let m : p.done.bytes + length (values_of t.todo) ≡ p.done.bytes = omega (arith, ap length (ap values_of none_left ∙ no_values)) in
        ap (λ (c : Counts). listing_says (listed c b.looked)) (sym (same_counts n m)) ∙ t.at_last

-- the start: all of the walk is left, and there is room for it
module _ {s : List ℕ} {said : Said} {records : List TrailerRef} {values : List ℕ} {rooms room : ℕ} {b : Beginning} (g : Starts s said records values rooms room b) where
  abbrev p : Spot
  p = b.spot

  abbrev all : List Trailer
  all = walk_from s p.cursor.at

  none : p.done ≡ counts 0 0
  none = ap (λ (x : Spot). x.done) g.stands

  size : length all ≡ length records
  size = sym (length_records s p.cursor 0 all) ∙ sym (length-map (records_of s p.cursor 0 all) (tell b.told)) ∙ ap length g.records_are

  laid_all : {A : Type 0} (cells : TrailerRef → List A) → told_cells cells b.told s p.cursor p.done.bytes all ≡ laid cells records
  laid_all cells = rw none (ap (laid cells) g.records_are)

  all_said : listing_says (listed (counts (p.done.records + length all) (p.done.bytes + length (values_of all))) b.looked) ≡ said
  all_said =
      let n : p.done.records + length all ≡ length records = omega (arith, size, ap (λ (c : Counts). c.records) none) in
      let m : p.done.bytes + length (values_of all) ≡ length values = omega (arith, ap length g.values_are, ap (λ (c : Counts). c.bytes) none) in
      ap (λ (c : Counts). listing_says (listed c b.looked)) (same_counts n m) ∙ g.at_last

  -- it is no refusal
  fine : number said ≡ 0
  fine = ap number (sym g.at_last)

  pub start : {A : Type 0} (cells : TrailerRef → List A) (ys : List A) (os : List ℕ) → room ≡ length os → (length records ≤ rooms → length (laid cells records) ≤ length ys)
      → Turn cells s b said (length ys) (length os) (afterwards said (laid cells records) ys) (afterwards said values os) 0 p ys os
  start cells ys os wide enough = record {
    todo = all;
    left = refl;
    ahead = ap (λ (x : Spot). x.ahead) g.stands;
    placed = g.placed;
    few = omega (arith, ap (λ (c : Counts). c.records) none);
    room = omega (arith, wide, g.bytes_fit, ap length g.values_are, ap (λ (c : Counts). c.bytes) none);
    long = refl;
    wide = refl;
    rooms = rw (laid_all cells) (omega (arith, enough g.records_fit));
    table = rw (laid_all cells, fine) (onto_front (laid cells records) ys);
    buffer = rw (fine, none, g.values_are) (onto_front values os);
    at_last = all_said;
  }
