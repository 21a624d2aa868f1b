-- What the parts of a call on a body answer, in the numbers and values that its statement gives. Assumes nothing.
use Rattle.std.specs.Prelude.{Option, None, Some, Result, Ok, Err}
use mathlib.Core.Bool.{true, false}
use mathlib.Core.List.{List, [], ◌∷◌}
use mathlib.Core.Path.{◌≡◌, refl, ap, ◌∙◌}
use Prim.Native.Nat.{ℕ, ◌+◌, ◌-◌, ◌≤◌, ◌<◌}
use native.Mathlib.Omega.{arith}
use borrow.Author.Tests.{le-ltb}
use lib.Dec.{ltb}
use lib.ListN.{length, take, drop}
use Rattle.block.specs.Step.{next_block}
use Rattle.filter.specs.Lookup.{looked_up}
use Rattle.record.proofs.Read.{read_answer, read_left, said_of}
use Rattle.record.specs.Read.{trailer_read}
use Rattle.rules.specs.Answers.{Said, judged, limit, no_room, number, trailer_found_says, trailer_step_says, values}
use Rattle.rules.specs.Division.{Block, block}
use Rattle.rules.specs.Lines.{lines}
use Rattle.rules.specs.Number.{cursor_at, cursor_fits, line_number, moved_on}
use Rattle.rules.specs.Paragraph.{block_start}
use Rattle.rules.specs.Record.{fitted, places_of, record_of, written_of, block_step_with, step_with}
use Rattle.rules.specs.Trailer.{Trailer, is_of, lookup, only, place_of, raw_value, walk_from}
use Rattle.rules.specs.declared.BlockStep.{BlockStep}
use Rattle.rules.specs.declared.Cursor.{Cursor}
use Rattle.rules.specs.declared.Kind.{Kind}
use Rattle.rules.specs.declared.Places.{Places}
use Rattle.rules.specs.declared.TrailerRef.{TrailerRef}
use Rattle.rules.specs.declared.TrailerStep.{TrailerStep}
use Rattle.rules.proofs.Answers.{judged_answer, trailer_step_decides}
use Rattle.rules.proofs.Number.{fits_is, moved_twice, moved_within}
use Rattle.rules.proofs.Record.{MayRead, first_line_is, may_read, places_fit}
use Rattle.rules.proofs.Walk.{Stands, lookup_stands, only_stands, those_place}
use Rattle.trailer.proofs.Steps.{First, first_is, none_is}
use Rattle.trailer.specs.Walk.{next_of}
use Rattle.body.specs.Body.{block_cursor, find_answer, find_buffer, first_block, first_step, step_answer, step_buffer, step_rows}
use Rattle.rules.specs.declared.Refusal.{Refusal}
use Rattle.rules.specs.declared.BlockPlaces.{BlockPlaces}

-- ---- the block step

pub block_found : (body : List ℕ) (at : ℕ) (bs : List Block) {b : BlockPlaces} → next_block at bs ≡ Some b
    → first_block body at bs ≡ block_step_with (Some b) (block_cursor b.end)
block_found body at [] q = let z : ◌≡◌ {A = ℕ} 0 1 = cc in absurd (omega arith)
block_found body at (block m t ∷ bs) q = cc

pub block_ended : (body : List ℕ) (at : ℕ) (bs : List Block) → next_block at bs ≡ None
    → first_block body at bs ≡ block_step_with None (block_cursor (length body))
block_ended body at [] q = refl
block_ended body at (block m t ∷ bs) q = let z : ◌≡◌ {A = ℕ} 0 1 = cc in absurd (omega arith)

-- ---- the trailer step, behind refusals 1 and 2: `ts` are the trailers that the filter leaves

module _ (kind : Kind) (body : List ℕ) (c : Cursor) (short : ltb limit (length body) ≡ false) (fits : cursor_fits c body ≡ true) where
  abbrev ts : List Trailer
  ts = only kind (walk_from body c.at)

  module _ (q : next_of ts ≡ None) where
    pub step_ended : {end : Cursor} → end ≡ moved_on body c (length body) → (room : ℕ) → trailer_step_says (Ok (step_with None end)) ≡ step_answer kind body c room
    step_ended e room = rw (e, short, fits, none_is ts q, le-ltb room 0 (omega arith))

    pub buffer_ended : (out : List ℕ) → out ≡ step_buffer kind body c out
    buffer_ended out = rw (short, fits, none_is ts q, le-ltb (length out) 0 (omega arith))

  module _ {p : Places} (q : next_of ts ≡ Some p) where
    f : First ts p
    f = first_is ts q

    w : Stands body f.found
    w = only_stands body c.at kind f.walked

    -- the cursor may be moved on to the trailer's start, and from there to its end
    pub start_fits : (c.line ≤ c.at + 1) × (c.at ≤ p.start) × (p.start ≤ length body)
    start_fits =
        let (a, b, d, e) = places_fit w f.places in
        let place = those_place body (is_of kind) c.at (walk_from body c.at) f.found f.later refl f.walked in
        let here : p.start ≡ place_of f.found = ap (λ (k : Places). k.start) f.places in
        ((fits_is body c fits).2, omega (arith, place, here), omega (arith, a, b, d, e))

    pub end_fits : {here : Cursor} → here ≡ moved_on body c p.start
        → ((here.line ≤ here.at + 1) × (here.at < p.end) × (p.end ≤ length body))
        × (length (lines (take (p.first_end - here.at) (drop here.at body))) ≡ 1)
    end_fits h =
        let (a, b, d, e) = places_fit w f.places in
        rw h ((moved_within body c p.start start_fits.0 start_fits.1, omega (arith, a, b, d), e), first_line_is w f.places)

    pub next_is : {here next : Cursor} → here ≡ moved_on body c p.start → next ≡ moved_on body here p.end → next ≡ moved_on body c p.end
    next_is h n =
        let (a, b, d, e) = places_fit w f.places in
        n ∙ ap (λ (k : Cursor). moved_on body k p.end) h ∙ moved_twice body c p.start p.end start_fits.1 (omega (arith, a, b, d))

    abbrev said : Cursor → TrailerRef → Said
    said next r = trailer_step_says (Ok (step_with (Some r) next))

    abbrev written : List ℕ
    written = written_of (raw_value f.found)

    pub step_fits : MayRead body p
    step_fits = may_read w f.places

    pub step_found : {here next : Cursor} → here ≡ moved_on body c p.start → next ≡ moved_on body here p.end
        → {r : Result TrailerRef Refusal} (room : ℕ) → r ≡ trailer_read here.line p (take (p.end - p.value_start) (drop p.value_start body)) room
        → said_of (said next) r ≡ step_answer kind body c room
    step_found {here} {next} h n room e =
        read_answer w f.places (said next) here.line room e
        ∙ ap (λ (k : Cursor). judged (no_room (length written) room ∷ []) (said k (record_of here.line f.found))) (next_is h n)
        ∙ ap (λ (k : Cursor). judged (no_room (length written) room ∷ []) (said (moved_on body c p.end) (record_of k.line f.found))) h
        ∙ ap (λ (at : Places). judged (no_room (length written) room ∷ []) (said (moved_on body c at.end) (record_of (moved_on body c at.start).line f.found))) f.places
        ∙ rw (short, fits, f.walked)

    pub step_left : (out : List ℕ) {left : List ℕ} → left ≡ fitted (written_of (take (p.end - p.value_start) (drop p.value_start body))) out
        → left ≡ step_buffer kind body c out
    step_left out e = read_left w f.places out (values (trailer_step_says (Ok (first_step body c (f.found ∷ f.later))))) e ∙ rw (short, fits, f.walked)

-- the step that was answered, or the one at hand
abbrev ok_or_first : TrailerStep → Result TrailerStep Refusal → TrailerStep
ok_or_first s (Ok t) = t
ok_or_first s (Err r) = s

-- a step that is not refused has answered the first of them
pub step_is : (kind : Kind) (body : List ℕ) (c : Cursor) (room : ℕ) (s : TrailerStep) → trailer_step_says (Ok s) ≡ step_answer kind body c room
    → s ≡ first_step body c (only kind (walk_from body c.at))
step_is kind body c room s e =
    let answer : TrailerStep = first_step body c (only kind (walk_from body c.at)) in
    ap (ok_or_first s)
    (trailer_step_decides (trailer_step_says (Ok answer)) (Ok s) (Ok answer) (judged_answer (step_rows kind body c room) tt refl e) refl)

-- ---- the lookup, behind refusal 1

-- a trailer that was looked up, by its places
record Looked (o : Option Trailer) (at : Places) : Type 0 where
  found : Trailer
  there : o ≡ Some found
  places : at ≡ places_of found

looked_up_lem : (o : Option Trailer) {at : Places} → looked_up o ≡ Some at → Looked o at
looked_up_lem None q = let z : ◌≡◌ {A = ℕ} 0 1 = cc in absurd (omega arith)
looked_up_lem (Some t) q = record { found = t; there = refl; places = cc }

not_there : (o : Option Trailer) → looked_up o ≡ None → o ≡ None
not_there None q = refl
not_there (Some u) q = cc

module _ (body name : List ℕ) (short : ltb limit (length body) ≡ false) (brief : ltb limit (length name) ≡ false) where
  abbrev answer : Option Trailer
  answer = lookup name (walk_from body (block_start body))

  module _ (q : looked_up answer ≡ None) where
    pub find_none : (room : ℕ) → trailer_found_says (Ok None) ≡ find_answer body name room
    find_none room = rw (short, brief, not_there answer q, le-ltb room 0 (omega arith))

    pub find_none_left : (out : List ℕ) → out ≡ find_buffer body name out
    find_none_left out = rw (short, brief, not_there answer q, le-ltb (length out) 0 (omega arith))

  module _ {p : Places} (q : looked_up answer ≡ Some p) where
    l : Looked answer p
    l = looked_up_lem answer q

    at_l : Stands body l.found
    at_l = lookup_stands body (block_start body) name l.there

    pub find_fits : MayRead body p
    find_fits = may_read at_l l.places

    pub start_inside : p.start ≤ length body
    start_inside = let (a, b, c, d) = places_fit at_l l.places in omega (arith, a, b, c, d)

    pub find_found : {here : Cursor} → here ≡ cursor_at body p.start
        → {r : Result TrailerRef Refusal} (room : ℕ) → r ≡ trailer_read here.line p (take (p.end - p.value_start) (drop p.value_start body)) room
        → said_of (λ x. trailer_found_says (Ok (Some x))) r ≡ find_answer body name room
    find_found {here} h room e =
        let number_is : here.line ≡ line_number body (place_of l.found) = ap (λ (k : Cursor). k.line) h ∙ ap (λ (at : Places). line_number body at.start) l.places in
        read_answer at_l l.places (λ x. trailer_found_says (Ok (Some x))) here.line room e
        ∙ rw (number_is, short, brief, l.there)

    pub find_left : (out : List ℕ) {left : List ℕ} → left ≡ fitted (written_of (take (p.end - p.value_start) (drop p.value_start body))) out
        → left ≡ find_buffer body name out
    find_left out e = read_left at_l l.places out (values (trailer_found_says (Ok (Some (record_of (line_number body (place_of l.found)) l.found))))) e ∙ rw (short, brief, l.there)
