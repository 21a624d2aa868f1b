-- The single steps, called until the end, give the records and the values of the walk (given_by_steps), and nothing else (steps_give): so
-- there are as many records as trailers in the walk, and as many bytes as its written values have (records_count, bytes_count).
-- Assumes nothing.
use Rattle.std.specs.Prelude.{None, Some, Ok, if◌then◌else◌}
use mathlib.Core.Bool.{Bool, true, false, not, ◌||◌}
use mathlib.Core.List.{List, [], ◌∷◌, ◌++◌, map}
use mathlib.Core.Path.{◌≡◌, refl, sym, ap, ◌∙◌}
use Prim.Native.Nat.{ℕ, ◌+◌, ◌≤◌}
use native.Mathlib.Omega.{arith}
use borrow.Author.Tests.{ltb-false}
use lib.Dec.{ltb}
use lib.ListN.{length, take, drop, length-append, length-drop}
use Rattle.rules.proofs.Number.{moved_fits}
use Rattle.rules.proofs.Walk.{walk_moves, walk_step, walk_within}
use Rattle.rules.specs.Answers.{Said, says, afterwards, limit, number, over_limit, trailer_step_says}
use Rattle.rules.specs.Number.{cursor_fits, moved_on}
use Rattle.rules.specs.Record.{record_of, step_with, written_of}
use Rattle.rules.specs.Trailer.{Trailer, end_of, only, place_of, raw_value, raw_value_at, walk_from}
use Rattle.rules.specs.declared.Cursor.{Cursor}
use Rattle.rules.specs.declared.Kind.{Kind}
use Rattle.rules.specs.declared.TrailerRef.{TrailerRef}
use Rattle.rules.specs.declared.TrailerStep.{TrailerStep}
use Rattle.copy.specs.Onto.{onto}
use Rattle.copy.proofs.Onto.{front_written, length-onto, onto-append, onto-nil}
use Rattle.body.proofs.Calls.{step_is}
use Rattle.body.specs.Body.{first_step, first_writes, step_answer, step_buffer}
use Rattle.listing.specs.Listing.{Steps, ended, records_from, records_of, shifted_record, stepped, sum, taken, values_from, values_of}
use Rattle.listing.proofs.Turn.{all_kept, length_records, single_left, single_says, taken_is}

-- ---- what a step that is not refused tells of the walk

none_walked : {next : Cursor} (input : List ℕ) (c : Cursor) (ts : List Trailer) → step_with None next ≡ first_step input c ts → ts ≡ []
none_walked input c [] e = refl
none_walked input c (t ∷ ts) e = let found = ap (λ (s : TrailerStep). s.found) e in cc

record Walked (input : List ℕ) (c : Cursor) (r : TrailerRef) (next : Cursor) (ts : List Trailer) : Type 0 where
  first : Trailer
  later : List Trailer
  is : ts ≡ first ∷ later
  record_is : r ≡ record_of (moved_on input c (place_of first)).line first
  next_is : next ≡ moved_on input c (end_of first)

walked : {r : TrailerRef} {next : Cursor} (input : List ℕ) (c : Cursor) (ts : List Trailer) → step_with (Some r) next ≡ first_step input c ts
    → Walked input c r next ts
walked input c [] e =
    let found = ap (λ (s : TrailerStep). s.found) e in
    let z : ◌≡◌ {A = ℕ} 0 1 = cc in
    absurd (omega (arith, z))
walked input c (t ∷ ts) e =
    let found = ap (λ (s : TrailerStep). s.found) e in
    record { first = t; later = ts; is = refl; record_is = cc; next_is = ap (λ (s : TrailerStep). s.next) e }

-- its value has room
has_room : (input : List ℕ) (c : Cursor) (room : ℕ) → number (step_answer Kind.All input c room) ≡ 0
    → length (first_writes (only Kind.All (walk_from input c.at))) ≤ room
has_room input c room =
    by (over_limit input) (cursor_fits c input) (ltb room (length (first_writes (only Kind.All (walk_from input c.at))))) refl
  where
    by : (long fit none : Bool) → ltb room (length (first_writes (only Kind.All (walk_from input c.at)))) ≡ none
        → number (if long || false then says 1 [] else if not fit then says 2 []
        else if none then says 3 (length (first_writes (only Kind.All (walk_from input c.at))) ∷ [])
        else trailer_step_says (Ok (first_step input c (only Kind.All (walk_from input c.at))))) ≡ 0
        → length (first_writes (only Kind.All (walk_from input c.at))) ≤ room
    by true fit none p e = absurd (omega (arith, e))
    by false false none p e = absurd (omega (arith, e))
    by false true true p e = absurd (omega (arith, e))
    by false true false p e = ltb-false room (length (first_writes (only Kind.All (walk_from input c.at)))) p

-- ---- nothing else

-- one step, and what the others give behind it
behind : (input : List ℕ) (c : Cursor) (used k : ℕ) (out left front : List ℕ) (r : TrailerRef) (next : Cursor) (rs : List TrailerRef) (t : Trailer) (ts : List Trailer)
    → walk_from input c.at ≡ t ∷ ts → r ≡ record_of (moved_on input c (place_of t)).line t → next ≡ moved_on input c (end_of t)
    → k ≡ used + length (written_of (raw_value t)) → front ≡ onto used (written_of (raw_value t)) out → used + length (written_of (raw_value t)) ≤ length out
    → rs ≡ records_of input next k (walk_from input next.at) → left ≡ onto k (values_of (walk_from input next.at)) front
    → (shifted_record used r ∷ rs ≡ records_of input c used (walk_from input c.at)) × (left ≡ onto used (values_of (walk_from input c.at)) out)
unfolding records_of values_of
behind input c used k out left front r next rs t ts w re ne ke fe h rse le =
    let later : walk_from input next.at ≡ ts = ap (λ (x : Cursor). walk_from input x.at) ne ∙ walk_step input c.at t ts w in
    let others : rs ≡ records_of input (moved_on input c (end_of t)) (used + length (written_of (raw_value t))) ts = rse ∙ rw (later, ne, ke) in
    let rest : left ≡ onto (used + length (written_of (raw_value t))) (values_of ts) (onto used (written_of (raw_value t)) out) = le ∙ rw (later, ke, fe) in
    rw w (
      ap (λ (x : TrailerRef). shifted_record used x ∷ rs) re ∙ ap (λ (xs : List TrailerRef). shifted_record used (record_of (moved_on input c (place_of t)).line t) ∷ xs) others,
      rest ∙ sym (onto-append used (written_of (raw_value t)) (values_of ts) out h),
    )

pub steps_give : {input : List ℕ} {c : Cursor} {used : ℕ} {out : List ℕ} {rs : List TrailerRef} {left : List ℕ} → Steps input c used out rs left
    → used ≤ length out → (rs ≡ records_of input c used (walk_from input c.at)) × (left ≡ onto used (values_of (walk_from input c.at)) out)
unfolding records_of values_of
steps_give {input} {c} {used} {out} (ended next e) h =
    let q = step_is Kind.All input c (length (drop used out)) (step_with None next) e in
    let none : walk_from input c.at ≡ [] = none_walked input c (walk_from input c.at) (q ∙ ap (first_step input c) (all_kept (walk_from input c.at))) in
    rw none (refl, sym (onto-nil used out))
steps_give {input} {c} {used} {out} (stepped {rs = rs} {left = left} r next e more) h =
    let q = step_is Kind.All input c (length (drop used out)) (step_with (Some r) next) e in
    let f = walked input c (walk_from input c.at) (q ∙ ap (first_step input c) (all_kept (walk_from input c.at))) in
    let w : List ℕ = written_of (raw_value f.first) in
    let writes : first_writes (only Kind.All (walk_from input c.at)) ≡ w = ap first_writes (all_kept (walk_from input c.at) ∙ f.is) in
    let room : length w ≤ length (drop used out) = omega (arith, has_room input c (length (drop used out)) (ap number (sym e)), ap length writes) in
    let size : taken r.value ≡ length w = ap (λ (x : TrailerRef). taken x.value) f.record_is ∙ taken_is (raw_value_at f.first) (raw_value f.first) in
    let left_so : step_buffer Kind.All input c (drop used out) ≡ w ++ drop (length w) (drop used out) =
    ap (λ (said : Said). afterwards said (first_writes (only Kind.All (walk_from input c.at))) (drop used out)) (sym e) ∙ ap (λ (x : List ℕ). x ++ drop (length x) (drop used out)) writes in
    let front : take used out ++ step_buffer Kind.All input c (drop used out) ≡ onto used w out =
    ap (λ (x : List ℕ). take used out ++ x) left_so ∙ front_written out w used in
    let fits : used + length w ≤ length out = omega (arith, room, length-drop used out) in
    let long = ap length front ∙ length-onto used w out fits in
    let others = steps_give more (omega (arith, size, fits, long)) in
    behind input c used (used + taken r.value) out left (take used out ++ step_buffer Kind.All input c (drop used out)) r next rs f.first f.later
    f.is f.record_is f.next_is (ap (λ (n : ℕ). used + n) size) front fits others.0 others.1

-- ---- and that they do give, where there is room

pub given_by_steps : (input : List ℕ) (c : Cursor) (used : ℕ) (out : List ℕ) (ts : List Trailer) → walk_from input c.at ≡ ts
    → ltb limit (length input) ≡ false → cursor_fits c input ≡ true → used + length (values_of ts) ≤ length out
    → Steps input c used out (records_of input c used ts) (onto used (values_of ts) out)
unfolding records_of values_of
given_by_steps input c used out [] e short placed h =
    let fits : length (first_writes (walk_from input c.at)) ≤ length (drop used out) = rw e (omega arith) in
    rw (onto-nil used out) (ended (moved_on input c (length input)) (sym (single_says input c (length (drop used out)) short placed fits ∙ ap (λ (us : List Trailer). trailer_step_says (Ok (first_step input c us))) e)))
given_by_steps input c used out (t ∷ ts) e short placed h =
    let w : List ℕ = written_of (raw_value t) in
    let both : length (w ++ values_of ts) ≡ length w + length (values_of ts) = length-append w (values_of ts) in
    let fits : length (first_writes (walk_from input c.at)) ≤ length (drop used out) = rw e (omega (arith, length-drop used out, both)) in
    let here : used + length w ≤ length out = omega (arith, both) in
    let front : take used out ++ step_buffer Kind.All input c (drop used out) ≡ onto used w out =
    ap (λ (x : List ℕ). take used out ++ x) (single_left input c (drop used out) short placed fits ∙ ap (λ (us : List Trailer). first_writes us ++ drop (length (first_writes us)) (drop used out)) e) ∙ front_written out w used in
    let next : Cursor = moved_on input c (end_of t) in
    let placed-next = moved_fits input c (end_of t) placed (omega (arith, walk_moves input c.at t ts e)) (walk_within input c.at t ts e) in
    let others = given_by_steps input next (used + length w) (onto used w out) ts (walk_step input c.at t ts e) short placed-next
    (omega (arith, both, length-onto used w out here)) in
    let found : TrailerRef = record_of (moved_on input c (place_of t)).line t in
    let behind-it : Steps input next (used + taken found.value) (take used out ++ step_buffer Kind.All input c (drop used out))
    (records_of input next (used + length w) ts) (onto (used + length w) (values_of ts) (onto used w out)) = rw (taken_is (raw_value_at t) (raw_value t), front) others in
    let said = sym (single_says input c (length (drop used out)) short placed fits ∙ ap (λ (us : List Trailer). trailer_step_says (Ok (first_step input c us))) e) in
    rw (onto-append used w (values_of ts) out here) (stepped {c = c} {used = used} {out = out} found next said behind-it)

-- ---- the counts

pub records_count : (input : List ℕ) (c : Cursor) → length (records_from input c) ≡ length (walk_from input c.at)
records_count input c = length_records input c 0 (walk_from input c.at)

values_sum : (ts : List Trailer) → length (values_of ts) ≡ sum (map (λ (t : Trailer). length (written_of (raw_value t))) ts)
unfolding values_of
values_sum [] = refl
values_sum (t ∷ ts) = length-append (written_of (raw_value t)) (values_of ts) ∙ ap (λ (n : ℕ). length (written_of (raw_value t)) + n) (values_sum ts)

pub bytes_count : (input : List ℕ) (c : Cursor)
    → length (values_from input c) ≡ sum (map (λ (t : Trailer). length (written_of (raw_value t))) (walk_from input c.at))
bytes_count input c = values_sum (walk_from input c.at)
