-- The trailers of an entry have exactly one answer (exactly_one_answer). It is a note exactly where no reason to refuse holds
-- (note_exactly, note_faultless), and may erase is yes exactly for a note that is complete and of the count received (yes_exactly).
-- Assumes nothing.
use mathlib.Core.Bool.{Bool, true, false, not, ◌||◌}
use mathlib.Core.List.{List, [], ◌∷◌, ◌++◌, append-nil}
use mathlib.Core.Logic.{inl, inr}
use mathlib.Core.Path.{◌≡◌, refl, sym, ap, ◌∙◌}
use Prim.Native.Nat.{ℕ}
use native.Mathlib.Omega.{arith}
use lib.Dec.{T, T_not, not_T, eqb→eq, eqb_refl, lt→ltb, nltb→le}
use lib.ListN.{length}
use Rattle.rules.specs.Lists.{All, Stops, any, past, run}
use Rattle.rules.specs.Trailer.{Trailer}
use Rattle.rules.proofs.Lists.{or_cases, or_left, or_right, is_true, run_unique, run_past, run_all, past_stops, not_not}
use Rattle.closing.specs.Contents.{state_word, Good, number_of, good}
use Rattle.closing.specs.Closing.{contents, ClosingNote, MayErase, Says, Reason, reason, Holds, order, NoneHolds}
use Rattle.closing.specs.Closing.{Answer, noted, AnswerOf, notes, refuses, says, clean, head, complete, note_of, first_or, answer, erases, may_erase}
use Rattle.closing.specs.declared.Fault.{Fault}
use Rattle.closing.specs.declared.Field.{Field}
use Rattle.closing.proofs.Contents.{decimal_only, good_is, is_good}
use Rattle.closing.proofs.Exactly.{one_trailer, trailer_one}

-- ---- the tests say what the refusals say

bad_is : (f : Field) (cs : List (List ℕ)) → T (any (λ v. not (good f v)) cs) → Says Fault.BadContent f cs
bad_is f [] t = absurd t
bad_is f (v ∷ cs) t =
    elim (or_cases (not (good f v)) (any (λ v. not (good f v)) cs) t) [
      | inl n ↦ ([], v, cs, refl, λ g. T_not (good f v) n (is_good f v g))
      | inr m ↦ let (before, w, after, e, n) = bad_is f cs m in (v ∷ before, w, after, ap (λ (r : List (List ℕ)). v ∷ r) e, n)
    ]

is_bad : (f : Field) (before : List (List ℕ)) (v : List ℕ) (after : List (List ℕ)) → (Good f v → ⊥) →
    T (any (λ v. not (good f v)) (before ++ v ∷ after))
is_bad f [] v after n = or_left (not (good f v)) (any (λ v. not (good f v)) after) (not_T (good f v) (λ t. n (good_is f v t)))
is_bad f (w ∷ before) v after n = or_right (not (good f w)) (any (λ v. not (good f v)) (before ++ v ∷ after)) (is_bad f before v after n)

pub says_is : (k : Fault) (f : Field) (cs : List (List ℕ)) → T (says k f cs) → Says k f cs
says_is Fault.Missing f [] t = refl
says_is Fault.Missing f (v ∷ cs) t = absurd t
says_is Fault.Repeated f [] t = absurd t
says_is Fault.Repeated f (v ∷ []) t = absurd t
says_is Fault.Repeated f (v ∷ w ∷ cs) t = (v, w, cs, refl)
says_is Fault.BadContent f cs t = bad_is f cs t

pub is_says : (k : Fault) (f : Field) (cs : List (List ℕ)) → Says k f cs → T (says k f cs)
is_says Fault.Missing f cs e = rw e tt
is_says Fault.Repeated f cs (v, w, rest, e) = rw e (lt→ltb 1 (length (v ∷ w ∷ rest)) (omega arith))
is_says Fault.BadContent f cs (before, v, after, e, n) = rw e (is_bad f before v after n)

clean_not : (ts : List Trailer) (r : Reason) → T (clean ts r) → Holds ts r → ⊥
clean_not ts (reason k f) c h = T_not (says k f (contents f ts)) c (is_says k f (contents f ts) h)

not_clean : (ts : List Trailer) (r : Reason) → (Holds ts r → ⊥) → T (clean ts r)
not_clean ts (reason k f) n = not_T (says k f (contents f ts)) (λ t. n (says_is k f (contents f ts) t))

clean_none : (ts : List Trailer) (rs : List Reason) → All (clean ts) rs → NoneHolds ts rs
clean_none ts [] a = tt
clean_none ts (r ∷ rs) a = (clean_not ts r a.0, clean_none ts rs a.1)

none_clean : (ts : List Trailer) (rs : List Reason) → NoneHolds ts rs → All (clean ts) rs
none_clean ts [] n = tt
none_clean ts (r ∷ rs) n = (not_clean ts r n.0, none_clean ts rs n.1)

-- ---- where no reason holds, a field has one content, and it is good

sole : (f : Field) (cs : List (List ℕ)) → T (not (says Fault.Missing f cs)) → T (not (says Fault.Repeated f cs)) → T (not (says Fault.BadContent f cs)) →
    (cs ≡ head cs ∷ []) × T (good f (head cs))
sole f [] m r b = absurd m
sole f (v ∷ w ∷ cs) m r b = absurd (omega (arith, nltb→le 1 (length (v ∷ w ∷ cs)) r))
sole f (v ∷ []) m r b = (refl, at (good f v) b)
  where
    at : (t : Bool) → T (not (not t || false)) → T t
    at true b = tt
    at false b = absurd b

state_word_lem : (v : List ℕ) → Good Field.OffloadState v → v ≡ state_word (complete v)
state_word_lem v (true, e) = rw e
state_word_lem v (false, e) = rw e

note_of_lem : (ts : List Trailer) → All (clean ts) order →
    ClosingNote ts (head (contents Field.Vehicle ts)) (number_of (head (contents Field.Records ts))) (complete (head (contents Field.OffloadState ts)))
note_of_lem ts a =
    let (v, x) = sole Field.Vehicle (contents Field.Vehicle ts) a.0 a.1.1.1.0 a.1.1.1.1.1.1.0 in
    let (r, y) = sole Field.Records (contents Field.Records ts) a.1.0 a.1.1.1.1.0 a.1.1.1.1.1.1.1.0 in
    let (s, z) = sole Field.OffloadState (contents Field.OffloadState ts) a.1.1.0 a.1.1.1.1.1.0 a.1.1.1.1.1.1.1.1.0 in
    let (n, k, l) = good_is Field.Records (head (contents Field.Records ts)) y in
    let q : number_of (head (contents Field.Records ts)) ≡ n = (decimal_only k).1 in
    record {
      one_vehicle = one_trailer Field.Vehicle ts (head (contents Field.Vehicle ts)) v;
      good_vehicle = good_is Field.Vehicle (head (contents Field.Vehicle ts)) x;
      written = head (contents Field.Records ts);
      one_records = one_trailer Field.Records ts (head (contents Field.Records ts)) r;
      is_decimal = rw q k;
      at_most = rw q l;
      one_state = one_trailer Field.OffloadState ts (state_word (complete (head (contents Field.OffloadState ts))))
          (s ∙ ap (λ (w : List ℕ). w ∷ []) (state_word_lem (head (contents Field.OffloadState ts)) (good_is Field.OffloadState (head (contents Field.OffloadState ts)) z)));
    }

-- ---- for a closing note no reason holds

good-clean : (k : Fault) (f : Field) (cs : List (List ℕ)) (v : List ℕ) → cs ≡ v ∷ [] → Good f v → T (not (says k f cs))
good-clean Fault.Missing f cs v e g = rw e tt
good-clean Fault.Repeated f cs v e g = rw e tt
good-clean Fault.BadContent f cs v e g = rw (e, is_true (good f v) (is_good f v g)) tt

note_clean : (ts : List Trailer) (v : List ℕ) (n : ℕ) (b : Bool) → ClosingNote ts v n b → All (clean ts) order
note_clean ts v n b c =
    let vehicle : (k : Fault) → T (clean ts (reason k Field.Vehicle)) =
    λ k. good-clean k Field.Vehicle (contents Field.Vehicle ts) v (trailer_one Field.Vehicle ts v c.one_vehicle) c.good_vehicle in
    let records : (k : Fault) → T (clean ts (reason k Field.Records)) =
    λ k. good-clean k Field.Records (contents Field.Records ts) c.written (trailer_one Field.Records ts c.written c.one_records) (n, c.is_decimal, c.at_most) in
    let state : (k : Fault) → T (clean ts (reason k Field.OffloadState)) =
    λ k. good-clean k Field.OffloadState (contents Field.OffloadState ts) (state_word b) (trailer_one Field.OffloadState ts (state_word b) c.one_state) (b, refl) in (
      vehicle Fault.Missing,
      (
        records Fault.Missing,
        (
          state Fault.Missing,
          (
            vehicle Fault.Repeated,
            (
              records Fault.Repeated,
              (
                state Fault.Repeated,
                (vehicle Fault.BadContent, (records Fault.BadContent, (state Fault.BadContent, tt))),
              ),
            ),
          ),
        ),
      ),
    )

complete_word : (b : Bool) → complete (state_word b) ≡ b
complete_word true = refl
complete_word false = refl

note_is : (ts : List Trailer) (v : List ℕ) (n : ℕ) (b : Bool) → ClosingNote ts v n b → note_of ts ≡ noted v n b
note_is ts v n b c =
    rw (
      trailer_one Field.Vehicle ts v c.one_vehicle,
      trailer_one Field.Records ts c.written c.one_records,
      trailer_one Field.OffloadState ts (state_word b) c.one_state,
      (decimal_only c.is_decimal).1,
      complete_word b,
    )

-- ---- exactly one answer

not_not_is : (b : Bool) → T (not (not b)) → T b
not_not_is true t = tt
not_not_is false t = absurd t

all_past : (p : Reason → Bool) (rs : List Reason) → All p rs → past p rs ≡ []
all_past p [] a = refl
all_past p (r ∷ rs) a = rw (is_true (p r) a.0) (all_past p rs a.1)

pub answer_of : (ts : List Trailer) → AnswerOf ts (answer ts)
unfolding answer
answer_of ts = at (past (clean ts) order) (run_past (clean ts) order) (past_stops (clean ts) order)
  where
    at : (rs : List Reason) → run (clean ts) order ++ rs ≡ order → Stops (clean ts) rs → AnswerOf ts (first_or (note_of ts) rs)
    at [] e s = notes (head (contents Field.Vehicle ts)) (number_of (head (contents Field.Records ts))) (complete (head (contents Field.OffloadState ts))) (note_of_lem ts (rw (sym (append-nil (run (clean ts) order)) ∙ e) at (run_all (clean ts) order)))
    at (reason k f ∷ rs) e s = refuses k f (record {
      before = run (clean ts) order;
      after = rs;
      place = sym e;
      holds = says_is k f (contents f ts) (not_not_is (says k f (contents f ts)) s);
      none_before = clean_none ts (run (clean ts) order) (run_all (clean ts) order);
    })

pub answer_only : {ts : List Trailer} {a : Answer} → AnswerOf ts a → a ≡ answer ts
unfolding answer
answer_only {ts} (notes v n b c) = sym (ap (first_or (note_of ts)) (all_past (clean ts) order (note_clean ts v n b c)) ∙ note_is ts v n b c)
answer_only {ts} (refuses k f r) =
    let s : Stops (clean ts) (reason k f ∷ r.after) = not_not (says k f (contents f ts)) (is_says k f (contents f ts) r.holds) in
    let p : past (clean ts) order ≡ reason k f ∷ r.after =
    (run_unique (clean ts) (run (clean ts) order) (past (clean ts) order) r.before (reason k f ∷ r.after)
    (run_all (clean ts) order) (past_stops (clean ts) order) (none_clean ts r.before r.none_before) s (run_past (clean ts) order ∙ r.place)).1 in
    sym (ap (first_or (note_of ts)) p)

pub exactly_one_answer : (ts : List Trailer) → (a : Answer) × AnswerOf ts a × ((b : Answer) → AnswerOf ts b → b ≡ a)
exactly_one_answer ts = (answer ts, answer_of ts, λ b r. answer_only r)

-- ---- it is a note exactly where no reason holds

-- a closing note has none of the faults
pub note_faultless : (ts : List Trailer) (v : List ℕ) (n : ℕ) (b : Bool) → ClosingNote ts v n b → NoneHolds ts order
note_faultless ts v n b c = clean_none ts order (note_clean ts v n b c)

-- and trailers without them are one, with the content that there is
pub note_exactly : (ts : List Trailer) → NoneHolds ts order → (v : List ℕ) × (n : ℕ) × (b : Bool) × ClosingNote ts v n b
note_exactly ts h = (
  head (contents Field.Vehicle ts),
  number_of (head (contents Field.Records ts)),
  complete (head (contents Field.OffloadState ts)),
  note_of_lem ts (none_clean ts order h),
)

-- ---- may erase

erases_of : (ts : List Trailer) (received : ℕ) {a : Answer} → AnswerOf ts a → T (erases received a) → MayErase ts received
erases_of ts received (notes v n true c) t = let e : n ≡ received = eqb→eq n received t in record { vehicle = v; note = rw (← e) c }
erases_of ts received (notes v n false c) t = absurd t
erases_of ts received (refuses k f r) t = absurd t

-- ""May erase" is yes exactly when" there is one trailer of each name, the vehicle has 1 to 6 digits, the state's word is `complete`,
-- and Records is the decimal of the count received
pub yes_exactly : (ts : List Trailer) (received : ℕ) → (T (may_erase ts received) → MayErase ts received) × (MayErase ts received → T (may_erase ts received))
unfolding may_erase
yes_exactly ts received = (
  λ t. erases_of ts received (answer_of ts) t,
  λ m. rw (← answer_only (notes m.vehicle received true m.note)) (eqb_refl received),
)
