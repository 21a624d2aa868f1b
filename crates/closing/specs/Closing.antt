-- The closing note, its refusals and "may erase": document 02, K10. Of the trailers that the walk of a message finds, in either
-- reading.
use Rattle.std.specs.Prelude.{Bool, true, false, not, ◌&&◌, List, [], ◌∷◌, ◌++◌, map, ◌≡◌, ℕ, ◌≤◌, T, eqb, ltb, length}
use Rattle.rules.specs.Lists.{All, any, equal, filled, past}
use Rattle.rules.specs.Trailer.{Trailer, raw_value, same, those, token_of, unfolded}
use Rattle.closing.specs.Contents.{name_of, Decimal, state_word, most_records, Good, number_of, good}
use Rattle.closing.specs.declared.Fault.{Fault}
use Rattle.closing.specs.declared.Field.{Field}

-- "Names match without ASCII case, in any order, among other trailers."
abbrev pub has : Field → List ℕ → Bool
has f token = same (name_of f) token

-- "Values are judged unfolded"
abbrev pub content : Trailer → List ℕ
content t = unfolded (raw_value t)

-- "exactly one": one trailer alone has the field's name, and its content is `v`
abbrev pub other : Field → Trailer → Bool
other f t = not (has f (token_of t))

pub record One (f : Field) (ts : List Trailer) (v : List ℕ) : Type 0 where
  pub before : List Trailer
  pub the_trailer : Trailer
  pub after : List Trailer
  pub read : ts ≡ before ++ the_trailer ∷ after
  pub named : T (has f (token_of the_trailer))
  pub others_before : All (other f) before
  pub others_after : All (other f) after
  pub value : content the_trailer ≡ v

-- "An entry is a closing note if its trailers hold exactly one Vehicle of 1 to 6 digits, one Records, a decimal from 0 to 1,000,000
-- without needless zeros, and one Offload-state, `complete` or `partial` in those bytes."
pub record ClosingNote (ts : List Trailer) (vehicle : List ℕ) (records : ℕ) (complete : Bool) : Type 0 where
  pub one_vehicle : One Field.Vehicle ts vehicle
  pub good_vehicle : Good Field.Vehicle vehicle
  pub written : List ℕ
  pub one_records : One Field.Records ts written
  pub is_decimal : Decimal written records
  pub at_most : records ≤ most_records
  pub one_state : One Field.OffloadState ts (state_word complete)

-- ""May erase" is yes exactly when the state is complete and Records equals the count the caller received."
pub record MayErase (ts : List Trailer) (received : ℕ) : Type 0 where
  pub vehicle : List ℕ
  pub note : ClosingNote ts vehicle received true

-- ---- the refusals

-- the contents of all trailers with a field's name
abbrev pub contents : Field → List Trailer → List (List ℕ)
contents f ts = map content (those (has f) ts)

-- "9, one missing; 10, one repeated; 11, a bad content": of a field's contents there is none; there are two or more; one of them is
-- not good
abbrev pub Says : Fault → Field → List (List ℕ) → Type 0
Says Fault.Missing f cs = cs ≡ []
Says Fault.Repeated f cs = (v w : List ℕ) × (rest : List (List ℕ)) × (cs ≡ v ∷ w ∷ rest)
Says Fault.BadContent f cs = (before : List (List ℕ)) × (v : List ℕ) × (after : List (List ℕ)) × (cs ≡ before ++ v ∷ after) × (Good f v → ⊥)

-- a fault, and the field that has it
pub data Reason : Type 0 where
  reason : Fault → Field → Reason

abbrev pub Holds : List Trailer → Reason → Type 0
Holds ts (reason k f) = Says k f (contents f ts)

-- "lowest first, each naming the first such field in the order above": the nine reasons in the order in which they go
abbrev pub by_field : Fault → List Reason
by_field k = reason k Field.Vehicle ∷ reason k Field.Records ∷ reason k Field.OffloadState ∷ []

abbrev pub order : List Reason
order = by_field Fault.Missing ++ (by_field Fault.Repeated ++ by_field Fault.BadContent)

abbrev pub NoneHolds : List Trailer → List Reason → Type 0
NoneHolds ts [] = Unit {0}
NoneHolds ts (r ∷ rs) = (Holds ts r → ⊥) × NoneHolds ts rs

-- the first of them that holds
pub record Refused (ts : List Trailer) (k : Fault) (f : Field) : Type 0 where
  pub before : List Reason
  pub after : List Reason
  pub place : order ≡ before ++ reason k f ∷ after
  pub holds : Holds ts (reason k f)
  pub none_before : NoneHolds ts before

-- ---- the answer

pub data Answer : Type 0 where
  noted : List ℕ → ℕ → Bool → Answer
  refused : Fault → Field → Answer

pub data AnswerOf (ts : List Trailer) : Answer → Type 0 where
  notes : (vehicle : List ℕ) (records : ℕ) (whole : Bool) → ClosingNote ts vehicle records whole → AnswerOf ts (noted vehicle records whole)
  refuses : (k : Fault) (f : Field) → Refused ts k f → AnswerOf ts (refused k f)

-- ---- computed: `answer ts` is the answer, and no other is (proofs/Closing, exactly_one_answer)

abbrev pub says : Fault → Field → List (List ℕ) → Bool
says Fault.Missing f cs = not (filled cs)
says Fault.Repeated f cs = ltb 1 (length cs)
says Fault.BadContent f cs = any (λ v. not (good f v)) cs

-- the reason does not hold
abbrev pub clean : List Trailer → Reason → Bool
clean ts (reason k f) = not (says k f (contents f ts))

abbrev pub head : List (List ℕ) → List ℕ
head [] = []
head (v ∷ vs) = v

abbrev pub complete : List ℕ → Bool
complete v = equal v (state_word true)

abbrev pub note_of : List Trailer → Answer
note_of ts =
    noted (head (contents Field.Vehicle ts)) (number_of (head (contents Field.Records ts))) (complete (head (contents Field.OffloadState ts)))

abbrev pub first_or : Answer → List Reason → Answer
first_or a [] = a
first_or a (reason k f ∷ rs) = refused k f

unfoldable pub answer : List Trailer → Answer
answer ts = first_or (note_of ts) (past (clean ts) order)

-- yes, of an answer
abbrev pub erases : ℕ → Answer → Bool
erases received (noted vehicle records whole) = whole && eqb records received
erases received (refused k f) = false

unfoldable pub may_erase : List Trailer → ℕ → Bool
may_erase ts received = erases received (answer ts)
