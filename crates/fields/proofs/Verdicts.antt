-- The reasons for a refusal, one after the other, as the code goes through them: the first that holds is the answer's, and where none
-- does, the answer is the note. Assumes nothing.
use Rattle.std.specs.Prelude.{Some, Result, Err}
use mathlib.Core.Bool.{true, false}
use mathlib.Core.List.{List, [], ◌∷◌, ◌++◌}
use mathlib.Core.Path.{◌≡◌, refl, sym, ap, ◌∙◌}
use Prim.Native.Nat.{ℕ, ◌≤◌}
use lib.ListN.{length}
use Rattle.rules.specs.Answers.{says, flag}
use Rattle.rules.specs.Lists.{all, past}
use Rattle.rules.specs.Trailer.{Trailer, walk_from}
use Rattle.rules.specs.declared.Part.{Part}
use Rattle.closing.specs.Answers.{note_found_says, note_said}
use Rattle.closing.specs.Closing.{contents, Reason, reason, by_field, order, says as holds, clean, head, complete, refused, note_of, first_or, answer}
use Rattle.closing.specs.Contents.{digit, number_of}
use Rattle.closing.specs.declared.Fault.{Fault}
use Rattle.closing.specs.declared.Field.{Field}
use Rattle.closing.specs.declared.Note.{Note}
use Rattle.closing.specs.declared.NoteError.{NoteError}
use Rattle.closing.proofs.Contents.{few_digits}
use Rattle.fields.specs.Note.{IsContent}
use Rattle.fields.specs.Sole.{part_in}
use Rattle.fields.specs.Tally.{tally_of}
use Rattle.fields.specs.declared.tally.Found.{Found}
use Rattle.fields.proofs.Seen.{Once, present, not_repeated, not_bad, is_good, shown, place, end_place}

-- no reason but these is left
pub record Left (ts : List Trailer) (rs : List Reason) : Type 0 where
  pub answers : answer ts ≡ first_or (note_of ts) (past (clean ts) rs)

pub all_left : (ts : List Trailer) → Left ts order
unfolding answer
all_left ts = record { answers = refl }

module _ {ts : List Trailer} {k : Fault} {f : Field} {rs : List Reason} (l : Left ts (reason k f ∷ rs)) where
  -- the first of them does not hold
  pub passed : holds k f (contents f ts) ≡ false → Left ts rs
  passed e = record { answers = l.answers ∙ rw e }

  -- it does
  pub stopped : holds k f (contents f ts) ≡ true → (r : Result Note NoteError) → r ≡ Err (NoteError.Refused k f) → note_found_says r ≡ note_said ts (answer ts)
  stopped e r q =
      let a : answer ts ≡ refused k f = l.answers ∙ rw e in
      rw (q, a)

-- ---- none is missing; none is repeated; none is bad

pub none_missing : (ts : List Trailer) {a b c : Found} → Some a ≡ tally_of Field.Vehicle ts → Some b ≡ tally_of Field.Records ts → Some c ≡ tally_of Field.OffloadState ts
    → Left ts (by_field Fault.Repeated ++ by_field Fault.BadContent)
none_missing ts v r s =
    passed (passed (passed (all_left ts) (present Field.Vehicle ts v)) (present Field.Records ts r)) (present Field.OffloadState ts s)

module _ {m : List ℕ} {at : ℕ} {a b c : Part} (v : Once Field.Vehicle m at a) (r : Once Field.Records m at b) (s : Once Field.OffloadState m at c) where
  pub none_repeated : Left (walk_from m at) (by_field Fault.BadContent)
  none_repeated =
      passed (passed (passed (none_missing (walk_from m at) v.found r.found s.found) (not_repeated v)) (not_repeated r)) (not_repeated s)

  module _ {p q w : Part} (x : IsContent Field.Vehicle m a p) (y : IsContent Field.Records m b q) (z : IsContent Field.OffloadState m c w) where
    none_bad : Left (walk_from m at) []
    none_bad = passed (passed (passed none_repeated (not_bad v x)) (not_bad r y)) (not_bad s z)

    -- so it is a note
    pub noted_is : says 0 (p.start ∷ p.end ∷ number_of (part_in m q) ∷ flag (complete (part_in m w)) ∷ []) ≡ note_said (walk_from m at) (answer (walk_from m at))
    noted_is =
        same_note (place v x) (end_place v x) (shown r y) (shown s z)
        ∙ sym (ap (note_said (walk_from m at)) none_bad.answers)
      where
        same_note : {a b c d : ℕ} {p q k w : List ℕ} → a ≡ b → c ≡ d → p ≡ q → k ≡ w →
            says 0 (a ∷ c ∷ number_of p ∷ flag (complete k) ∷ []) ≡ says 0 (b ∷ d ∷ number_of q ∷ flag (complete w) ∷ [])
        same_note e f g h = rw (e, f, g, h)

-- a good count is read as a number
pub count_read : {m : List ℕ} {at : ℕ} {raw p : Part} → Once Field.Records m at raw → IsContent Field.Records m raw p
    → (length (part_in m p) ≤ 7) × (all digit (part_in m p) ≡ true)
count_read {m} {at} r y = rw (shown r y) (few_digits (head (contents Field.Records (walk_from m at))) (rw (is_good r y) tt))
