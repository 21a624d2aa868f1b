-- What `read_trailer` answers of a trailer that stands in the body, as a call says it. Assumes nothing.
use Rattle.std.specs.Prelude.{Result, Ok, Err, if◌then◌else◌}
use mathlib.Core.Bool.{Bool, true, false}
use mathlib.Core.List.{List, [], ◌∷◌}
use mathlib.Core.Path.{◌≡◌, refl, ap, ◌∙◌}
use Prim.Native.Nat.{ℕ, ◌-◌}
use lib.Dec.{ltb}
use lib.ListN.{length, take, drop}
use Rattle.rules.proofs.Answers.{fitted_is}
use Rattle.rules.proofs.Record.{raw_is}
use Rattle.rules.proofs.Walk.{Stands}
use Rattle.rules.specs.Answers.{Said, says, afterwards, judged, no_room, refused}
use Rattle.rules.specs.Lines.{ending}
use Rattle.rules.specs.Record.{fitted, part, places_of, record_at, record_of, value_of, written_of}
use Rattle.rules.specs.Trailer.{Trailer, raw_value}
use Rattle.rules.specs.declared.Ending.{Ending}
use Rattle.rules.specs.declared.Places.{Places}
use Rattle.rules.specs.declared.Refusal.{Refusal}
use Rattle.rules.specs.declared.TrailerRef.{TrailerRef}
use Rattle.value.specs.Value.{value_found}
use Rattle.record.specs.Read.{read_of, trailer_read}
use Rattle.rules.specs.declared.Value.{Value}

-- ---- from the value to the record

abbrev pub with_value : ℕ → Places → Ending → Result Value Refusal → Result TrailerRef Refusal
with_value line at how (Ok v) =
    Ok (record { token = part at.start at.token_end; value = v; ending = how; line = line })
with_value line at how (Err r) = Err r

pub with_value_lem : (line : ℕ) (at : Places) (raw : List ℕ) (room : ℕ)
    → with_value line at (ending raw) (value_found at.value_start raw room) ≡ trailer_read line at raw room
with_value_lem line at raw room = by (ltb room (length (written_of raw)))
  where
    by : (b : Bool)
        → with_value line at (ending raw) (if b then Err (Refusal.NoRoom (length (written_of raw))) else Ok (value_of at.value_start raw))
        ≡ (if b then Err (Refusal.NoRoom (length (written_of raw))) else Ok (record_at line at raw (ending raw)))
    by true = refl
    by false = refl

-- ---- what is said of a record that was read

abbrev pub said_of : (TrailerRef → Said) → Result TrailerRef Refusal → Said
said_of said (Ok r) = said r
said_of said (Err r) = refused r

read_said : (said : TrailerRef → Said) (line : ℕ) (t : Trailer) (room : ℕ)
    → said_of said (read_of line t room) ≡ judged (no_room (length (written_of (raw_value t))) room ∷ []) (said (record_of line t))
read_said said line t room = by (ltb room (length (written_of (raw_value t))))
  where
    by : (b : Bool)
        → said_of said (if b then Err (Refusal.NoRoom (length (written_of (raw_value t)))) else Ok (record_of line t))
        ≡ (if b then says 3 (length (written_of (raw_value t)) ∷ []) else said (record_of line t))
    by true = refl
    by false = refl

-- of a trailer that stands in the body at the places `at`: its record behind refusal 3, and what is left in the buffer
module _ {body : List ℕ} {t : Trailer} {at : Places} (w : Stands body t) (e : at ≡ places_of t) where
  pub read_answer : (said : TrailerRef → Said) {r : Result TrailerRef Refusal} (line room : ℕ)
      → r ≡ trailer_read line at (take (at.end - at.value_start) (drop at.value_start body)) room
      → said_of said r ≡ judged (no_room (length (written_of (raw_value t))) room ∷ []) (said (record_of line t))
  read_answer said line room q =
      let read : trailer_read line at (take (at.end - at.value_start) (drop at.value_start body)) room ≡ read_of line t room =
      rw (raw_is w e, e, w.ending_is) in
      ap (said_of said) (q ∙ read) ∙ read_said said line t room

  pub read_left : (out : List ℕ) {left : List ℕ} (values : List ℕ)
      → left ≡ fitted (written_of (take (at.end - at.value_start) (drop at.value_start body))) out
      → left ≡ afterwards (judged (no_room (length (written_of (raw_value t))) (length out) ∷ []) (says 0 values)) (written_of (raw_value t)) out
  read_left out values q =
      q ∙ ap (λ (raw : List ℕ). fitted (written_of raw) out) (raw_is w e) ∙ fitted_is (written_of (raw_value t)) out values
