-- What the parts of a summary answer, in the numbers and values that its statement gives. Assumes nothing.
use Rattle.std.specs.Prelude.{Result, Ok, Err, if◌then◌else◌}
use mathlib.Core.Bool.{Bool, true, false}
use mathlib.Core.List.{List, [], ◌∷◌}
use mathlib.Core.Path.{◌≡◌, refl, ◌∙◌}
use Prim.Native.Nat.{ℕ, ◌+◌}
use native.Mathlib.Omega.{arith}
use borrow.Author.Tests.{le-ltb}
use lib.Dec.{ltb}
use lib.ListN.{length}
use Rattle.rules.proofs.Answers.{fitted_is}
use Rattle.rules.specs.Answers.{says, judged, limit, no_room, value_found_says}
use Rattle.rules.specs.Record.{fitted, part, written_found}
use Rattle.rules.specs.Summary.{many, pieces, spaced, summary, summary_is_written}
use Rattle.rules.specs.White.{trim, trim_at}
use Rattle.rules.specs.declared.Refusal.{Refusal}
use Rattle.rules.specs.declared.Value.{Value}
use Rattle.message.specs.Message.{summary_answer, summary_buffer}

-- what is said of a text that is written where there is room
written_said : (text : List ℕ) (room : ℕ)
    → value_found_says (written_found text room) ≡ judged (no_room (length text) room ∷ []) (says 0 (1 ∷ 0 ∷ length text ∷ []))
written_said text room = by (ltb room (length text))
  where
    by : (b : Bool)
        → value_found_says (if b then Err (Refusal.NoRoom (length text)) else Ok (Value.InBuffer (part 0 (length text))))
        ≡ (if b then says 3 (length text ∷ []) else says 0 (1 ∷ 0 ∷ length text ∷ []))
    by true = refl
    by false = refl

-- behind refusal 1: `kept` is the title without the white space at its ends
module _ (title : List ℕ) (short : ltb limit (length title) ≡ false) {kept : List ℕ} (e : kept ≡ trim title) where
  -- with an LF left in it, it is folded and written
  pub summary_folded : many (pieces kept) ≡ true → (room : ℕ)
      → value_found_says (written_found (spaced (pieces kept)) room) ≡ summary_answer title room
  unfolding summary summary_is_written
  summary_folded q room = written_said (spaced (pieces kept)) room ∙ rw (short, ← e, q)

  pub summary_left : many (pieces kept) ≡ true → (out : List ℕ) → fitted (spaced (pieces kept)) out ≡ summary_buffer title out
  unfolding summary summary_is_written
  summary_left q out = fitted_is (spaced (pieces kept)) out (1 ∷ 0 ∷ length (spaced (pieces kept)) ∷ []) ∙ rw (short, ← e, q)

  -- with none, it is a part of the title, and nothing is written
  pub summary-part : many (pieces kept) ≡ false → (room : ℕ)
      → value_found_says (Ok (Value.InInput (part (trim_at title) (trim_at title + length (trim title))))) ≡ summary_answer title room
  unfolding summary_is_written
  summary-part q room = rw (short, ← e, q, le-ltb room 0 (omega arith))

  pub summary_keeps : many (pieces kept) ≡ false → (out : List ℕ) → out ≡ summary_buffer title out
  unfolding summary_is_written
  summary_keeps q out = rw (short, ← e, q, le-ltb (length out) 0 (omega arith))
