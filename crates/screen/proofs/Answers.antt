-- The rows of `listing_into`, one after another: what each answer rests on, and what it leaves in the buffer. An answer is known by its
-- number and its values, so a statement `says r ≡ ..` decides it (listing_written_decides). Where the answer is no refusal, the
-- listing stands at the buffer's front (written_front). Assumes nothing.
use Rattle.std.specs.Prelude.{Result, Ok, Err}
use mathlib.Core.Bool.{Bool, true, false}
use mathlib.Core.List.{List, [], ◌∷◌, ◌++◌}
use mathlib.Core.Path.{◌≡◌, refl, sym, ap, ◌∙◌}
use Prim.Native.Nat.{ℕ, ◌≤◌, ◌<◌}
use native.Mathlib.Omega.{arith}
use borrow.Author.Tests.{le-ltb, lt-ltb, ltb-false}
use lib.Dec.{ltb}
use lib.ListN.{length, drop}
use Rattle.rules.proofs.Answers.{Decides, answer_decides}
use Rattle.rules.specs.Answers.{Said, says, number, afterwards, limit, refused, walk_found_says}
use Rattle.rules.specs.declared.Cursor.{Cursor}
use Rattle.rules.specs.declared.Refusal.{Refusal}
use Rattle.message.specs.Message.{walk_answer}
use Rattle.screen.specs.Answers.{length_values, listing_answer, listing_buffer, written_says}
use Rattle.screen.specs.Listing.{listing}

-- where the walk's start is refused, the message is over the limit, and only then
refused-number : (r : Refusal) → number (refused r) ≡ 0 → ⊥
refused-number Refusal.TooLong e = omega arith
refused-number Refusal.BadPlace e = omega arith
refused-number (Refusal.NoRoom n) e = omega arith

pub over_limit : (m : List ℕ) (r : Refusal) → walk_found_says (Err r) ≡ walk_answer m → (ltb limit (length m) ≡ true) × (refused r ≡ says 1 [])
over_limit m r e = by (ltb limit (length m)) refl
  where
    by : (b : Bool) → ltb limit (length m) ≡ b → (ltb limit (length m) ≡ true) × (refused r ≡ says 1 [])
    by true q = (q, rw q at e)
    by false q = absurd (refused-number r (ap number (rw q at e)))

pub within_limit : (m : List ℕ) (c : Cursor) → walk_found_says (Ok c) ≡ walk_answer m → length m ≤ limit
within_limit m c e = by (ltb limit (length m)) refl
  where
    by : (b : Bool) → ltb limit (length m) ≡ b → length m ≤ limit
    by true q = absurd (let z : ◌≡◌ {A = ℕ} 0 1 = ap number (rw q at e) in omega arith)
    by false q = ltb-false limit (length m) q

module _ (message d : List ℕ) where
  -- the answer, and the buffer that goes with it
  abbrev pub Answered : Said → List ℕ → Type 0
  Answered said out = (said ≡ listing_answer message (length d)) × (out ≡ listing_buffer message d)

  answered : (said : Said) → listing_answer message (length d) ≡ said → Answered said (afterwards said (listing message) d)
  answered said e = (sym e, ap (λ w. afterwards w (listing message) d) (sym e))

  pub long_message : ltb limit (length message) ≡ true → Answered (says 1 []) d
  long_message h = answered (says 1 []) (rw h)

  module _ (h : length message ≤ limit) {n : ℕ} (e : n ≡ length (listing message)) where
    pub no_room : length d < n → Answered (says 3 (n ∷ [])) d
    no_room r = answered (says 3 (n ∷ [])) (rw (le-ltb limit (length message) h, ← e, lt-ltb (length d) n r))

    pub room : n ≤ length d → Answered (says 0 (n ∷ [])) (afterwards (says 0 []) (listing message) d)
    room r = answered (says 0 (n ∷ [])) (rw (le-ltb limit (length message) h, ← e, le-ltb (length d) n r))

-- ---- the answer is known by what is said of it

abbrev written : List ℕ → ℕ
written [] = 0
written (n ∷ rest) = n

pub listing_written_decides : Decides written_says
listing_written_decides = answer_decides length_values written (λ n. refl)

-- ---- where there is room

module _ (message d : List ℕ) (h : length message ≤ limit) (l : length (listing message) ≤ length d) where
  -- the answer is the listing's length, and the listing stands at the buffer's front
  pub is_written : (r : Result ℕ Refusal) → written_says r ≡ listing_answer message (length d) → r ≡ Ok (length (listing message))
  is_written r e = listing_written_decides (says 0 (length (listing message) ∷ [])) r (Ok (length (listing message))) (e ∙ sym (room message d h refl l).0) refl

  pub written_front : (o : List ℕ) → o ≡ listing_buffer message d → o ≡ listing message ++ drop (length (listing message)) d
  written_front o e = e ∙ sym (room message d h refl l).1
