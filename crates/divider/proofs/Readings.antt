-- "Every answer equals the old reading of the message so cut, shown once for all calls that read a whole message; refusal 1 still judges
-- the message uncut": whatever a call answers, or leaves in what it is lent. Assumes nothing.
use Rattle.std.specs.Prelude.{if◌then◌else◌}
use mathlib.Core.Bool.{Bool, true, false}
use mathlib.Core.List.{List, [], ◌∷◌}
use mathlib.Core.Path.{◌≡◌, refl, sym, ap, ◌∙◌}
use Prim.Native.Nat.{ℕ, ◌≤◌}
use native.Mathlib.Omega.{arith}
use borrow.Author.Tests.{le-ltb, ltb-false}
use lib.ListN.{length, take}
use lib.Seq.{length-take-le, take_all}
use Rattle.rules.specs.Answers.{limit, over, over_limit}
use Rattle.rules.proofs.Answers.{Decides, said_decides}
use Rattle.divider.specs.Divider.{Cut, cut}
use Rattle.divider.specs.Readings.{in_either, end_found_says, read}
use Rattle.divider.specs.declared.Reading.{Reading}
use Rattle.divider.proofs.Cut.{cut_only, cut_taken, cut_within}

-- a message so read is within the limit where the uncut one is
pub read_within : (reading : Reading) (message : List ℕ) → length (read reading message) ≤ length message
read_within Reading.Whole message = omega arith
read_within Reading.AboveDivider message = cut_within message

pub read_short : (reading : Reading) (message : List ℕ) → over_limit message ≡ false → over_limit (read reading message) ≡ false
read_short reading message e = le-ltb limit (length (read reading message)) (omega (arith, read_within reading message, ltb-false limit (length message) e))

-- it is the message up to its end
pub read_taken : (reading : Reading) (message : List ℕ) → take (length (read reading message)) message ≡ read reading message
read_taken Reading.Whole message = take_all (length message) message (omega arith)
read_taken Reading.AboveDivider message = cut_taken message

-- so `&message[..end]` is the message as it is read, `end` bytes long
pub handed_on : (reading : Reading) (message : List ℕ) {end : ℕ} → end ≡ length (read reading message)
    → (take end message ≡ read reading message) × (end ≡ length (take end message))
handed_on reading message {end} e =
    (rw e (read_taken reading message), sym (length-take-le end message (rw e (read_within reading message))))

-- and what a call answers of it, behind refusal 1, is the answer in that reading
pub answered_in : {A : Type 0} (refusal : A) (rule : List ℕ → A) (reading : Reading) (message : List ℕ) {end : ℕ} → end ≡ length (read reading message)
    → length message ≤ limit → rule (take end message) ≡ in_either refusal reading rule message
answered_in refusal rule reading message e short = rw (le-ltb limit (length message) short) (ap rule (handed_on reading message e).0)

module _ {A : Type 0} (refusal : A) (rule : List ℕ → A) (message : List ℕ) where
  -- refusal 1 judges the message uncut, in both readings
  pub limit_uncut : (reading : Reading) → over_limit message ≡ true → in_either refusal reading rule message ≡ refusal
  limit_uncut reading e = rw e

  -- in the second reading the answer is the first reading's of the cut message
  pub second_is_first : over_limit message ≡ false → in_either refusal Reading.AboveDivider rule message ≡ in_either refusal Reading.Whole rule (cut message)
  second_is_first e = rw (e, read_short Reading.AboveDivider message e)

  -- that is what the rule gives of it
  pub second_of_cut : over_limit message ≡ false → in_either refusal Reading.AboveDivider rule message ≡ rule (cut message)
  second_of_cut e = rw e

  -- the first reading is what it was, for every call that refuses 1 itself
  pub first_untouched : (over_limit message ≡ true → rule message ≡ refusal) → in_either refusal Reading.Whole rule message ≡ rule message
  first_untouched refuses = by (over_limit message) refl
    where
      by : (b : Bool) → over_limit message ≡ b → (if b then refusal else rule message) ≡ rule message
      by true e = sym (refuses e)
      by false e = refl

-- nothing of the patch is read: below the divider two messages may differ
pub patch_unread : {A : Type 0} (refusal : A) (rule : List ℕ → A) {one two kept : List ℕ} → Cut one kept → Cut two kept
    → over_limit one ≡ false → over_limit two ≡ false
    → in_either refusal Reading.AboveDivider rule one ≡ in_either refusal Reading.AboveDivider rule two
patch_unread refusal rule {one} {two} c d e f =
    second_of_cut refusal rule one e ∙ ap rule (sym (cut_only c) ∙ cut_only d) ∙ sym (second_of_cut refusal rule two f)

-- ---- an answer of `message_end` is told by its number and its values

abbrev end_of : List ℕ → ℕ
end_of [] = 0
end_of (end ∷ rest) = end

pub end_decides : Decides end_found_says
end_decides = said_decides (λ end. end ∷ []) over end_of (λ n values. record {}) (λ end. refl) (λ e. refl)
