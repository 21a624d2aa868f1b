-- The rows of `write_bundle` that speak of the bundle: what each answer rests on, and what it leaves in the buffer. An answer is known by
-- its number and its values, so a statement `says r ≡ ..` decides it. Assumes nothing.
use Rattle.std.specs.Prelude.{Err}
use mathlib.Core.Bool.{true, false}
use mathlib.Core.List.{List, [], ◌∷◌, ◌++◌}
use mathlib.Core.Path.{◌≡◌, refl, sym, ap, ◌∙◌}
use Prim.Native.Nat.{ℕ, zero, suc, ◌+◌, ◌≤◌, ◌<◌}
use borrow.Author.Tests.{le-leb, le-ltb, lt-leb, lt-ltb}
use lib.Dec.{leb}
use lib.ListN.{length, drop}
use Rattle.rules.proofs.Answers.{Decides, reread, said_decides}
use Rattle.rules.specs.Answers.{Said, says, afterwards, limit}
use Rattle.rules.specs.Lists.{join}
use Rattle.bundle.proofs.Bundle.{length_bundle}
use Rattle.bundle.specs.Bundle.{bundle_of, header_length, most}
use Rattle.bundling.proofs.Writing.{Given}
use Rattle.bundling.specs.Answers.{bundling_refused, length_values, write_answer, write_buffer, written_says}
use Rattle.bundling.specs.Writing.{lent}
use Rattle.bundling.specs.declared.BundlingError.{BundlingError}

module _ {input ranges : List ℕ} {ms : List (List ℕ)} (d : List ℕ) (g : Given input ranges ms) where
  -- the answer, and the buffer that goes with it
  abbrev pub Answered : Said → List ℕ → Type 0
  Answered said out = (said ≡ write_answer input ranges (length d)) × (out ≡ write_buffer input ranges d)

  answered : (said : Said) → write_answer input ranges (length d) ≡ said → Answered said (afterwards said (bundle_of (lent input ranges)) d)
  answered said e = (sym e, ap (λ w. afterwards w (bundle_of (lent input ranges)) d) (sym e))

  pub too_many : most < length ms → Answered (says 12 []) d
  too_many m =
      let many : leb (length (lent input ranges)) most ≡ false = lt-leb (length (lent input ranges)) most (rw (← g.same) m) in
      answered (says 12 []) (rw (le-ltb limit (length input) g.short, g.fit, many))

  module _ (m : length ms ≤ most) {n : ℕ} (e : n ≡ header_length (length ms) + length (join ms)) where
    few : leb (length (lent input ranges)) most ≡ true
    few = le-leb (length (lent input ranges)) most (rw (← g.same) m)

    size : length (bundle_of (lent input ranges)) ≡ n
    size = rw (← g.same) (length_bundle ms ∙ sym e)

    pub long_result : limit < n → Answered (says 1 []) d
    long_result l = answered (says 1 []) (rw (le-ltb limit (length input) g.short, g.fit, few, size, lt-ltb limit n l))

    pub no_room : n ≤ limit → length d < n → Answered (says 3 (n ∷ [])) d
    no_room l r = answered (says 3 (n ∷ [])) (rw (le-ltb limit (length input) g.short, g.fit, few, size, le-ltb limit n l, lt-ltb (length d) n r))

    pub room : n ≤ limit → n ≤ length d → Answered (says 0 (n ∷ [])) (bundle_of ms ++ drop (length (bundle_of ms)) d)
    room l r =
        let a = answered (says 0 (n ∷ [])) (rw (le-ltb limit (length input) g.short, g.fit, few, size, le-ltb limit n l, le-ltb (length d) n r)) in
        rw g.same a

-- ---- read back

abbrev written : List ℕ → ℕ
written [] = 0
written (n ∷ rest) = n

-- an error's number is one more than this
abbrev error : ℕ → List ℕ → BundlingError
error zero values = BundlingError.TooLong
error (suc zero) values = BundlingError.BadPlace
error (suc (suc k)) [] = BundlingError.NotABundle
error (suc (suc k)) (n ∷ rest) = BundlingError.NoRoom n

pub bundle_written_decides : Decides written_says
bundle_written_decides = said_decides length_values bundling_refused written error (λ n. refl) back
  where
    back : (e : BundlingError) → reread written error (bundling_refused e) ≡ Err e
    back BundlingError.TooLong = refl
    back BundlingError.BadPlace = refl
    back BundlingError.NotABundle = refl
    back (BundlingError.NoRoom n) = refl
