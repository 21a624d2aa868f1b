-- The first line and the lines of the walk are the listing: its length is found (needed_is), and both are written (both_put). Assumes
-- nothing.
use mathlib.Core.List.{List, ◌++◌}
use mathlib.Core.Path.{◌≡◌, refl, ap, ◌∙◌}
use Prim.Native.Nat.{ℕ, ◌+◌, ◌*◌, ◌≤◌}
use native.Mathlib.Omega.{arith}
use lib.ListN.{length, drop, length-append}
use Rattle.rules.specs.Answers.{limit}
use Rattle.rules.specs.Trailer.{walk_from}
use Rattle.copy.specs.Onto.{onto}
use Rattle.copy.proofs.Onto.{onto_front}
use Rattle.io.specs.Digits.{IsDigitCount, last_digits}
use Rattle.message.specs.Message.{walk_start}
use Rattle.message.proofs.Started.{walk_fits}
use Rattle.adding.proofs.Writing.{behind, size_kept}
use Rattle.screen.specs.Listing.{decimal, first_line, listing}
use Rattle.screen.specs.Parts.{lines_from, sizes_from}
use Rattle.screen.specs.declared.Sizes.{Sizes}
use Rattle.screen.proofs.Decimal.{decimal_short, fewest_is}
use Rattle.screen.proofs.Lines.{bound}
use Rattle.screen.proofs.Writing.{first_size}

-- what the call has found before it writes: where the walk begins, what its lines need, and the digits of its number
pub record Planned (m : List ℕ) (at : ℕ) (z : Sizes) (k : ℕ) (text : List ℕ) : Type 0 where
  pub begins : at ≡ (walk_start m).at
  pub sizes : z ≡ sizes_from m at
  pub long : k ≡ length text
  pub fewest : IsDigitCount 10 1 z.trailers k
  pub spelt : text ≡ last_digits 10 k z.trailers

module _ {m : List ℕ} {at : ℕ} {z : Sizes} {k : ℕ} {text : List ℕ} (x : Planned m at z k text) where
  pub place_fits : at ≤ length m
  place_fits = rw x.begins (walk_fits m)

  bytes_are : z.bytes ≡ length (lines_from m at)
  bytes_are = ap (λ (y : Sizes). y.bytes) x.sizes

  count_is : z.trailers ≡ length (walk_from m at)
  count_is = ap (λ (y : Sizes). y.trailers) x.sizes

  spelt_is : text ≡ decimal (length (walk_from m at))
  spelt_is = x.spelt ∙ fewest_is k z.trailers x.fewest ∙ ap decimal count_is

  whole : first_line text ++ lines_from m at ≡ listing m
  unfolding listing
  whole =
      ap (λ (t : List ℕ). first_line t ++ lines_from m at) spelt_is
      ∙ ap (λ (j : ℕ). first_line (decimal (length (walk_from m j))) ++ lines_from m j) x.begins

  pub needed_is : 10 + k + z.bytes ≡ length (listing m)
  needed_is = omega (arith, x.long, first_size text, bytes_are, ap length whole, length-append (first_line text) (lines_from m at))

  -- nothing overflows
  pub sizes_short : length m ≤ limit → (k ≤ 7) × (z.bytes ≤ 3 * length m)
  sizes_short h =
      let b = bound m (walk_from m at) at refl place_fits in (
        omega (arith, x.long, ap length spelt_is, decimal_short 6 (length (walk_from m at)) (omega (arith, b.0))),
        omega (arith, bytes_are, b.1),
      )

  module _ (d : List ℕ) (h : length (listing m) ≤ length d) where
    pub first_room : length (first_line text) ≤ length d
    first_room = omega (arith, x.long, needed_is, first_size text)

    module _ (o : List ℕ) (f : o ≡ onto 0 (first_line text) d) where
      pub lines_room : 10 + k + length (lines_from m at) ≤ length o
      lines_room = omega (arith, needed_is, bytes_are, size_kept d o (first_line text) 0 f (omega (arith, first_room)))

      pub both_put : (p : List ℕ) → p ≡ onto (10 + k) (lines_from m at) o → p ≡ listing m ++ drop (length (listing m)) d
      both_put p g =
          behind d o p (first_line text) (lines_from m at) 0 (10 + k) f g (omega (arith, x.long, first_size text)) (omega (arith, first_room))
          ∙ ap (λ (t : List ℕ). onto 0 t d) whole ∙ onto_front (listing m) d
