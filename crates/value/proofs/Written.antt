-- A buffer whose front holds what the lines passed so far make, and whose bytes behind that are kept. Assumes nothing.
use mathlib.Core.List.{List, [], ◌++◌}
use mathlib.Core.Path.{◌≡◌, refl, sym, ap, ◌∙◌}
use Prim.Native.Nat.{ℕ, ◌+◌, ◌-◌, ◌≤◌}
use native.Mathlib.Omega.{arith}
use lib.ListN.{length, take, drop, length-append, length-drop, take-append-drop}
use lib.Seq.{drop_at, drop-drop, length-take-le, take_at}
use Rattle.rules.specs.Trailer.{unfolded}
use Rattle.value.specs.Joined.{joined_length}
use Rattle.value.specs.Value.{NextLine}
use Rattle.value.proofs.Joined.{joined, joined_longer, length-joined}
use Rattle.value.proofs.Unfolding.{Half, half_start, half_within, half_step, half_end}

-- `d` is the buffer now, `d₀` as it was lent, and `left` what is still to be unfolded
pub record Written (s d₀ left d : List ℕ) (len : ℕ) : Type 0 where
  pub fits : len ≤ length d₀
  pub size : length d ≡ length d₀
  pub kept : drop len d ≡ drop len d₀
  pub half : Half s left (take len d)

pub written_start : (s d : List ℕ) → Written s d s d 0
written_start s d = record { fits = omega arith; size = refl; kept = refl; half = half_start s }

module _ {s d₀ left d : List ℕ} {len : ℕ} (w : Written s d₀ left d len) where
  held : length (take len d) ≡ len
  held = length-take-le len d (omega (arith, w.fits, w.size))

  pub written_end : left ≡ [] → (len ≡ length (unfolded s)) × (d ≡ unfolded s ++ drop (length (unfolded s)) d₀)
  written_end h =
      let front : take len d ≡ unfolded s = half_end w.half h in
      let size : len ≡ length (unfolded s) = sym held ∙ ap length front in
      (size, sym (take-append-drop len d) ∙ rw (front, w.kept, size))

  module _ {piece after : List ℕ} (next : NextLine left piece after) (room : length (unfolded s) ≤ length d₀) where
    next_half : Half s after (joined (take len d) piece)
    next_half = half_step w.half next

    next_length : length (joined (take len d) piece) ≡ joined_length len (length piece)
    next_length = length-joined (take len d) piece ∙ rw held

    pub next_fits : joined_length len (length piece) ≤ length d
    next_fits = omega (arith, next_length, half_within next_half, w.size)

    pub written_step : (end : ℕ) (d' : List ℕ) → end ≡ joined_length len (length piece) → d' ≡ joined (take len d) piece ++ drop end d
        → Written s d₀ after d' end
    written_step end d' q r =
        let front : length (joined (take len d) piece) ≡ end = next_length ∙ sym q in
        let longer : len ≤ end = omega (arith, held, front, joined_longer (take len d) piece) in
        let on : len + (end - len) ≡ end = omega arith in
        let from : (x : List ℕ) → drop end x ≡ drop (end - len) (drop len x) = λ x. rw (drop-drop (end - len) len x, on) in
        record {
          fits = omega (arith, q, next_fits, w.size);
          size = omega (arith, simp (length-append, length-drop) at (ap length r), front, next_fits, q, w.size);
          kept = rw (r, drop_at (joined (take len d) piece) (drop end d) end front, from d, from d₀, w.kept);
          half = rw (r, take_at (joined (take len d) piece) (drop end d) end front) next_half;
        }
