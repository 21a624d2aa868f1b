-- What is kept of a message, as a scan of its lines from the end finds it. Assumes nothing.
use mathlib.Core.Bool.{true, false}
use mathlib.Core.List.{List, [], ◌∷◌, ◌++◌}
use mathlib.Core.Path.{◌≡◌, sym, ap, ◌∙◌}
use Prim.Native.Nat.{ℕ, ◌≤◌, ◌<◌}
use lib.ListN.{length, take}
use lib.Seq.{length-take-le}
use Rattle.rules.specs.Bytes.{blank_byte}
use Rattle.rules.specs.Lines.{Line, lines}
use Rattle.rules.specs.Lists.{all, join}
use Rattle.rules.proofs.Lines.{join-lines}
use Rattle.text.specs.Lines.{line_start}
use Rattle.text.proofs.Lines.{blank-all}
use Rattle.paragraph.proofs.Upward.{last_part, part}
use Rattle.appending.specs.Added.{kept, up_to_last}
use Rattle.appending.proofs.ForCode.{kept-blank, kept-solid}

-- the last non-blank line of the message is that of its first `end` bytes
abbrev pub Above : List ℕ → ℕ → Type 0
Above message end = (end ≤ length message) × (up_to_last (lines message) ≡ up_to_last (lines (take end message)))

module _ (message : List ℕ) (start end : ℕ) (s : start ≡ line_start message end) (a : Above message end) (z : 0 < end) where
  -- it is the line that ends there, or it is above that line
  pub kept_here : all blank_byte (part message start end) ≡ false → end ≡ length (kept message)
  unfolding kept
  kept_here b =
      let here : lines (take end message) ≡ lines (take start message) ++ part message start end ∷ [] = last_part message start end s a.0 z in
      let all-of-it : up_to_last (lines (take end message)) ≡ lines (take end message) =
      ap up_to_last here ∙ kept-solid (lines (take start message)) (part message start end) (rw (blank-all (part message start end), b)) ∙ sym here in
      sym (ap (λ (ls : List Line). length (join ls)) (a.1 ∙ all-of-it) ∙ ap length (join-lines (take end message)) ∙ length-take-le end message a.0)

  pub kept_above : all blank_byte (part message start end) ≡ true → up_to_last (lines message) ≡ up_to_last (lines (take start message))
  kept_above b =
      a.1 ∙ ap up_to_last (last_part message start end s a.0 z)
      ∙ kept-blank (lines (take start message)) (part message start end) (rw (blank-all (part message start end), b))

pub kept_nothing : (message : List ℕ) → Above message 0 → 0 ≡ length (kept message)
unfolding kept
kept_nothing message a = sym (ap (λ (ls : List Line). length (join ls)) a.1)
