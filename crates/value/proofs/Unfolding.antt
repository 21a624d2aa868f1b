-- A value unfolded line by line: what is joined so far, and the rest, make the whole after each line. Assumes nothing.
use mathlib.Core.List.{List, [], map}
use mathlib.Core.Path.{◌≡◌, refl, sym, ap, ◌∙◌}
use Prim.Native.Nat.{ℕ, ◌≤◌, ◌<◌}
use lib.ListN.{length, take, drop}
use Rattle.rules.specs.Lines.{lines}
use Rattle.rules.specs.Trailer.{by_spaces, unfolded}
use Rattle.rules.specs.White.{trim}
use Rattle.rules.proofs.Unfolded.{one_piece}
use Rattle.text.specs.Lines.{first_length}
use Rattle.text.proofs.Lines.{first_line}
use Rattle.value.specs.Value.{NextLine}
use Rattle.value.proofs.Joined.{joined, joined_assoc, joined-cons, joined_longer, joined-nil}

-- the first line, and what is left after it
pub next_line : (s : List ℕ) (n : ℕ) {piece left : List ℕ} → 0 < length s → n ≡ first_length (lines s)
    → piece ≡ trim (take n s) → left ≡ drop n s → NextLine s piece left
next_line s n h e p r = record { reads = rw (p, r, e) (ap (map trim) (first_line s h)) }

-- `done` is what the lines before those of `left` make
pub record Half (s left done : List ℕ) : Type 0 where
  pub whole : joined done (unfolded left) ≡ unfolded s

pub half_start : (s : List ℕ) → Half s s []
half_start s = record { whole = one_piece (unfolded s) }

unfolded_none : unfolded [] ≡ []
unfolding unfolded
unfolded_none = refl

module _ {s left done : List ℕ} (half : Half s left done) where
  pub half_within : length done ≤ length (unfolded s)
  half_within = rw (← half.whole) (joined_longer done (unfolded left))

  pub half_step : {piece after : List ℕ} → NextLine left piece after → Half s after (joined done piece)
  unfolding unfolded
  half_step {piece} {after} next =
      let here : unfolded left ≡ joined piece (unfolded after) = ap by_spaces next.reads ∙ joined-cons piece (map trim (lines after)) in
      record { whole = joined_assoc done piece (unfolded after) ∙ ap (joined done) (sym here) ∙ half.whole }

  pub half_end : left ≡ [] → done ≡ unfolded s
  half_end e = sym (joined-nil done) ∙ ap (joined done) (sym (ap unfolded e ∙ unfolded_none)) ∙ half.whole
