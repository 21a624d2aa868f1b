-- A trailer that stands in a body, by its places: they are in order and inside the body, its token and its raw value are what stands
-- between them, and where its first line ends tells whether its value is unfolded. Assumes nothing.
use mathlib.Core.List.{List}
use mathlib.Core.Path.{◌≡◌, sym, ap, ◌∙◌}
use Prim.Native.Nat.{ℕ, ◌+◌, ◌-◌, ◌≤◌, ◌<◌}
use native.Mathlib.Omega.{arith}
use lib.Dec.{ltb}
use lib.ListN.{length, take, drop}
use Rattle.rules.specs.Lines.{lines}
use Rattle.rules.specs.Record.{places_of}
use Rattle.rules.specs.Trailer.{Trailer, place_of, end_of, token_of, raw_value, raw_value_at, value_is_written}
use Rattle.rules.specs.declared.Places.{Places}
use Rattle.rules.proofs.Walk.{Stands}

-- what is asked of who reads the record of a trailer at these places
abbrev pub MayRead : List ℕ → Places → Type 0
MayRead body at =
    ((at.value_start ≤ at.end) × (at.end ≤ length body))
    × (value_is_written (take (at.end - at.value_start) (drop at.value_start body)) ≡ ltb at.first_end at.end)

module _ {body : List ℕ} {t : Trailer} {at : Places} (w : Stands body t) (e : at ≡ places_of t) where
  pub places_fit : (at.start ≤ at.token_end) × (at.token_end < at.value_start) × (at.value_start ≤ at.end) × (at.end ≤ length body)
  places_fit = rw e (omega (arith, w.token_ends, w.raw_ends, w.inside))

  pub token_is : take (at.token_end - at.start) (drop at.start body) ≡ token_of t
  token_is =
      let size : place_of t + length (token_of t) - place_of t ≡ length (token_of t) = omega arith in
      rw (e, size) w.token_at

  -- the raw value stands behind the colon, up to the trailer's end
  pub raw_is : take (at.end - at.value_start) (drop at.value_start body) ≡ raw_value t
  raw_is =
      let size : end_of t - raw_value_at t ≡ length (raw_value t) = omega (arith, w.raw_ends) in
      rw (e, size) w.raw_at

  pub may_read : MayRead body at
  may_read =
      let (a, b, c, d) = places_fit in
      ((c, d), ap value_is_written raw_is ∙ w.folded_is ∙ ap (λ (p : Places). ltb p.first_end p.end) (sym e))

  -- its first line is one line
  pub first_line_is : length (lines (take (at.first_end - at.start) (drop at.start body))) ≡ 1
  first_line_is = rw e w.first_at
