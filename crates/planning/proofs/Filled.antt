-- A table that is filled with records, each as so many cells: what the loop that lists keeps. Assumes nothing.
use mathlib.Core.List.{List, [], ◌∷◌}
use mathlib.Core.Path.{◌≡◌, refl, sym}
use Prim.Native.Nat.{ℕ, ◌*◌, ◌/◌, ◌≤◌}
use native.Mathlib.Nat.{mul-div-le, mul-le-mul_left, mul-suc, mul-zero}
use native.Mathlib.Omega.{arith}
use lib.ListN.{length, length-append, take}
use Rattle.rules.specs.Answers.{afterwards}
use Rattle.rules.specs.declared.TrailerRef.{TrailerRef}
use Rattle.listing.proofs.Turn.{Turn, start}
use Rattle.listing.specs.Turns.{Starts, laid}
use Rattle.listing.specs.declared.Beginning.{Beginning}
use Rattle.listing.specs.declared.Spot.{Spot}
use Rattle.planning.specs.Scopes.{scope_answer, scope_buffer, scope_records, scope_values}
use Rattle.planning.specs.declared.Scope.{Scope}

module _ {A : Type 0} (cells : TrailerRef → List A) (width : ℕ) where
  -- the loop, at a spot: the table and the buffer that are left when it ends are those of the scope
  abbrev pub Filling : List ℕ → Scope → List A → List ℕ → Beginning → ℕ → Spot → List A → List ℕ → Type 0
  Filling input w table out b at p l z =
      Turn cells (take b.end input) b (scope_answer input w (length table / width) (length out)) (length table) (length out)
      (afterwards (scope_answer input w (length table / width) (length out)) (laid cells (scope_records input w)) table)
      (scope_buffer input w (length table / width) out) at p l z

  module _ (wide : (r : TrailerRef) → length (cells r) ≡ width) where
    laid_wide : (rs : List TrailerRef) → length (laid cells rs) ≡ width * length rs
    unfolding laid
    laid_wide [] = sym (mul-zero width)
    laid_wide (r ∷ rs) = omega (arith, length-append (cells r) (laid cells rs), wide r, laid_wide rs, mul-suc width (length rs))

    -- where there are rooms for the records, their cells fit
    enough : (k : ℕ) (rs : List TrailerRef) → length rs ≤ k / width → length (laid cells rs) ≤ k
    enough k rs h = omega (arith, laid_wide rs, mul-le-mul_left width h, mul-div-le k width)

    pub filling : (input : List ℕ) (w : Scope) (table : List A) (out : List ℕ) (b : Beginning)
        → Starts (take b.end input) (scope_answer input w (length table / width) (length out)) (scope_records input w) (scope_values input w) (length table / width) (length out) b
        → Filling input w table out b 0 b.spot table out
    filling input w table out b g =
        start {said = scope_answer input w (length table / width) (length out)} {records = scope_records input w} {values = scope_values input w}
        g cells table out refl (enough (length table) (scope_records input w))
