-- A table of the records themselves, at one cell a record. Assumes nothing.
use mathlib.Core.List.{List, [], ◌∷◌}
use mathlib.Core.Path.{◌≡◌, refl, sym, ap, ◌∙◌}
use Prim.Native.Nat.{ℕ, ◌+◌, ◌<◌}
use lib.ListN.{length, set}
use Rattle.rules.specs.declared.TrailerRef.{TrailerRef}
use Rattle.copy.specs.Onto.{onto}
use Rattle.copy.proofs.Onto.{onto-cons, onto-nil}
use Rattle.listing.specs.Turns.{laid}

abbrev pub one : TrailerRef → List TrailerRef
one r = r ∷ []

pub laid_one : (rs : List TrailerRef) → laid one rs ≡ rs
unfolding laid
laid_one [] = refl
laid_one (r ∷ rs) = ap (λ (k : List TrailerRef). r ∷ k) (laid_one rs)

-- a store, as what is written over
pub set_is : (l : List TrailerRef) (i : ℕ) (r : TrailerRef) → i < length l → set l i r ≡ onto i (one r) l
set_is l i r h = sym (onto-cons i r [] l h ∙ onto-nil (i + 1) (set l i r))
