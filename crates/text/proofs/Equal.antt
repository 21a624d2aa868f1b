-- When two byte strings are the same. Assumes nothing.
use mathlib.Core.Bool.{true, false, ◌&&◌}
use mathlib.Core.List.{List, [], ◌∷◌, map}
use mathlib.Core.Path.{◌≡◌, refl, ap}
use Prim.Native.Nat.{ℕ, suc}
use native.Mathlib.Omega.{arith}
use lib.Dec.{eqb}
use lib.ListN.{length, take, length-map}
use Rattle.std.proofs.lemmas.Bool.Decides.{nat_tests}
use Rattle.std.specs.Char.{to_ascii_lowercase}
use Rattle.std.specs.Cmp.Lexicographic.{pointwise}
use Rattle.rules.specs.Bytes.{lower}
use Rattle.rules.specs.Lists.{equal, starts}
use Rattle.rules.specs.Trailer.{same}

-- strings of two lengths are not
pub equal_long : (a b : List ℕ) → (length a ≡ length b → ⊥) → equal a b ≡ false
equal_long [] [] n = absurd (n refl)
equal_long [] (y ∷ b) n = refl
equal_long (x ∷ a) [] n = refl
equal_long (x ∷ a) (y ∷ b) n = elim (eqb x y) as (λ t. t && equal a b ≡ false) [ true ↦ equal_long a b (λ e. n (ap suc e)) | false ↦ refl ]

-- nor are they, ASCII case aside
pub same_long : (a b : List ℕ) → (length a ≡ length b → ⊥) → same a b ≡ false
unfolding same
same_long a b n = equal_long (map lower a) (map lower b) (λ e. n (simp length-map at e))

-- ---- what the library says of them

pub starts_is : (p s : List ℕ) → pointwise eqb p (take (length p) s) ≡ starts p s
starts_is [] s = refl
starts_is (x ∷ p) [] = refl
starts_is (x ∷ p) (y ∷ s) = ap (λ t. eqb x y && t) (starts_is p s)

pub lower_is : (c : ℕ) → to_ascii_lowercase c ≡ lower c
unfolding lower
lower_is c = grind (arith, nat_tests)
