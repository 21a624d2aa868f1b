-- What std's methods test of bytes is what the definitions of the rules test. Assumes nothing.
use Rattle.std.specs.Char.{is_ascii_digit}
use Rattle.std.specs.List.{list_all}
use Rattle.std.specs.Str.{bytes_eq}
use mathlib.Core.Bool.{◌&&◌}
use mathlib.Core.List.{List, [], ◌∷◌}
use mathlib.Core.Path.{◌≡◌, refl, ap}
use Prim.Native.Nat.{ℕ}
use lib.Dec.{eqb}
use Rattle.rules.specs.Lists.{all, equal}
use Rattle.closing.specs.Contents.{digit}

pub all_digit : (v : List ℕ) → list_all is_ascii_digit v ≡ all digit v
unfolding digit
all_digit [] = refl
all_digit (c ∷ v) = ap (λ b. digit c && b) (all_digit v)

pub bytes_equal : (a b : List ℕ) → bytes_eq a b ≡ equal a b
bytes_equal [] [] = refl
bytes_equal [] (y ∷ b) = refl
bytes_equal (x ∷ a) [] = refl
bytes_equal (x ∷ a) (y ∷ b) = ap (λ t. eqb x y && t) (bytes_equal a b)
