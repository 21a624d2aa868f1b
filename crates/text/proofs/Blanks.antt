-- Parts that are all blank: one byte more, and one part more before what is blank. Assumes nothing.
use mathlib.Core.Bool.{Bool, true, and_assoc, and-true, ◌&&◌}
use mathlib.Core.List.{List, [], ◌∷◌}
use mathlib.Core.Path.{◌≡◌, refl, sym, ap, ◌∙◌}
use Prim.Native.Nat.{ℕ, zero, suc, ◌+◌, ◌-◌, ◌≤◌, ◌<◌}
use native.Mathlib.Numerals.{add-one}
use native.Mathlib.Omega.{arith}
use lib.ListN.{length, take, drop, get_or}
use Rattle.std.proofs.lemmas.Bool.Decides.{nat_tests}
use Rattle.std.specs.Char.{is_ascii_whitespace}
use Rattle.std.specs.List.{list_all}
use lib.Seq.{drop-cons, drop-drop}
use Rattle.rules.specs.Bytes.{blank_byte}
use Rattle.rules.specs.Lists.{all}

-- one byte more, where all was blank so far or not
pub blank_next : (s : List ℕ) (i : ℕ) (so_far b : Bool) → i < length s → b ≡ blank_byte (get_or s i 0)
    → so_far && all blank_byte (drop i s) ≡ (so_far && b) && all blank_byte (drop (i + 1) s)
blank_next s i so_far b h e = rw (add-one i, drop-cons s i 0, e) (sym (and_assoc so_far _ _))

-- by the first k bytes and the others
pub blank_parts : (k : ℕ) (s : List ℕ) → all blank_byte s ≡ all blank_byte (take k s) && all blank_byte (drop k s)
blank_parts zero s = refl
blank_parts (suc k) [] = refl
blank_parts (suc k) (x ∷ s) =
    ap (λ (b : Bool). blank_byte x && b) (blank_parts k s)
    ∙ sym (and_assoc (blank_byte x) (all blank_byte (take k s)) (all blank_byte (drop k s)))

-- where all from `n` on is blank, all from `i` on is blank just if the part between them is
pub blank_before : (s : List ℕ) (i n : ℕ) (b : Bool) → i ≤ n → all blank_byte (take (n - i) (drop i s)) ≡ b → all blank_byte (drop n s) ≡ true
    → all blank_byte (drop i s) ≡ b
blank_before s i n b h part behind =
    let place : i + (n - i) ≡ n = omega arith in
    blank_parts (n - i) (drop i s) ∙ rw (drop-drop (n - i) i s, place, part, behind) (and-true b)

-- the library's test of a byte
pub blank_is : (c : ℕ) → is_ascii_whitespace c ≡ blank_byte c
unfolding blank_byte
blank_is c = grind (arith, nat_tests)

-- and that of a list
pub all_is : (s : List ℕ) → list_all blank_byte s ≡ all blank_byte s
all_is [] = refl
all_is (x ∷ s) = ap (λ (b : Bool). blank_byte x && b) (all_is s)
