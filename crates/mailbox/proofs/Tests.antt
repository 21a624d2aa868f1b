-- Laws of tests and of the byte classes. Assumes nothing.
use mathlib.Core.Bool.{Bool, true, false, not, ◌||◌}
use mathlib.Core.Path.{◌≡◌, refl}
use Prim.Native.Nat.{ℕ}
use lib.Dec.{T, T_not, not_T, eqb, eqb→eq}
use Rattle.rules.proofs.Lists.{is_false}
use Rattle.mailbox.specs.Grammar.{white_byte, atext}

-- a byte of a class is none that is not in it
pub differs : (p : ℕ → Bool) (c k : ℕ) → T (p c) → T (not (p k)) → eqb c k ≡ false
differs p c k t n = is_false (eqb c k) (not_T (eqb c k) (λ e. T_not (p k) n (rw (eqb→eq c k e) at t)))

pub atext_not_white : (c : ℕ) → T (atext c) → white_byte c ≡ false
unfolding atext white_byte
atext_not_white c t = rw (differs atext c 32 t tt, differs atext c 9 t tt)

pub white_not_atext : (c : ℕ) → T (white_byte c) → T (not (atext c))
white_not_atext c t = not_T (atext c) (λ a. T_not (white_byte c) (rw (atext_not_white c a) tt) t)

pub neither : (x y : Bool) → T (not (x || y)) → (x ≡ false) × (y ≡ false)
neither true y t = absurd t
neither false true t = absurd t
neither false false t = (refl, refl)
