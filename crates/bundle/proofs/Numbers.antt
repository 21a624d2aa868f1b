-- A number and its four bytes determine each other. Assumes nothing.
use mathlib.Core.List.{List, [], ◌∷◌, ◌++◌}
use mathlib.Core.Path.{◌≡◌, refl, sym, ap, ◌∙◌}
use Prim.Native.Nat.{ℕ, suc, ◌+◌, ◌*◌, ◌/◌, ◌%◌, ◌≤◌, ◌<◌}
use native.Mathlib.Omega.{arith}
use lib.Dec.{ltb→lt}
use lib.ListN.{length, get_or}
use lib.Seq.{drop-cons, take-append_seam, drop-append_seam}
use Rattle.rules.specs.Lists.{All}
use Rattle.bundle.specs.Bundle.{byte, little_endian, u32_at, u32_top, u32le, value_of}

pub length_u32 : (n : ℕ) → length (u32le n) ≡ 4
unfolding u32le
length_u32 n = refl

-- the number of a number's bytes
pub value_u32 : (n : ℕ) → n < u32_top → value_of (u32le n) ≡ n
unfolding u32le
value_u32 n h = omega arith

-- the bytes of some bytes' number
low : (b v : ℕ) → b < 256 → (b + 256 * v) % 256 ≡ b
low b v h = omega arith

high : (b v : ℕ) → b < 256 → (b + 256 * v) / 256 ≡ v
high b v h = omega arith

bytes_value : (s : List ℕ) → All byte s → little_endian (length s) (value_of s) ≡ s
bytes_value [] a = refl
bytes_value (b ∷ s) a =
    let h : b < 256 = ltb→lt b 256 a.0 in
    rw (low b (value_of s) h, high b (value_of s) h, bytes_value s a.1)

pub u32_value : (s : List ℕ) → length s ≡ 4 → All byte s → u32le (value_of s) ≡ s
unfolding u32le
u32_value s e a = ap (λ k. little_endian k (value_of s)) (sym e) ∙ bytes_value s a

value_lt : (a b c d : ℕ) → a < 256 → b < 256 → c < 256 → d < 256 → a + 256 * (b + 256 * (c + 256 * (d + 256 * 0))) < u32_top
value_lt a b c d ha hb hc hd = omega arith

pub value_fits : (s : List ℕ) → length s ≤ 4 → All byte s → value_of s < u32_top
value_fits [] e a = omega arith
value_fits (b ∷ []) e a = omega (arith, ltb→lt b 256 a.0)
value_fits (b ∷ c ∷ []) e a = omega (arith, ltb→lt b 256 a.0, ltb→lt c 256 a.1.0)
value_fits (b ∷ c ∷ d ∷ []) e a = omega (arith, ltb→lt b 256 a.0, ltb→lt c 256 a.1.0, ltb→lt d 256 a.1.1.0)
value_fits (b ∷ c ∷ d ∷ f ∷ []) e a = omega (arith, ltb→lt b 256 a.0, ltb→lt c 256 a.1.0, ltb→lt d 256 a.1.1.0, ltb→lt f 256 a.1.1.1.0)
value_fits (b ∷ c ∷ d ∷ f ∷ g ∷ s) e a = absurd (omega arith)

-- ---- at a place

pub u32_written : (p : List ℕ) (n at : ℕ) (q : List ℕ) → length p ≡ at → n < u32_top → u32_at (p ++ (u32le n ++ q)) at ≡ n
unfolding u32_at
u32_written p n at q e h = rw (← e, drop-append_seam p (u32le n ++ q), ← length_u32 n, take-append_seam (u32le n) q) (value_u32 n h)

-- by its four bytes
pub u32_bytes : (s : List ℕ) (at : ℕ) → at + 4 ≤ length s → u32_at s at ≡ get_or s at 0 + 256 * (get_or s (at + 1) 0 + 256 * (get_or s (at + 2) 0 + 256 * get_or s (at + 3) 0))
unfolding u32_at
u32_bytes s at h =
    let one : at + 1 ≡ suc at = omega arith in
    let two : at + 2 ≡ suc (suc at) = omega arith in
    let three : at + 3 ≡ suc (suc (suc at)) = omega arith in
    let d₀ = drop-cons s at 0 (omega arith) in
    let d₁ = drop-cons s (suc at) 0 (omega arith) in
    let d₂ = drop-cons s (suc (suc at)) 0 (omega arith) in
    let d₃ = drop-cons s (suc (suc (suc at))) 0 (omega arith) in
    rw (one, two, three, d₀, d₁, d₂, d₃) (omega arith)
