-- The flags that the code computes of a word are those of its bytes that stand in no token. Assumes nothing.
use mathlib.Core.List.{List}
use mathlib.Core.Path.{◌≡◌, refl, ◌∙◌}
use Prim.Native.Nat.{ℕ, ◌+◌}
use lib.Bits.{bit_and, bit_or, bit_xor}
use lib.ListN.{length}
use Rattle.rules.specs.Bytes.{token_byte}
use Rattle.word.proofs.Lanes.{added, anded, each_alike, each_of, eight, ored, xored}
use Rattle.word.specs.Word.{Bytes, each, flag, packed}

-- what the code makes of each byte
abbrev low : ℕ → ℕ
low b = bit_and b 127

abbrev small : ℕ → ℕ
small b = bit_or (low b) 32

abbrev letter : ℕ → ℕ
letter b = bit_xor (small b + 31) (small b + 5)

abbrev digit : ℕ → ℕ
digit b = bit_xor (low b + 80) (low b + 70)

abbrev no_hyphen : ℕ → ℕ
no_hyphen b = bit_xor (low b) 45 + 127

abbrev outside : ℕ → ℕ
outside b = bit_and (bit_xor (bit_or (letter b) (digit b)) 128) (no_hyphen b)

-- and of all eight at once
abbrev lows : ℕ → ℕ
lows w = bit_and w 9187201950435737471

abbrev smalls : ℕ → ℕ
smalls w = bit_or (lows w) 2314885530818453536

abbrev letters : ℕ → ℕ
letters w = bit_xor (smalls w + 2242545357980376863) (smalls w + 361700864190383365)

abbrev digits : ℕ → ℕ
digits w = bit_xor (lows w + 5787213827046133840) (lows w + 5063812098665367110)

abbrev no_hyphens : ℕ → ℕ
no_hyphens w = bit_xor (lows w) 3255307777713450285 + 9187201950435737471

pub token_flags : (w : ℕ) (s : List ℕ) → length s ≡ 8 → Bytes s → w ≡ packed s
    → bit_and (bit_or (bit_and (bit_xor (bit_or (letters w) (digits w)) 9259542123273814144) (no_hyphens w)) w) 9259542123273814144 ≡ each (flag token_byte) s
unfolding each eight token_byte
token_flags w s e h q =
    let high = each_of 128 s e in
    let l : lows w ≡ each low s = anded s h (λ b. b) (λ _. 127) refl refl q (each_of 127 s e) in
    let m : smalls w ≡ each small s = ored s h low (λ _. 32) refl refl l (each_of 32 s e) in
    let a : letters w ≡ each letter s =
    xored s h (λ b. small b + 31) (λ b. small b + 5) refl refl (added s h small (λ _. 31) m (each_of 31 s e)) (added s h small (λ _. 5) m (each_of 5 s e)) in
    let d : digits w ≡ each digit s =
    xored s h (λ b. low b + 80) (λ b. low b + 70) refl refl (added s h low (λ _. 80) l (each_of 80 s e)) (added s h low (λ _. 70) l (each_of 70 s e)) in
    let n : no_hyphens w ≡ each no_hyphen s =
    added s h (λ b. bit_xor (low b) 45) (λ _. 127) (xored s h low (λ _. 45) refl refl l (each_of 45 s e)) (each_of 127 s e) in
    let none = xored s h (λ b. bit_or (letter b) (digit b)) (λ _. 128) refl refl (ored s h letter digit refl refl a d) high in
    let o = anded s h (λ b. bit_xor (bit_or (letter b) (digit b)) 128) no_hyphen refl refl none n in
    anded s h (λ b. bit_or (outside b) b) (λ _. 128) refl refl (ored s h outside (λ b. b) refl refl o q) high
    ∙ each_alike (λ b. bit_and (bit_or (outside b) b) 128) (flag token_byte) refl s h
