-- Words of small letters: what the code computes of a word, and that two of them tell a token of eight to sixteen bytes. Assumes nothing.
use mathlib.Core.Bool.{◌&&◌}
use mathlib.Core.List.{List, [], ◌∷◌, map}
use mathlib.Core.Path.{◌≡◌, refl, sym, ap, ◌∙◌}
use Prim.Native.Nat.{ℕ, zero, suc, ◌+◌, ◌-◌, ◌/◌, ◌^◌, ◌≤◌}
use native.Mathlib.Omega.{arith}
use lib.Bits.{bit_and, bit_or, bit_xor}
use lib.Dec.{eqb}
use lib.ListN.{length, take, drop, length-drop, length-map}
use lib.Seq.{length-take-le}
use Rattle.rules.specs.Bytes.{lower}
use Rattle.rules.specs.Trailer.{same}
use Rattle.text.proofs.Words.{each_same, equal_words}
use Rattle.word.proofs.Lanes.{added, anded, each_alike, each_of, eight, ored, quartered, xored}
use Rattle.word.specs.Word.{Bytes, each, packed}

-- what the code makes of each byte
abbrev low : ℕ → ℕ
low b = bit_and b 127

abbrev capital : ℕ → ℕ
capital b = bit_xor (low b + 63) (low b + 37)

abbrev flags : ℕ → ℕ
flags b = bit_and (bit_and (capital b) (bit_xor b 128)) 128

-- and of all eight at once
abbrev lows : ℕ → ℕ
lows w = bit_and w 9187201950435737471

abbrev capitals : ℕ → ℕ
capitals w = bit_xor (lows w + 4557430888798830399) (lows w + 2676586395008836901)

pub lowered : (w : ℕ) (s : List ℕ) → length s ≡ 8 → Bytes s → w ≡ packed s
    → bit_or w (bit_and (bit_and (capitals w) (bit_xor w 9259542123273814144)) 9259542123273814144 / 2 ^ 2) ≡ each lower s
unfolding each eight lower
lowered w s e h q =
    let high = each_of 128 s e in
    let l : lows w ≡ each low s = anded s h (λ b. b) (λ _. 127) refl refl q (each_of 127 s e) in
    let c : capitals w ≡ each capital s =
    xored s h (λ b. low b + 63) (λ b. low b + 37) refl refl (added s h low (λ _. 63) l (each_of 63 s e)) (added s h low (λ _. 37) l (each_of 37 s e)) in
    let clear = xored s h (λ b. b) (λ _. 128) refl refl q high in
    let f = anded s h (λ b. bit_and (capital b) (bit_xor b 128)) (λ _. 128) refl refl (anded s h capital (λ b. bit_xor b 128) refl refl c clear) high in
    ored s h (λ b. b) (λ b. flags b / 4) refl refl q (quartered s h flags refl f)
    ∙ each_alike (λ b. bit_or b (flags b / 4)) lower refl s h

-- two words of small letters are the same where their bytes are, ASCII case aside
lowered_same : (a b : List ℕ) → length a ≡ length b → Bytes a → Bytes b → eqb (each lower a) (each lower b) ≡ same a b
unfolding lower same
lowered_same a b e h k = each_same lower refl a b e h k

map-take : (f : ℕ → ℕ) (k : ℕ) (s : List ℕ) → take k (map f s) ≡ map f (take k s)
map-take f zero s = refl
map-take f (suc k) [] = refl
map-take f (suc k) (x ∷ s) = ap (λ t. f x ∷ t) (map-take f k s)

map-drop : (f : ℕ → ℕ) (k : ℕ) (s : List ℕ) → drop k (map f s) ≡ map f (drop k s)
map-drop f zero s = refl
map-drop f (suc k) [] = refl
map-drop f (suc k) (x ∷ s) = map-drop f k s

same_words : (token name : List ℕ) (d : ℕ) → length token ≡ length name → d + 8 ≡ length name → d ≤ 8
    → same token name ≡ (same (take 8 token) (take 8 name) && same (drop d token) (drop d name))
unfolding same
same_words token name d e long near =
    let size : length (map lower name) ≡ d + 8 = simp length-map (sym long) in
    let there : d + 8 - 8 ≡ d = omega arith in
    equal_words (map lower token) (map lower name) (simp length-map e) (simp length-map (omega arith)) (simp length-map (omega arith))
    ∙ rw (size, there, map-take lower 8 token, map-take lower 8 name, map-drop lower d token, map-drop lower d name)

-- so two comparisons tell a token
pub told : (token name : List ℕ) (d : ℕ) {x y z w : ℕ} → length token ≡ length name → d + 8 ≡ length name → d ≤ 8
    → Bytes (take 8 token) → Bytes (take 8 name) → Bytes (drop d token) → Bytes (drop d name)
    → x ≡ each lower (take 8 token) → y ≡ each lower (take 8 name) → z ≡ each lower (drop d token) → w ≡ each lower (drop d name)
    → eqb x y && eqb z w ≡ same token name
told token name d e long near h₁ h₂ h₃ h₄ p q r s =
    let size : length (take 8 token) ≡ length (take 8 name) = length-take-le 8 token (omega arith) ∙ sym (length-take-le 8 name (omega arith)) in
    let rests : length (drop d token) ≡ length (drop d name) = simp length-drop (omega arith) in
    rw (p, q, r, s, lowered_same (take 8 token) (take 8 name) size h₁ h₂, lowered_same (drop d token) (drop d name) rests h₃ h₄) (sym (same_words token name d e long near))
