-- The test of a bundle: its last row, the offsets one after another, and where the messages stand. Assumes nothing.
use mathlib.Core.Bool.{true}
use mathlib.Core.List.{List, [], ◌∷◌}
use mathlib.Core.Path.{◌≡◌, ap, ◌∙◌}
use Prim.Native.Nat.{ℕ, zero, suc, ◌+◌, ◌-◌, ◌*◌, ◌≤◌, ◌<◌}
use native.Mathlib.Nat.{add-zero, sub-zero, zero-add}
use native.Mathlib.Omega.{arith}
use borrow.Author.Tests.{eq-eqb, le-leb, le-ltb}
use lib.Dec.{T, leb, leb→le}
use lib.ListN.{length}
use Rattle.rules.proofs.Lists.{and_left, and_right}
use Rattle.bundle.proofs.Bundle.{Passed, last_le, passed}
use Rattle.bundle.specs.Bundle.{count_of, header_length, is_bundle, last_of, most, none_falls, offset, offsets, rises_to, u32_at}

pub right_first : (b : List ℕ) {n x : ℕ} → n ≡ count_of b → x ≡ offset b 0 → 8 ≤ length b → n ≤ most → header_length n ≤ length b → x ≡ header_length n → is_bundle b ≡ rises_to (length b) x (offsets b 1 (n - 0))
unfolding is_bundle
right_first b {n} {x} e o h m l f =
    rw (sub-zero n, ← e, ← o, le-ltb (length b) 8 h, le-ltb most n m, le-ltb (length b) (header_length n) l, eq-eqb x (header_length n) f)

-- ---- the offsets that follow

pub goes_on : (size x y : ℕ) (os : List ℕ) → x ≤ y → rises_to size x (y ∷ os) ≡ rises_to size y os
goes_on size x y os h = rw (le-leb x y h)

pub next_offset : (b : List ℕ) (n k : ℕ) → k < n → offsets b (suc k) (n - k) ≡ offset b (suc k) ∷ offsets b (suc (k + 1)) (n - (k + 1))
next_offset b n k h =
    let m : n - k ≡ suc (n - (k + 1)) = omega arith in
    let s : suc (k + 1) ≡ suc (suc k) = omega arith in
    rw (m, s)

pub no_offset : (b : List ℕ) (n k : ℕ) → n ≤ k → offsets b (suc k) (n - k) ≡ []
no_offset b n k h =
    let m : n - k ≡ 0 = omega arith in
    rw m

pub offset_behind : (b : List ℕ) (k : ℕ) → u32_at b (8 + 4 * k) ≡ offset b (suc k)
offset_behind b k =
    let e : 8 + 4 * k ≡ 4 + 4 * suc k = omega arith in
    ap (u32_at b) e

-- one turn: the next offset doesn't fall
pub turn : (b : List ℕ) (n k x y : ℕ) → k < n → y ≡ u32_at b (8 + 4 * k) → x ≤ y → rises_to (length b) x (offsets b (suc k) (n - k)) ≡ rises_to (length b) y (offsets b (suc (k + 1)) (n - (k + 1)))
turn b n k x y h e l =
    let d : y ≡ offset b (suc k) = e ∙ offset_behind b k in
    rw (next_offset b n k h, ← d) (goes_on (length b) x y (offsets b (suc (k + 1)) (n - (k + 1))) l)

-- ---- the messages of a bundle stand in it, one behind another

between : (b : List ℕ) (k j n : ℕ) → j < n → T (none_falls (offset b k) (offsets b (suc k) n)) → (offset b (k + j) ≤ offset b (suc (k + j))) × (offset b (suc (k + j)) ≤ last_of (offset b k) (offsets b (suc k) n))
between b k j zero h t = absurd (omega arith)
between b k zero (suc n) h t =
    let x = offset b k in
    let y = offset b (suc k) in
    let os = offsets b (suc (suc k)) n in
    rw (add-zero k) (leb→le x y (and_left (leb x y) (none_falls y os) t), last_le y os (and_right (leb x y) (none_falls y os) t))
between b k (suc j) (suc n) h t =
    let x = offset b k in
    let y = offset b (suc k) in
    let os = offsets b (suc (suc k)) n in
    let e : k + suc j ≡ suc k + j = omega arith in
    rw e (between b (suc k) j n (omega arith) (and_right (leb x y) (none_falls y os) t))

-- what is known of message k, and of the places of its two offsets
pub part_there : (b : List ℕ) (k : ℕ) → is_bundle b ≡ true → k < count_of b → (offset b k ≤ offset b (suc k)) × (offset b (suc k) ≤ length b) × (12 + 4 * k ≤ length b) × (k < most)
part_there b k e h =
    let p : Passed b = passed b e in
    let r = between b 0 k (count_of b) h p.rise in
    let (order, inside) = rw (zero-add k, p.last) at r in
    (order, inside, omega (arith, p.header_fits), omega (arith, p.few))

pub count_there : (b : List ℕ) → is_bundle b ≡ true → 8 ≤ length b
count_there b e = omega (arith, (passed b e).header_fits)
