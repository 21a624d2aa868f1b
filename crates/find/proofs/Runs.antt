-- Runs without an LF: a search goes on after them, forward and backward. Assumes nothing.
use Rattle.std.specs.Prelude.{if◌then◌else◌}
use mathlib.Core.Bool.{Bool, true, false, or_assoc, or-false, ◌||◌}
use mathlib.Core.List.{List, [], ◌∷◌, ◌++◌, append_assoc}
use mathlib.Core.Path.{◌≡◌, refl, sym, ap, ◌∙◌}
use Prim.Native.Nat.{ℕ, zero, suc, ◌+◌, ◌-◌, ◌≤◌, ◌<◌}
use native.Mathlib.Numerals.{sub-one}
use native.Mathlib.Omega.{arith}
use borrow.Author.Tests.{eq-eqb, ne_eqb}
use lib.ListN.{length, take, drop, get_or, length-append, length-drop}
use lib.Seq.{drop-append_seam, drop-cons, drop-drop, length-take-le, take-append_seam, take-take, take_all}
use Rattle.std.proofs.lemmas.List.{drop-take}
use mir.Val.{bool_byte}
use Rattle.rules.proofs.Lists.{or_none}
use Rattle.rules.proofs.Number.{feeds_split}
use Rattle.rules.proofs.Parts.{rest}
use Rattle.rules.specs.Bytes.{LF}
use Rattle.rules.specs.Lists.{any}
use Rattle.rules.specs.Number.{line_feeds}
use Rattle.find.specs.Find.{behind_lf, is_lf, until_lf}

-- one byte more of a run
pub any_next : (p : ℕ → Bool) (s : List ℕ) (i : ℕ) → i < length s → any p (take (suc i) s) ≡ (any p (take i s) || p (get_or s i 0))
any_next p [] i h = absurd (omega arith)
any_next p (x ∷ s) zero h = or-false (p x)
any_next p (x ∷ s) (suc i) h = ap (λ (b : Bool). p x || b) (any_next p s i (omega arith)) ∙ sym (or_assoc (p x) (any p (take i s)) (p (get_or s i 0)))

-- a run is a part of what is searched: of `k` bytes from `i` on
pub past_run : (k : ℕ) (s : List ℕ) (i : ℕ) → i + k ≤ length s → any is_lf (take k (drop i s)) ≡ false
    → i + until_lf (drop i s) ≡ i + k + until_lf (drop (i + k) s)
past_run zero s i h e = let n : i ≡ i + 0 = omega arith in ap (λ (j : ℕ). j + until_lf (drop j s)) n
past_run (suc k) s i h e =
    let d = drop-cons s i 0 (omega arith) in
    let n = or_none (is_lf (get_or s i 0)) (any is_lf (take k (drop (suc i) s))) (rw d at e) in
    let size : i + suc k ≡ suc i + k = omega arith in
    rw (size, d, n.0) (omega (arith, past_run k s (suc i) (omega arith) n.1))

-- what is passed over in the rest from `i` on is passed over in the whole
pub past_part : (s : List ℕ) (i : ℕ) {r : ℕ} → i ≤ length s
    → let t = take (length s - i) (drop i s) in (r ≤ length t) × (r + until_lf (drop r t) ≡ until_lf t)
    → (i + r ≤ length s) × (i + r + until_lf (drop (i + r) s) ≡ i + until_lf (drop i s))
past_part s i {r} h e =
    let p : (r ≤ length (drop i s)) × (r + until_lf (drop (i + r) s) ≡ until_lf (drop i s)) = rw (rest s i, drop-drop r i s) at e in
    omega (arith, p, length-drop i s)

pub before_run : (k : ℕ) (s : List ℕ) (i : ℕ) → i + k ≤ length s → any is_lf (take k (drop i s)) ≡ false → behind_lf s i ≡ behind_lf s (i + k)
unfolding behind_lf
before_run zero s i h e = let n : i ≡ i + 0 = omega arith in ap (behind_lf s) n
before_run (suc k) s i h e =
    let n = or_none (is_lf (get_or s i 0)) (any is_lf (take k (drop (suc i) s))) (rw (drop-cons s i 0 (omega arith)) at e) in
    let later : behind_lf s (suc i) ≡ behind_lf s (suc i + k) = before_run k s (suc i) (omega arith) n.1 in
    let size : i + suc k ≡ suc i + k = omega arith in
    rw size (rw n.0 at later)

-- one byte more of a search backward: an LF, another byte, none
pub met : (s : List ℕ) (i : ℕ) → 0 < i → get_or s (i - 1) 0 ≡ LF → behind_lf s i ≡ i
unfolding behind_lf
met s zero h e = absurd (omega arith)
met s (suc k) h e = rw (eq-eqb (get_or s k 0) LF (rw sub-one at e))

pub passed : (s : List ℕ) (i : ℕ) → 0 < i → (get_or s (i - 1) 0 ≡ LF → ⊥) → behind_lf s i ≡ behind_lf s (i - 1)
unfolding behind_lf
passed s zero h n = absurd (omega arith)
passed s (suc k) h n = rw (sub-one, ne_eqb (get_or s k 0) LF (λ e. n (rw sub-one e)))

pub none : (s : List ℕ) (i : ℕ) → i ≤ 0 → behind_lf s i ≡ 0
unfolding behind_lf
none s zero h = refl
none s (suc k) h = absurd (omega arith)

-- ---- a run that is cut off what is left, at its front or at its end

pub cut : {k : ℕ} {s p t : List ℕ} → s ≡ p ++ t → length p ≡ k → (k ≤ length s) × (take k s ≡ p) × (drop k s ≡ t)
cut {k} {s} {p} {t} e h = (omega (arith, ap length e, length-append p t), rw (e, ← h, take-append_seam), rw (e, ← h, drop-append_seam))

-- what `rchunks_exact` cuts off at the end of the first n bytes
pub cut_back : (s rem rest rem' rest' chunk : List ℕ) {k n : ℕ} → n ≤ length s → rem ++ rest ≡ take n s → rem' ≡ rem → rest ≡ rest' ++ chunk
    → length chunk ≡ k → (k ≤ n) × (take (n - k) s ≡ rem' ++ rest') × (take k (drop (n - k) s) ≡ chunk)
cut_back s rem rest rem' rest' chunk {k} {n} w l r e h =
    let parts : take n s ≡ (rem' ++ rest') ++ chunk = rw (r, append_assoc, ← e) (sym l) in
    let size : length (rem' ++ rest') + k ≡ n = omega (arith, ap length parts, length-append (rem' ++ rest') chunk, length-take-le n s w) in
    let front : length (rem' ++ rest') ≡ n - k = omega arith in
    let whole : n - k + k ≡ n = omega arith in
    let c = cut parts front in
    (omega arith, sym (take-take (n - k) n s (omega arith)) ∙ c.1, sym (rw whole at (drop-take (n - k) k s)) ∙ c.2)

-- ---- the end of a search forward

pub until_fits : (s : List ℕ) (i : ℕ) → i ≤ length s → i + until_lf (drop i s) ≤ length s
until_fits s i h = omega (arith, within (drop i s), length-drop i s)
  where
    within : (t : List ℕ) → until_lf t ≤ length t
    within [] = omega arith
    within (x ∷ t) = by (is_lf x) refl (within t)
      where
        by : (b : Bool) → is_lf x ≡ b → until_lf t ≤ length t → until_lf (x ∷ t) ≤ suc (length t)
        by true q r = rw q (omega arith)
        by false q r = rw q (omega arith)

-- where the bytes from `j` on have no LF, a search from a later place on ends at the end
pub past_end : (s : List ℕ) (j i : ℕ) → j ≤ i → i ≤ length s → any is_lf (drop j s) ≡ false → i + until_lf (drop i s) ≡ length s
past_end s j i h k e =
    let later : j + (i - j) ≡ i = omega arith in
    omega (arith, all (drop i s) (rw (drop-drop (i - j) j s, later) at (behind (i - j) (drop j s) e)), length-drop i s)
  where
    behind : (m : ℕ) (t : List ℕ) → any is_lf t ≡ false → any is_lf (drop m t) ≡ false
    behind zero t e = e
    behind (suc m) [] e = refl
    behind (suc m) (x ∷ t) e = behind m t (or_none (is_lf x) (any is_lf t) e).1

    all : (t : List ℕ) → any is_lf t ≡ false → until_lf t ≡ length t
    all [] e = refl
    all (x ∷ t) e = let n = or_none (is_lf x) (any is_lf t) e in rw n.0 (ap suc (all t n.1))

-- ---- counted

pub as_byte : (b : Bool) → ((if b then 1 else 0) ≡ bool_byte b) × (bool_byte b ≤ 1)
as_byte true = (refl, omega arith)
as_byte false = (refl, omega arith)

-- one byte more of a run that is counted
pub feeds_next : (s : List ℕ) (i : ℕ) → i < length s
    → (line_feeds (take (suc i) s) ≡ line_feeds (take i s) + bool_byte (is_lf (get_or s i 0))) × (bool_byte (is_lf (get_or s i 0)) ≤ 1)
feeds_next [] i h = absurd (omega arith)
feeds_next (x ∷ s) zero h = (omega (arith, (as_byte (is_lf x)).0), (as_byte (is_lf x)).1)
feeds_next (x ∷ s) (suc i) h = let r = feeds_next s i (omega arith) in (omega (arith, r.0), r.1)

-- a run of k bytes, and what is left after it
pub feeds_run : (k : ℕ) (s : List ℕ) → k ≤ length s → line_feeds s ≡ line_feeds (take k s) + line_feeds (drop k s)
feeds_run k s h = rw (take_all (length s) s (omega arith), rest s k) at (feeds_split s k (length s) h)
