-- A line's text and ending by its last two bytes. Assumes nothing.
use mathlib.Core.Bool.{Bool, true, false}
use mathlib.Core.List.{List, [], ◌∷◌, ◌++◌}
use mathlib.Core.Path.{◌≡◌, refl, sym, ap, ◌∙◌}
use Prim.Native.Nat.{ℕ, ◌-◌, ◌≤◌, ◌<◌}
use native.Mathlib.Numerals.{sub-one}
use native.Mathlib.Omega.{arith}
use borrow.Author.Tests.{leb-false, leb-true, ne_eqb}
use lib.Dec.{eqb, leb}
use lib.ListN.{length, take, get_or, length-append}
use lib.Seq.{get_or-take, length-take-le, take_at}
use Rattle.rules.specs.Bytes.{LF, CR}
use Rattle.rules.specs.Lines.{Line, ending, ends_with, text, without}
use Rattle.rules.specs.declared.Ending.{Ending}
use Rattle.rules.proofs.Endings.{goes, stays}

-- the last byte, by its place
last_byte : (x c : ℕ) (l : List ℕ) → ends_with x (c ∷ l) ≡ eqb (get_or (c ∷ l) (length l) 0) x
last_byte x c [] = refl
last_byte x c (d ∷ l) = last_byte x d l

pub ends_by : (x : ℕ) (l : List ℕ) → (length l ≡ 0 → ⊥) → ends_with x l ≡ eqb (get_or l (length l - 1) 0) x
ends_by x [] n = absurd (n refl)
ends_by x (c ∷ l) n = rw sub-one (last_byte x c l)

pub ends_empty : (x : ℕ) (l : List ℕ) → length l ≡ 0 → ends_with x l ≡ false
ends_empty x [] e = refl
ends_empty x (c ∷ l) e = absurd (omega arith)

-- ---- without an LF

module _ (l : Line) (q : ends_with LF l ≡ false) where
  same : without LF l ≡ l
  same = stays LF l (rw q tt)

  pub bare_text : ends_with CR l ≡ false → (length l ≡ length (text l)) × (Ending.None ≡ ending l)
  unfolding text ending
  bare_text r = (rw same (ap length (sym (stays CR l (rw r tt)))), rw (q, r))

  pub cr_text : ends_with CR l ≡ true → (length l - 1 ≡ length (text l)) × (Ending.Cr ≡ ending l)
  unfolding text ending
  cr_text r = (
    rw same (omega (arith, length-append (without CR l) (CR ∷ []), ap length (goes CR l (rw r tt)))),
    rw (q, r),
  )

-- ---- with one: what stands before it

module _ (l : Line) (q : ends_with LF l ≡ true) where
  pub lf_inside : (without LF l ≡ take (length l - 1) l) × (length (without LF l) ≡ length l - 1)
  lf_inside =
      let whole : without LF l ++ LF ∷ [] ≡ l = goes LF l (rw q tt) in
      let size : length (without LF l) ≡ length l - 1 = omega (arith, length-append (without LF l) (LF ∷ []), ap length whole) in
      (sym (ap (take (length l - 1)) (sym whole) ∙ take_at (without LF l) (LF ∷ []) (length l - 1) size), size)

  pub lf_text : ends_with CR (take (length l - 1) l) ≡ false → (length l - 1 ≡ length (text l)) × (Ending.Lf ≡ ending l)
  unfolding text ending
  lf_text r =
      let r' : ends_with CR (without LF l) ≡ false = ap (ends_with CR) lf_inside.0 ∙ r in
      (sym (ap length (stays CR (without LF l) (rw r' tt)) ∙ lf_inside.1), rw (q, r'))

  pub crlf_text : ends_with CR (take (length l - 1) l) ≡ true → (length l - 2 ≡ length (text l)) × (Ending.CrLf ≡ ending l)
  unfolding text ending
  crlf_text r =
      let r' : ends_with CR (without LF l) ≡ true = ap (ends_with CR) lf_inside.0 ∙ r in
      let whole : without CR (without LF l) ++ CR ∷ [] ≡ without LF l = goes CR (without LF l) (rw r' tt) in (
        omega (arith, length-append (without CR (without LF l)) (CR ∷ []), ap length whole, lf_inside.1),
        rw (q, r'),
      )

-- ---- by its last bytes

pub bare_by : (l : Line) → (0 < length l → (get_or l (length l - 1) 0 ≡ LF → ⊥) × (get_or l (length l - 1) 0 ≡ CR → ⊥))
    → (length l ≡ length (text l)) × (Ending.None ≡ ending l)
bare_by [] n = bare_text [] refl refl
bare_by (c ∷ l) n =
    let p = n (omega arith) in
    let some : length (c ∷ l) ≡ 0 → ⊥ = λ e. absurd (omega arith) in
    bare_text (c ∷ l) (ends_by LF (c ∷ l) some ∙ ne_eqb _ _ p.0) (ends_by CR (c ∷ l) some ∙ ne_eqb _ _ p.1)

pub cr_by : (l : Line) → 0 < length l → get_or l (length l - 1) 0 ≡ CR → (length l - 1 ≡ length (text l)) × (Ending.Cr ≡ ending l)
cr_by l h e =
    let some : length l ≡ 0 → ⊥ = λ e. absurd (omega arith) in
    cr_text l (ends_by LF l some ∙ rw e refl) (ends_by CR l some ∙ rw e refl)

-- whether a CR stands before the LF
before : (l : Line) → 2 ≤ length l → ends_with CR (take (length l - 1) l) ≡ eqb (get_or l (length l - 2) 0) CR
before l h =
    let size : length (take (length l - 1) l) ≡ length l - 1 = length-take-le (length l - 1) l (omega arith) in
    let place : length l - 1 - 1 ≡ length l - 2 = omega arith in
    let byte : get_or (take (length l - 1) l) (length l - 2) 0 ≡ get_or l (length l - 2) 0 = get_or-take (length l - 1) l (length l - 2) 0 (omega arith) in
    rw (size, place, byte) at (ends_by CR (take (length l - 1) l) (λ e. absurd (omega (arith, size))))

pub crlf_by : (l : Line) → 2 ≤ length l → get_or l (length l - 2) 0 ≡ CR → get_or l (length l - 1) 0 ≡ LF
    → (length l - 2 ≡ length (text l)) × (Ending.CrLf ≡ ending l)
crlf_by l h cr lf = crlf_text l (ends_by LF l (λ e. absurd (omega arith)) ∙ rw lf refl) (before l h ∙ rw cr refl)

pub lf_by : (l : Line) → 0 < length l → get_or l (length l - 1) 0 ≡ LF → (2 ≤ length l → get_or l (length l - 2) 0 ≡ CR → ⊥)
    → (length l - 1 ≡ length (text l)) × (Ending.Lf ≡ ending l)
lf_by l h lf n = lf_text l (ends_by LF l (λ e. absurd (omega arith)) ∙ rw lf refl) (by (leb 2 (length l)) refl)
  where
    by : (b : Bool) → leb 2 (length l) ≡ b → ends_with CR (take (length l - 1) l) ≡ false
    by true e = let k = leb-true 2 (length l) e in before l k ∙ ne_eqb _ _ (n k)
    by false e =
        let k = leb-false 2 (length l) e in
        ends_empty CR (take (length l - 1) l) (length-take-le (length l - 1) l (omega arith) ∙ omega (arith, k))
