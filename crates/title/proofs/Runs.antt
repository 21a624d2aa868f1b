-- Runs in which no LF is followed by LF or CR: all but their last two bytes are in the title. Assumes nothing.
use mathlib.Core.Bool.{Bool, true, false, or-false, ◌||◌}
use mathlib.Core.List.{List, [], ◌∷◌}
use mathlib.Core.Path.{◌≡◌, refl, sym, ap, ◌∙◌}
use Prim.Native.Nat.{ℕ, zero, suc, ◌+◌, ◌≤◌, ◌<◌}
use native.Mathlib.Omega.{arith}
use borrow.Author.Tests.{eqb-true, eqb-false, ne_eqb}
use lib.Dec.{eqb}
use lib.ListN.{length, take, drop, get_or, length-drop}
use lib.Seq.{drop-drop}
use Rattle.rules.specs.Bytes.{CR, LF}
use Rattle.rules.specs.Lists.{starts}
use Rattle.rules.specs.Title.{line_end, two_ends}
use Rattle.rules.proofs.Lists.{or_none}
use Rattle.rules.proofs.White.{starts_is}
use Rattle.title.specs.Runs.{InTitle, any_meets, meets}
use Rattle.title.proofs.ByLines.{crlf_front, goes_on, lf_front, no_front, no_two, two_front}

-- ---- what is left of a run at its end: no LF with LF or CR after it

pub read_over : (s : List ℕ) (found : Bool) → length s < 2 → (found || any_meets s) ≡ found
read_over [] found h = or-false found
read_over (c ∷ []) found h = or-false found
read_over (c ∷ d ∷ s) found h = absurd (omega arith)

-- ---- two line ends begin at a byte only if it or the next one is an LF with LF or CR after it

no_end : (c d : ℕ) (s : List ℕ) → c ≡ LF → meets c d ≡ false → line_end (d ∷ s) ≡ 0
no_end c d s h e =
    let (l, r) = or_none (eqb d LF) (eqb d CR) (rw h at e) in
    no_front d s (eqb-false d LF l) (rw (ne_eqb CR d (λ k. eqb-false d CR r (sym k))))

no_ends : (c d e : ℕ) (s : List ℕ) → meets c d ≡ false → meets d e ≡ false → two_ends (c ∷ d ∷ e ∷ s) ≡ 0
no_ends c d e s p q = by (starts (CR ∷ LF ∷ []) (c ∷ d ∷ e ∷ s)) refl (eqb c LF) refl
  where
    by : (a : Bool) → starts (CR ∷ LF ∷ []) (c ∷ d ∷ e ∷ s) ≡ a → (b : Bool) → eqb c LF ≡ b → two_ends (c ∷ d ∷ e ∷ s) ≡ 0
    by true x b y =
        let crlf : c ∷ d ∷ e ∷ s ≡ CR ∷ LF ∷ e ∷ s = starts_is (CR ∷ LF ∷ []) (c ∷ d ∷ e ∷ s) (rw x tt) in
        let lf : d ≡ LF = ap (λ (l : List ℕ). get_or l 1 0) crlf in
        ap two_ends crlf ∙ two_front (CR ∷ LF ∷ e ∷ s) 1 0 (crlf_front (e ∷ s)) (no_end d e s lf q)
    by false x true y =
        let lf : c ≡ LF = eqb-true c LF y in
        rw lf (two_front (LF ∷ d ∷ e ∷ s) 0 0 (lf_front (d ∷ e ∷ s)) (no_end c d (e ∷ s) lf p))
    by false x false y = no_two (c ∷ d ∷ e ∷ s) (no_front c (d ∷ e ∷ s) (eqb-false c LF y) x)

-- ---- bytes in the title: a run but for its last two, and more of what comes after

pub run_passed : (n : ℕ) (s : List ℕ) → suc (suc n) ≤ length s → any_meets (take (suc (suc n)) s) ≡ false → InTitle s n
run_passed zero s h e = omega arith
run_passed (suc n) [] h e = absurd (omega arith)
run_passed (suc n) (c ∷ []) h e = absurd (omega arith)
run_passed (suc n) (c ∷ d ∷ []) h e = absurd (omega arith)
run_passed (suc n) (c ∷ d ∷ f ∷ s) h e =
    let (p, r) = or_none (meets c d) (any_meets (d ∷ f ∷ take n s)) e in
    let (q, _) = or_none (meets d f) (any_meets (f ∷ take n s)) r in
    omega (arith, goes_on c (d ∷ f ∷ s) (no_ends c d f s p q), run_passed n (d ∷ f ∷ s) (omega arith) r)

pub further : (s : List ℕ) (i k : ℕ) → InTitle s i → InTitle (drop i s) k → InTitle s (i + k)
further s i k p q = let r = rw drop-drop at q in omega (arith, p, r, length-drop i s)
