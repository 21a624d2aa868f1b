-- The indented, non-blank lines from a place on, line by line: what is handed on is indented as its first line is. Assumes nothing.
use mathlib.Core.Bool.{true, false, false≢true}
use mathlib.Core.List.{List, [], ◌∷◌}
use mathlib.Core.Path.{◌≡◌, refl, ◌∙◌}
use Prim.Native.Nat.{ℕ, zero, suc, ◌+◌, ◌-◌, ◌<◌}
use native.Mathlib.Omega.{arith}
use lib.ListN.{length, take, drop, length-append, length-drop}
use Rattle.rules.specs.Bytes.{blank_byte}
use Rattle.rules.specs.Lines.{Line, folds, indented, lines}
use Rattle.rules.specs.Lists.{all, join, run}
use Rattle.rules.proofs.Parts.{rest}
use Rattle.text.specs.Lines.{first_length}
use Rattle.text.proofs.ByLines.{line_length, line_some, line_then}
use Rattle.text.proofs.Lines.{blank-all, first_line, first_some}

filled : (s : List ℕ) → indented s ≡ true → 0 < length s
unfolding indented
filled [] e = absurd (false≢true e)
filled (c ∷ s) e = omega arith

front : (k : ℕ) (s : List ℕ) → 0 < k → indented (take k s) ≡ indented s
unfolding indented
front zero s h = absurd (omega arith)
front (suc k) [] h = refl
front (suc k) (c ∷ s) h = refl

-- how long they are from `at` on
abbrev pub folds_length : List ℕ → ℕ
folds_length s = length (join (run folds (lines s)))

none : (s : List ℕ) → indented s ≡ false → folds_length s ≡ 0
unfolding folds
none [] e = refl
none (c ∷ s) e =
    let n = first_length (lines (c ∷ s)) in
    let some : 0 < n = first_some (c ∷ s) (omega arith) in
    rw (first_line (c ∷ s) (omega arith), front n (c ∷ s) some, e)

module _ (s : List ℕ) (at : ℕ) where
  pub folds_none : indented (take (length s - at) (drop at s)) ≡ false → folds_length (drop at s) ≡ 0
  folds_none e = none (drop at s) (rw rest at e)

  pub folds_ahead : indented (take (length s - at) (drop at s)) ≡ true → at < length s
  folds_ahead e = omega (arith, filled (drop at s) (rw rest at e), length-drop at s)

  -- a line of `n` bytes that is indented: blank, it ends them; otherwise it is passed with its bytes
  module _ (n : ℕ) (i : indented (take (length s - at) (drop at s)) ≡ true) (e : n ≡ first_length (lines (take (length s - at) (drop at s)))) where
    starts : indented (take (at + n - at) (drop at s)) ≡ true
    starts =
        let k : at + n - at ≡ n = omega arith in
        rw k (front n (drop at s) (line_some s at n (folds_ahead i) e) ∙ (rw rest at i))

    pub folds_stop : all blank_byte (take (at + n - at) (drop at s)) ≡ true → folds_length (drop at s) ≡ 0
    unfolding folds
    folds_stop b = rw (line_then s at n (folds_ahead i) e, starts, blank-all, b)

    pub folds_go : all blank_byte (take (at + n - at) (drop at s)) ≡ false → folds_length (drop at s) ≡ n + folds_length (drop (at + n) s)
    unfolding folds
    folds_go b =
        let l : List ℕ = take (at + n - at) (drop at s) in
        let ls : List Line = lines (drop (at + n) s) in
        rw (line_then s at n (folds_ahead i) e, starts, blank-all, b) (length-append l (join (run folds ls)) ∙ rw (line_length s at n (folds_ahead i) e))
