-- The bytes that pass before the first that does not, by parts. Assumes nothing.
use mathlib.Core.Bool.{Bool, true, false}
use mathlib.Core.List.{List, [], ◌∷◌}
use mathlib.Core.Path.{◌≡◌, refl, ap}
use Prim.Native.Nat.{ℕ, zero, suc, ◌+◌, ◌≤◌, ◌<◌}
use native.Mathlib.Omega.{arith}
use lib.ListN.{length, take, drop}
use Rattle.rules.specs.Lists.{run}

module _ (q : ℕ → Bool) where
  -- by the first k bytes: one of them does not pass, or all do
  pub of_part : (k : ℕ) (s : List ℕ) → k ≤ length s
      → (length (run q (take k s)) < k → length (run q s) ≡ length (run q (take k s))) × (k ≤ length (run q (take k s)) → k ≤ length (run q s))
  of_part zero s h = (λ x. absurd (omega arith), λ x. omega arith)
  of_part (suc k) [] h = absurd (omega arith)
  of_part (suc k) (x ∷ s) h = by (q x) refl (of_part k s (omega arith))
    where
      by : (b : Bool) → q x ≡ b
          → (length (run q (take k s)) < k → length (run q s) ≡ length (run q (take k s))) × (k ≤ length (run q (take k s)) → k ≤ length (run q s))
          → (length (run q (x ∷ take k s)) < suc k → length (run q (x ∷ s)) ≡ length (run q (x ∷ take k s)))
          × (suc k ≤ length (run q (x ∷ take k s)) → suc k ≤ length (run q (x ∷ s)))
      by false t r = (λ y. rw t, λ y. absurd (let z : suc k ≤ 0 = rw t at y in omega arith))
      by true t r = (
        λ y. let z : suc (length (run q (take k s))) < suc k = rw t at y in rw t (ap suc (r.0 (omega arith))),
        λ y. let z : suc k ≤ suc (length (run q (take k s))) = rw t at y in let w = r.1 (omega arith) in rw t (omega arith),
      )

  -- after bytes that pass
  pub later : (j : ℕ) (s : List ℕ) → j ≤ length (run q s) → j + length (run q (drop j s)) ≡ length (run q s)
  later zero s h = omega arith
  later (suc j) [] h = absurd (omega arith)
  later (suc j) (x ∷ s) h = by (q x) refl (later j s)
    where
      by : (b : Bool) → q x ≡ b → (j ≤ length (run q s) → j + length (run q (drop j s)) ≡ length (run q s))
          → suc j + length (run q (drop j s)) ≡ length (run q (x ∷ s))
      by false t r = absurd (let z : suc j ≤ 0 = rw t at h in omega arith)
      by true t r = let z : suc j ≤ suc (length (run q s)) = rw t at h in let w = r (omega arith) in rw t (omega arith)
