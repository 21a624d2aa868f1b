-- The longest run of bytes that pass a test. Assumes nothing.
use Rattle.std.specs.Prelude.{cond, if◌then◌else◌}
use Rattle.std.specs.List.{prefix_len}
use mathlib.Core.Bool.{Bool, true, false, not}
use mathlib.Core.List.{List, [], ◌∷◌}
use mathlib.Core.Path.{◌≡◌, refl, sym, ap, ◌∙◌}
use Prim.Native.Nat.{ℕ, suc, ◌+◌}
use native.Mathlib.Omega.{arith}
use borrow.Author.Tests.{ne_eqb}
use lib.Dec.{eqb}
use lib.ListN.{length, drop}
use lib.Seq.{drop-append_seam}
use Rattle.rules.specs.Lists.{first, past, run}
use Rattle.rules.proofs.Lists.{run_past}

-- how long it is, as std counts it
pub run_prefix : (p : ℕ → Bool) (s : List ℕ) → prefix_len p s ≡ length (run p s)
run_prefix p [] = refl
run_prefix p (c ∷ s) = elim (p c) as (λ b. cond b (1 + prefix_len p s) 0 ≡ length (if b then c ∷ run p s else [])) [
  | true ↦ omega (arith, run_prefix p s)
  | false ↦ refl
]

-- what is behind it
pub behind_run : (p : ℕ → Bool) (s : List ℕ) → drop (length (run p s)) s ≡ past p s
behind_run p s = ap (drop (length (run p s))) (sym (run_past p s)) ∙ drop-append_seam (run p s) (past p s)

-- there is one where the first byte passes
pub first_run : (p : ℕ → Bool) (s : List ℕ) → first p s ≡ not (eqb (length (run p s)) 0)
first_run p [] = refl
first_run p (c ∷ s) = elim (p c) as (λ b. b ≡ not (eqb (length (if b then c ∷ run p s else [])) 0)) [
  | true ↦ sym (ap not (ne_eqb (suc (length (run p s))) 0 (λ e. omega arith)))
  | false ↦ refl
]
