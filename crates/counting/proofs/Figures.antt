-- The laws of the report: the seven counts sum to the trailers; it is added up over the messages; their order doesn't matter.
-- Assumes nothing.
use Rattle.std.specs.Prelude.{if◌then◌else◌}
use mathlib.Core.Bool.{Bool, true, false}
use mathlib.Core.List.{List, [], ◌∷◌, ◌++◌, Perm, Permᴰ}
use mathlib.Core.Logic.{∥∥₁_elim}
use native.Mathlib.Nat.{ℕ_set}
use mathlib.Core.Path.{◌≡◌, refl, ap, ◌∙◌}
use Prim.Native.Nat.{ℕ, zero, suc, ◌+◌, ◌≤◌}
use native.Mathlib.Omega.{arith}
use lib.Dec.{eqb}
use lib.ListN.{length}
use Rattle.rules.specs.Bytes.{bytes}
use Rattle.rules.specs.Paragraph.{message_trailers}
use Rattle.rules.specs.Trailer.{Trailer, attribution_tokens, same, token_of}
use Rattle.counting.specs.Report.{across, counts_of, figure_of, having, number_of, plus, report_of, seven_of, sum, trailer_count, which_of, without}

-- ---- one trailer counts once

which_le : (names : List (List ℕ)) (token : List ℕ) → which_of names token ≤ length names
which_le [] token = omega arith
which_le (n ∷ names) token =
    let le : which_of names token ≤ length names = which_le names token in
    elim (same token n) as (λ b. (if b then 0 else suc (which_of names token)) ≤ suc (length names)) [ true ↦ omega arith | false ↦ omega arith ]

pub figure_le : (token : List ℕ) → figure_of token ≤ 6
unfolding figure_of
figure_le token = which_le attribution_tokens token

-- name by name
pub figure_is : (token : List ℕ) → figure_of token ≡ (if same token (bytes "Signed-off-by") then 0 else if same token (bytes "Co-authored-by") then 1 else if same token (bytes "Assisted-by") then 2 else if same token (bytes "Acked-by") then 3 else if same token (bytes "Reviewed-by") then 4 else if same token (bytes "Tested-by") then 5 else 6)
unfolding figure_of
figure_is token = later (same token (bytes "Signed-off-by")) (same token (bytes "Co-authored-by")) (same token (bytes "Assisted-by")) (same token (bytes "Acked-by")) (same token (bytes "Reviewed-by")) (same token (bytes "Tested-by"))
  where
    later : (a b c d e f : Bool) → (if a then 0 else suc (if b then 0 else suc (if c then 0 else suc (if d then 0 else suc (if e then 0 else suc (if f then 0 else suc 0)))))) ≡ (if a then 0 else if b then 1 else if c then 2 else if d then 3 else if e then 4 else if f then 5 else 6)
    later true b c d e f = refl
    later false true c d e f = refl
    later false false true d e f = refl
    later false false false true e f = refl
    later false false false false true f = refl
    later false false false false false true = refl
    later false false false false false false = refl

one_figure : (k : ℕ) → k ≤ 6 → (n0 n1 n2 n3 n4 n5 n6 : ℕ) → sum (((if eqb k 0 then 1 else 0) + n0) ∷ ((if eqb k 1 then 1 else 0) + n1) ∷ ((if eqb k 2 then 1 else 0) + n2) ∷ ((if eqb k 3 then 1 else 0) + n3) ∷ ((if eqb k 4 then 1 else 0) + n4) ∷ ((if eqb k 5 then 1 else 0) + n5) ∷ ((if eqb k 6 then 1 else 0) + n6) ∷ []) ≡ suc (sum (n0 ∷ n1 ∷ n2 ∷ n3 ∷ n4 ∷ n5 ∷ n6 ∷ []))
one_figure zero h n0 n1 n2 n3 n4 n5 n6 = omega arith
one_figure (suc zero) h n0 n1 n2 n3 n4 n5 n6 = omega arith
one_figure (suc (suc zero)) h n0 n1 n2 n3 n4 n5 n6 = omega arith
one_figure (suc (suc (suc zero))) h n0 n1 n2 n3 n4 n5 n6 = omega arith
one_figure (suc (suc (suc (suc zero)))) h n0 n1 n2 n3 n4 n5 n6 = omega arith
one_figure (suc (suc (suc (suc (suc zero))))) h n0 n1 n2 n3 n4 n5 n6 = omega arith
one_figure (suc (suc (suc (suc (suc (suc zero)))))) h n0 n1 n2 n3 n4 n5 n6 = omega arith
one_figure (suc (suc (suc (suc (suc (suc (suc k))))))) h n0 n1 n2 n3 n4 n5 n6 = absurd (omega arith)

pub seven_sum : (ts : List Trailer) → sum (seven_of ts) ≡ length ts
seven_sum [] = refl
seven_sum (t ∷ ts) =
    one_figure (figure_of (token_of t)) (figure_le (token_of t)) (number_of 0 ts) (number_of 1 ts) (number_of 2 ts) (number_of 3 ts) (number_of 4 ts) (number_of 5 ts) (number_of 6 ts)
    ∙ ap suc (seven_sum ts)

-- ---- added up over the messages

-- "The seven sum to the trailers that the single walks of the first reading find"
pub counts_sum : (ms : List (List ℕ)) → sum (counts_of ms) ≡ across trailer_count ms
counts_sum [] = refl
counts_sum (m ∷ ms) = omega (arith, seven_sum (message_trailers m), counts_sum ms)

pub across-append : (f : List ℕ → ℕ) (ms ns : List (List ℕ)) → across f (ms ++ ns) ≡ across f ms + across f ns
across-append f [] ns = omega arith
across-append f (m ∷ ms) ns = omega (arith, across-append f ms ns)

-- the report of messages and more messages is the sum of their reports, number by number
pub report_append : (ms ns : List (List ℕ)) → report_of (ms ++ ns) ≡ plus (report_of ms) (report_of ns)
report_append ms ns = simp across-append

-- ---- "the order of messages doesn't matter"

across_perm : (f : List ℕ → ℕ) {ms ns : List (List ℕ)} → Permᴰ ms ns → across f ms ≡ across f ns
across_perm f Permᴰ.nil = refl
across_perm f (Permᴰ.cons e p) = omega (arith, ap f e, across_perm f p)
across_perm f (Permᴰ.swap e d) = omega (arith, ap f e, ap f d)
across_perm f (Permᴰ.trans p q) = across_perm f p ∙ across_perm f q

pub across_order : (f : List ℕ → ℕ) {ms ns : List (List ℕ)} → Perm ms ns → across f ms ≡ across f ns
across_order f {ms} {ns} p = ∥∥₁_elim p (ℕ_set (across f ms) (across f ns)) (across_perm f)

-- every permutation of the messages has the same report
pub report_order : (ms ns : List (List ℕ)) → Perm ms ns → report_of ms ≡ report_of ns
report_order ms ns p = rw (across_order (having 0) p, across_order (having 1) p, across_order (having 2) p, across_order (having 3) p, across_order (having 4) p, across_order (having 5) p, across_order (having 6) p, across_order without p)
