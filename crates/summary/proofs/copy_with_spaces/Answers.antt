-- `summary::copy_with_spaces` meets its contract. The invariant: the first `i` bytes are in `out`. Assumes nothing.
use mathlib.Core.List.{List}
use mathlib.Core.Path.{◌≡◌, sym, ap, ◌∙◌}
use Prim.Native.Nat.{ℕ, ◌+◌, ◌≤◌, ◌<◌}
use native.Mathlib.Nat.{zero-add}
use native.Mathlib.Numerals.{add-one}
use native.Mathlib.Omega.{arith}
use lib.ListN.{length, get_or, set, length-map, length-set, get_or-map}
use lib.Seq.{paste, paste-suc}
use Rattle.summary.specs.Spaces.{space_for_lf, with_spaces}
use Rattle.summary.proofs.copy_with_spaces.Goals as goal

next : (d m : List ℕ) (i b : ℕ) → i < length m → length m ≤ length d → b ≡ space_for_lf (get_or m i 0)
    → set (paste d 0 (with_spaces m) i) i b ≡ paste d 0 (with_spaces m) (i + 1)
next d m i b h k e =
    let g : b ≡ get_or (with_spaces m) i 0 = e ∙ sym (get_or-map space_for_lf m i 0) in
    let p = paste-suc d 0 (with_spaces m) i 0 (omega arith) (omega (arith, length-map m space_for_lf)) in
    rw (g, add-one i) (ap (λ (j : ℕ). set (paste d 0 (with_spaces m) i) j (get_or (with_spaces m) i 0)) (sym (zero-add i)) ∙ p)

pub loop-i-preserved : goal.loop-i-preserved
loop-i-preserved c =
    let a = c.args in (
      simp length-set c.loop-i.invariant.0,
      rw c.loop-i.invariant.1 (next a.out.now a.message.now c.loop-i.i c.space_for_lf.result (omega arith) c.requires c.space_for_lf.ensures),
    )
