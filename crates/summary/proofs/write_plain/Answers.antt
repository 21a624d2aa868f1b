-- `summary::write_plain` meets its contract. Assumes nothing.
use mathlib.Core.List.{List}
use mathlib.Core.Bool.{false}
use mathlib.Core.Path.{◌≡◌, ap, ◌∙◌}
use Prim.Native.Nat.{ℕ, ◌≤◌, ◌<◌}
use native.Mathlib.Omega.{arith}
use borrow.Author.Tests.{lt-ltb, le-ltb}
use lib.ListN.{length, length-map}
use Rattle.rules.specs.Summary.{added, pieces}
use Rattle.summary.specs.Followed.{any_followed}
use Rattle.summary.specs.Spaces.{space_for_lf, with_spaces}
use Rattle.summary.proofs.InOne.{in_one_lem, in_one_plain}
use Rattle.summary.proofs.write_plain.Goals as goal

spaces : (s : List ℕ) → any_followed 0 32 s ≡ false → (added (pieces s) ≡ with_spaces s) × (length (added (pieces s)) ≡ length s)
spaces s e = let k : added (pieces s) ≡ with_spaces s = in_one_lem s ∙ in_one_plain s e in (k, ap length k ∙ length-map s space_for_lf)

pub returns-then-out-needed : goal.returns-then-out-needed
returns-then-out-needed c =
    let (k, size) = spaces c.args.text.now c.requires in
    let short : length c.args.out.now < length (added (pieces c.args.text.now)) = omega arith in
    record { value = rw (lt-ltb _ _ short, size); out_after = rw (lt-ltb _ _ short) }

pub returns : goal.returns
returns c =
    let (k, size) = spaces c.args.text.now c.requires in
    let enough : length (added (pieces c.args.text.now)) ≤ length c.args.out.now = omega arith in
    record { value = rw (le-ltb _ _ enough, size); out_after = rw (le-ltb _ _ enough, size, k) c.copy_with_spaces.ensures }
