-- `find::until_lf_of_part` meets its contract. Assumes nothing.
use mathlib.Core.List.{List}
use mathlib.Core.Path.{◌≡◌}
use Prim.Native.Nat.{ℕ, ◌+◌, ◌-◌, ◌≤◌}
use native.Mathlib.Omega.{arith}
use lib.ListN.{length, drop}
use Rattle.rules.proofs.Parts.{rest}
use Rattle.word.proofs.Passing.{later, of_part}
use Rattle.find.specs.Find.{other, until_lf}
use Rattle.find.proofs.until_lf_of_part.Goals as goal
use Rattle.find.proofs.until_lf_of_part.Goals.{After-until_lf_of_word}

abbrev whole : After-until_lf_of_word → List ℕ
whole c = c.args.part.now

-- the first eight bytes have no LF, so the last eight have the first
second : (c : After-until_lf_of_word) → length (whole c) - 8 + c.until_lf_of_word.result ≡ until_lf (whole c)
second c =
    let s = whole c in
    let none : 8 ≤ until_lf s = (of_part other 8 s (omega arith)).1 (omega (arith, c.until_lf_of_word-first.ensures)) in
    let there : c.until_lf_of_word.result ≡ until_lf (drop (length s - 8) s) = rw (rest s (length s - 8)) at c.until_lf_of_word.ensures in
    omega (arith, there, later other (length s - 8) s (omega (arith, c.requires)))

pub returns : goal.returns
returns c = second c
