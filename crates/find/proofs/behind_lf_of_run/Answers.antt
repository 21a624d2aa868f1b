-- `find::behind_lf_of_run` meets its contract. Assumes nothing.
use mathlib.Core.List.{List}
use mathlib.Core.Path.{◌≡◌, sym, ◌∙◌}
use Prim.Native.Nat.{ℕ, ◌-◌}
use native.Mathlib.Omega.{arith}
use lib.ListN.{length, take, drop}
use Rattle.find.specs.Find.{behind_lf}
use Rattle.find.proofs.Words.{behind_fits, behind_taken, last_of_part}
use Rattle.find.proofs.behind_lf_of_run.Goals as goal
use Rattle.find.proofs.behind_lf_of_run.Goals.{After-behind_lf_of_word-second}

abbrev whole : After-behind_lf_of_word-second → List ℕ
whole c = c.args.run.now

second : (c : After-behind_lf_of_word-second) → c.behind_lf_of_word-second.result ≡ behind_lf (take 8 (drop 8 (whole c))) 8
second c = let size : length (whole c) - 8 ≡ 8 = omega (arith, c.requires) in rw size at c.behind_lf_of_word-second.ensures

pub overflow_add-result : goal.overflow_add-result
overflow_add-result c =
    let r = (goal.at.overflow_add-result c).After-behind_lf_of_word-second in
    omega (arith, second r, behind_fits (take 8 (drop 8 (whole r))) 8)

pub returns-then-second-gt0 : goal.returns-then-second-gt0
returns-then-second-gt0 c =
    let r = (goal.at.returns-then-second-gt0 c).After-behind_lf_of_word-second in
    let there = second r in
    rw there (sym ((last_of_part 8 8 (whole r)).0 (omega (arith, there))))

pub returns : goal.returns
returns c =
    let r = (goal.at.returns c).After-behind_lf_of_word-second in
    let s = whole r in
    let none : behind_lf (take 8 (drop 8 s)) 8 ≡ 0 = omega (arith, second r) in
    c.behind_lf_of_word.ensures ∙ behind_taken s 8 8 (omega arith) ∙ sym ((last_of_part 8 8 s).1 none)
