-- `find::behind_lf_far` meets its contract. Assumes nothing.
use mathlib.Core.List.{List}
use mathlib.Core.Path.{◌≡◌}
use Prim.Native.Nat.{ℕ, ◌+◌, ◌-◌, ◌≤◌}
use native.Mathlib.Omega.{arith}
use lib.ListN.{length, take, drop, length-drop}
use lib.Seq.{length-take-le, take_all}
use Rattle.find.specs.Find.{behind_lf}
use Rattle.find.proofs.Words.{behind_fits, last_of_part, some_last}
use borrow.Author.Rules.{rules}
use Rattle.find.proofs.behind_lf_far.Goals as goal
use Rattle.find.proofs.behind_lf_far.Goals.{After-behind_lf_of_run}

abbrev from : After-behind_lf_of_run → ℕ
from c = c.before_runs-i.result

abbrev whole : After-behind_lf_of_run → List ℕ
whole c = c.args.s.now

abbrev part : After-behind_lf_of_run → List ℕ
part c = take 16 (drop (from c - 16) (whole c))

-- the run there has the last LF
there : (c : After-behind_lf_of_run) → from c - 16 + c.behind_lf_of_run.result ≡ behind_lf (whole c) c.args.end
there c =
    let s = whole c in let i = from c in
    let h : 16 ≤ i = c.if-i-ge-RUN.true in
    let size : i - (i - 16) ≡ 16 = omega arith in
    let end : i - 16 + 16 ≡ i = omega arith in
    let k : c.behind_lf_of_run.result ≡ behind_lf (part c) 16 = rw size at c.behind_lf_of_run.ensures in
    let full : length (part c) ≡ 16 = length-take-le 16 (drop (i - 16) s) (simp length-drop (omega (arith, c.before_runs-i.ensures.passes_no_lf.0, c.requires))) in
    let some = some_last (part c) 16 (omega (arith, full)) (rw (take_all 16 (part c) (omega (arith, full))) (c.before_runs-i.ensures.stops_at_lf h)) in
    let last = rw end at ((last_of_part 16 (i - 16) s).0 some) in
    omega (arith, k, last, c.before_runs-i.ensures.passes_no_lf.1)

pub overflow_add-result : goal.overflow_add-result
overflow_add-result c =
    let k = there c in
    let f = behind_fits (whole c) c.args.end in
    search rules

pub returns-then-i-ge-RUN : goal.returns-then-i-ge-RUN
returns-then-i-ge-RUN c = there c
