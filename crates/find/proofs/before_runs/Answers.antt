-- `find::before_runs` meets its contract. The invariant: a search back from `i` finds what one from `end` finds. Assumes nothing.
use mathlib.Core.Bool.{false}
use mathlib.Core.Path.{◌≡◌, sym, ◌∙◌}
use Prim.Native.Nat.{◌+◌, ◌-◌, ◌≤◌}
use native.Mathlib.Omega.{arith}
use borrow.Author.Rules.{rules}
use lib.ListN.{take, drop}
use Rattle.rules.specs.Lists.{any}
use Rattle.find.specs.Find.{behind_lf, is_lf}
use Rattle.find.proofs.Runs.{before_run}
use Rattle.find.proofs.Words.{before_part}
use Rattle.find.proofs.before_runs.Goals as goal
use Rattle.find.proofs.before_runs.Goals.{After-before_blocks-i, Else-has_lf}

-- the run before `i` has no LF
before_the_run : (c : Else-has_lf) → let s = c.args.s.now in
    behind_lf s (c.loop-i.i - 16) ≡ behind_lf s c.args.end
before_the_run c =
    let s = c.args.s.now in
    let i = c.loop-i.i in
    let size : i - (i - 16) ≡ 16 = omega arith in
    let end : i - 16 + 16 ≡ i = omega arith in
    let none : any is_lf (take 16 (drop (i - 16) s)) ≡ false = rw size at (sym c.has_lf.ensures ∙ c.if-has_lf.false) in
    (rw end at (before_run 16 s (i - 16) (search rules) none)) ∙ c.loop-i.invariant.1

-- the blocks passed over before that run have none either
before_the_blocks : (c : After-before_blocks-i) → let s = c.args.s.now in
    let j = c.before_blocks-i.result in
    behind_lf s (c.loop-i.i - 16) ≡ behind_lf s c.args.end
    → (j ≤ c.loop-i.i - 16) × (behind_lf s j ≡ behind_lf s c.args.end)
before_the_blocks c run =
    let p = before_part c.args.s.now (c.loop-i.i - 16) (search rules) c.before_blocks-i.ensures.passes_no_lf in
    (p.0, p.1 ∙ run)

pub loop-i-preserved-then-end-i-eq-BLOCK : goal.loop-i-preserved-then-end-i-eq-BLOCK
loop-i-preserved-then-end-i-eq-BLOCK c =
    let p = before_the_blocks c (before_the_run (goal.at.loop-i-preserved-then-end-i-eq-BLOCK c).Else-has_lf) in search rules

pub loop-i-preserved : goal.loop-i-preserved
loop-i-preserved c = (search rules, before_the_run (goal.at.loop-i-preserved c).Else-has_lf)
