-- `find::find_lf` meets its contract. The invariant: a search from `i` on finds what one from `at` on finds. Assumes nothing.
use mathlib.Core.Bool.{false}
use mathlib.Core.Path.{◌≡◌, sym, ◌∙◌}
use Prim.Native.Nat.{◌+◌, ◌-◌, ◌≤◌}
use native.Mathlib.Omega.{arith}
use borrow.Author.Rules.{rules}
use lib.ListN.{length, take, drop}
use Rattle.rules.proofs.Parts.{rest}
use Rattle.rules.specs.Lists.{any}
use Rattle.find.specs.Find.{is_lf, until_lf}
use Rattle.find.proofs.Runs.{past_end, past_part, past_run, until_fits}
use Rattle.find.proofs.find_lf.Goals as goal
use Rattle.find.proofs.find_lf.Goals.{After-past_blocks-i, After-until_lf_of_part-2, Else-has_lf}

-- the run at `i` has no LF
past_the_run : (c : Else-has_lf) → let s = c.args.s.now in
    let at = c.args.at in
    c.loop-i.i + 16 + until_lf (drop (c.loop-i.i + 16) s) ≡ at + until_lf (drop at s)
past_the_run c =
    let s = c.args.s.now in
    let i = c.loop-i.i in
    let size : i + 16 - i ≡ 16 = omega arith in
    let none : any is_lf (take 16 (drop i s)) ≡ false = rw size at (sym c.has_lf.ensures ∙ c.if-has_lf.false) in
    omega (arith, past_run 16 s i (search rules) none, c.loop-i.invariant.3)

-- the blocks passed over after that run have none either
past_the_blocks : (c : After-past_blocks-i) → let s = c.args.s.now in
    let at = c.args.at in
    let j = c.loop-i.i + 16 + c.past_blocks-i.result in
    c.loop-i.i + 16 + until_lf (drop (c.loop-i.i + 16) s) ≡ at + until_lf (drop at s)
    → (j ≤ length s) × (j + until_lf (drop j s) ≡ at + until_lf (drop at s))
past_the_blocks c run =
    let p = past_part c.args.s.now (c.loop-i.i + 16) (search rules) c.past_blocks-i.ensures.passes_no_lf in
    (p.0, p.1 ∙ run)

pub loop-i-preserved-then-i-at-eq-BLOCK : goal.loop-i-preserved-then-i-at-eq-BLOCK
loop-i-preserved-then-i-at-eq-BLOCK c = let p = past_the_blocks c (past_the_run (goal.at.loop-i-preserved-then-i-at-eq-BLOCK c).Else-has_lf) in search rules

pub loop-i-preserved : goal.loop-i-preserved
loop-i-preserved c = let p = past_the_run (goal.at.loop-i-preserved c).Else-has_lf in search rules

-- the last run has none
pub returns-then-not-has_lf : goal.returns-then-not-has_lf
returns-then-not-has_lf c =
    let s = c.args.s.now in
    let none : any is_lf (drop (length s - 16) s) ≡ false = rw (rest s (length s - 16)) at (sym c.has_lf-then-len-at-ge-RUN.ensures ∙ c.if-not-has_lf.true) in
    omega (arith, past_end s (length s - 16) c.loop-i.i (search rules) (search rules) none, c.loop-i.invariant.3)

-- what is left has it, or none is there
in_the_rest : (c : After-until_lf_of_part-2) → let s = c.args.s.now in
    let at = c.args.at in
    (c.loop-i.i + c.until_lf_of_part-2.result ≡ at + until_lf (drop at s)) × (at + until_lf (drop at s) ≤ length s)
in_the_rest c =
    let s = c.args.s.now in
    let there : c.until_lf_of_part-2.result ≡ until_lf (drop c.loop-i.i s) = rw (rest s c.loop-i.i) at c.until_lf_of_part-2.ensures in
    (omega (arith, there, c.loop-i.invariant.3), until_fits s c.args.at (search rules))

pub overflow_add-result-2 : goal.overflow_add-result-2
overflow_add-result-2 c = let k = in_the_rest c in search rules
