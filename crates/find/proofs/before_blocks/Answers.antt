-- `find::before_blocks` meets its contract. The invariant: the blocks before `start` are left, and a search back from there finds what one
-- from the end finds. Assumes nothing.
use mathlib.Core.Bool.{false}
use mathlib.Core.List.{◌++◌}
use mathlib.Core.Path.{◌≡◌, sym, ap, ◌∙◌}
use Prim.Native.Nat.{◌+◌, ◌-◌, ◌≤◌}
use native.Mathlib.Omega.{arith}
use lib.ListN.{length, take, drop, length-append}
use Rattle.rules.specs.Lists.{any}
use Rattle.find.specs.Find.{is_lf}
use Rattle.find.proofs.Runs.{before_run, cut_back}
use Rattle.find.proofs.before_blocks.Goals as goal
use Rattle.find.proofs.before_blocks.Goals.{After-has_lf}

-- the block is the last 256 bytes
next : (c : After-has_lf) → let s = c.args.s.now in
    let n = c.loop-block.start in
    (256 ≤ n) × (take (n - 256) s ≡ c.next.new.self.rem.now ++ c.next.new.self.rest.now) × (take 256 (drop (n - 256) s) ≡ c.in-Some.block.now)
next c =
    let i = c.loop-block.invariant in
    let e = c.in-Some.ensures.steps in
    cut_back c.args.s.now _ _ _ _ _ i.within i.left e.1 e.2.0 (e.2.1 ∙ i.size)

pub returns-then-has_lf-clause-stops_at_lf : goal.returns-then-has_lf-clause-stops_at_lf
returns-then-has_lf-clause-stops_at_lf c = λ h. ap (any is_lf) (next (goal.at.returns-then-has_lf-clause-stops_at_lf c).After-has_lf).2 ∙ sym c.has_lf.ensures ∙ c.if-has_lf.true

pub overflow_sub-start : goal.overflow_sub-start
overflow_sub-start c = (next (goal.at.overflow_sub-start c).After-has_lf).0

pub loop-block-preserved : goal.loop-block-preserved
loop-block-preserved c =
    let s = c.args.s.now in
    let n = c.loop-block.start in
    let b = next (goal.at.loop-block-preserved c).After-has_lf in
    let i = c.loop-block.invariant in
    let e = c.in-Some.ensures.steps in
    let none : any is_lf (take 256 (drop (n - 256) s)) ≡ false = ap (any is_lf) b.2 ∙ sym c.has_lf.ensures ∙ c.if-has_lf.false in
    let end : n - 256 + 256 ≡ n = omega (arith, b.0) in
    record {
      size = e.0 ∙ i.size;
      left = sym b.1;
      whole = omega (arith, i.whole, ap length e.2.0, e.2.1, i.size, length-append c.next.new.self.rest.now c.in-Some.block.now);
      short = rw e.1 i.short;
      within = omega (arith, i.within);
      same = (rw end at (before_run 256 s (n - 256) (omega (arith, i.within, b.0)) none)) ∙ i.same;
    }
