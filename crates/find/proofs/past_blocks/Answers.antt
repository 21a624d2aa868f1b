-- `find::past_blocks` meets its contract. The invariant: the blocks from `end` on are left, and a search from there finds what one from the
-- front finds. Assumes nothing.
use mathlib.Core.Bool.{false}
use mathlib.Core.Path.{◌≡◌, sym, ap, ◌∙◌}
use Prim.Native.Nat.{◌+◌, ◌≤◌}
use native.Mathlib.Omega.{arith}
use lib.ListN.{length, take, drop, length-drop}
use lib.Seq.{drop-drop}
use Rattle.rules.specs.Lists.{any}
use Rattle.find.specs.Find.{is_lf}
use Rattle.find.proofs.Runs.{cut, past_run}
use Rattle.find.proofs.past_blocks.Goals as goal
use Rattle.find.proofs.past_blocks.Goals.{After-has_lf}

-- the block is the next 256 bytes
next : (c : After-has_lf) → let left = drop c.loop-block.end c.args.s.now in
    (256 ≤ length left) × (take 256 left ≡ c.in-Some.block.now) × (drop 256 left ≡ c.next.new.self.rest.now)
next c =
    let i = c.loop-block.invariant in
    let e = c.in-Some.ensures.steps.1 in
    cut (sym i.left ∙ e.0) (e.1 ∙ i.size)

pub returns-then-has_lf-clause-stops_at_lf : goal.returns-then-has_lf-clause-stops_at_lf
returns-then-has_lf-clause-stops_at_lf c = λ h. ap (any is_lf) (next (goal.at.returns-then-has_lf-clause-stops_at_lf c).After-has_lf).1 ∙ sym c.has_lf.ensures ∙ c.if-has_lf.true

pub loop-block-preserved : goal.loop-block-preserved
loop-block-preserved c =
    let s = c.args.s.now in
    let i = c.loop-block.end in
    let n = next (goal.at.loop-block-preserved c).After-has_lf in
    let within : i + 256 ≤ length s = omega (arith, n.0, length-drop i s, c.loop-block.invariant.within) in
    let none : any is_lf (take 256 (drop i s)) ≡ false = ap (any is_lf) n.1 ∙ sym c.has_lf.ensures ∙ c.if-has_lf.false in
    record {
      size = c.in-Some.ensures.steps.0 ∙ c.loop-block.invariant.size;
      left = sym n.2 ∙ drop-drop 256 i s;
      within = within;
      same = omega (arith, past_run 256 s i within none, c.loop-block.invariant.same);
    }
