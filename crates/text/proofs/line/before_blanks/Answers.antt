-- `text::line::before_blanks` meets its contract. The invariant: the runs before `start` are left, and all from there on is blank. Assumes nothing.
use mathlib.Core.Bool.{Bool, true, false}
use mathlib.Core.List.{◌++◌}
use mathlib.Core.Path.{◌≡◌, sym, ap, ◌∙◌}
use Prim.Native.Nat.{◌-◌, ◌≤◌}
use native.Mathlib.Omega.{arith}
use lib.ListN.{length, take, drop, length-append}
use Rattle.rules.specs.Bytes.{blank_byte}
use Rattle.rules.specs.Lists.{all}
use Rattle.find.proofs.Runs.{cut_back}
use Rattle.text.proofs.Blanks.{blank_before}
use Rattle.text.proofs.line.before_blanks.Goals as goal
use Rattle.text.proofs.line.before_blanks.Goals.{After-is_blank_run}

-- the run is the last 64 bytes
next : (c : After-is_blank_run) → let s = c.args.s.now in
    let n = c.loop-run.start in
    (64 ≤ n) × (take (n - 64) s ≡ c.next.new.self.rem.now ++ c.next.new.self.rest.now) × (take 64 (drop (n - 64) s) ≡ c.in-Some.run'.now)
next c =
    let i = c.loop-run.invariant in
    let e = c.in-Some.ensures.steps in
    cut_back c.args.s.now _ _ _ _ _ i.within i.left e.1 e.2.0 (e.2.1 ∙ i.size)

-- and all from there on is blank just if the run is
from_there : (c : After-is_blank_run) (b : Bool) → c.is_blank_run.result ≡ b → all blank_byte (drop (c.loop-run.start - 64) c.args.s.now) ≡ b
from_there c b e =
    let s = c.args.s.now in
    let n = c.loop-run.start in
    let r = next c in
    let size : n - (n - 64) ≡ 64 = omega (arith, r.0) in
    blank_before s (n - 64) n b (omega arith) (rw size (ap (all blank_byte) r.2 ∙ sym c.is_blank_run.ensures ∙ e)) c.loop-run.invariant.blank

pub returns-then-not-is_blank_run-clause-stops_at_text : goal.returns-then-not-is_blank_run-clause-stops_at_text
returns-then-not-is_blank_run-clause-stops_at_text c =
    λ h. from_there (goal.at.returns-then-not-is_blank_run-clause-stops_at_text c).After-is_blank_run false c.if-not-is_blank_run.true

pub overflow_sub-start : goal.overflow_sub-start
overflow_sub-start c = (next (goal.at.overflow_sub-start c).After-is_blank_run).0

pub loop-run-preserved : goal.loop-run-preserved
loop-run-preserved c =
    let r = (goal.at.loop-run-preserved c).After-is_blank_run in
    let i = c.loop-run.invariant in
    let e = c.in-Some.ensures.steps in
    record {
      size = e.0 ∙ i.size;
      left = sym (next r).1;
      whole = omega (arith, i.whole, ap length e.2.0, e.2.1, i.size, length-append c.next.new.self.rest.now c.in-Some.run'.now);
      short = rw e.1 i.short;
      within = omega (arith, i.within);
      blank = from_there r true c.if-not-is_blank_run.false;
    }
