-- `comment::text_end` meets its contract. Assumes nothing.
use Rattle.std.specs.Prelude.{Some}
use mathlib.Core.Path.{sym, ap, ◌∙◌}
use native.Mathlib.Omega.{arith}
use Rattle.comment.proofs.Laws.{text_lost, text_over, text_passes, text_stops}
use Rattle.comment.proofs.text_end.Goals as goal

pub returns-in_default : goal.returns-in_default
returns-in_default g c text x =
    text_lost (c.loop-i.invariant.same text x) c.loop-i.invariant.later c.loop-i-test.true
    (c.in_default.ensures.value text x)

pub returns-then-w-eq0 : goal.returns-then-w-eq0
returns-then-w-eq0 g c text x =
    text_stops (c.loop-i.invariant.same text x) c.loop-i.invariant.later c.loop-i-test.true
    (ap Some (sym c.if-w-eq0.true) ∙ c.in-Some.ensures.value text x)

pub loop-i-preserved : goal.loop-i-preserved
loop-i-preserved g c = record {
  later = omega arith;
  within = c.in-Some.ensures.within;
  same = λ text x.
      text_passes (c.loop-i.invariant.same text x) c.loop-i.invariant.later c.loop-i-test.true
      (c.in-Some.ensures.value text x) c.if-w-eq0.false;
}

pub returns : goal.returns
returns g c text x = text_over (c.loop-i.invariant.same text x) c.loop-i.invariant.later c.loop-i.invariant.within c.loop-i-test.false
