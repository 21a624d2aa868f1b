-- `header::is_name` meets its contract. The invariant: the two are the same just where they were alike so far and what is left of them is
-- the same. Assumes nothing.
use Rattle.std.proofs.lemmas.Iterator.{empty_from_Zip}
use mathlib.Core.Bool.{Bool, and_assoc, and-true, ◌&&◌}
use mathlib.Core.List.{List, ◌∷◌}
use mathlib.Core.Path.{◌≡◌, sym, ◌∙◌}
use Prim.Native.Nat.{ℕ}
use native.Mathlib.Omega.{arith}
use lib.Dec.{eqb}
use Rattle.rules.specs.Lists.{equal}
use Rattle.text.proofs.Equal.{equal_long}
use Rattle.header.proofs.is_name.Goals as goal

step : (x y : ℕ) (a b : List ℕ) (alike : Bool) → alike && equal (x ∷ a) (y ∷ b) ≡ (alike && eqb x y) && equal a b
step x y a b alike = sym (and_assoc alike _ _)

pub returns-then-name-word : goal.returns-then-name-word
returns-then-name-word c = sym (equal_long c.args.name.now c.args.word.now c.if-name-word.true)

pub loop-x-preserved : goal.loop-x-preserved
loop-x-preserved c =
    let e = c.in-Some.ensures.steps in
    record {
      alike = rw (e.0, e.1) at c.loop-x.invariant.alike ∙ step c.in-Some.x.now c.in-Some.y.now c.next.new.self.a.rest.now c.next.new.self.b.rest.now c.loop-x.alike;
      long = omega (arith, rw (e.0, e.1) at c.loop-x.invariant.long);
    }

pub returns : goal.returns
returns c =
    let e = empty_from_Zip c.loop-x.x-iterator c.next.new.self _ c.in-None.is c.next.ensures.steps c.loop-x.invariant.long in
    sym (rw (e.0, e.1) at c.loop-x.invariant.alike ∙ and-true c.loop-x.alike)
