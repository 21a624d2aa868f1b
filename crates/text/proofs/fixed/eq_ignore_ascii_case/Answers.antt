-- `text::fixed::eq_ignore_ascii_case` meets its contract. The invariant: the two are the same, ASCII case aside, just where they
-- were alike so far and what is left of them is the same. Assumes nothing.
use Rattle.std.proofs.lemmas.Iterator.{empty_from_Zip}
use mathlib.Core.Bool.{Bool, and_assoc, and-true, ◌&&◌}
use mathlib.Core.List.{List, ◌∷◌}
use mathlib.Core.Path.{◌≡◌, sym, ◌∙◌}
use Prim.Native.Nat.{ℕ}
use native.Mathlib.Omega.{arith}
use lib.Dec.{eqb}
use Rattle.rules.specs.Bytes.{lower}
use Rattle.rules.specs.Trailer.{same}
use Rattle.text.proofs.Equal.{same_long}
use Rattle.text.proofs.fixed.eq_ignore_ascii_case.Goals as goal

step : (x y u v : ℕ) (a b : List ℕ) (alike : Bool) → u ≡ lower x → v ≡ lower y
    → alike && same (x ∷ a) (y ∷ b) ≡ (alike && eqb u v) && same a b
unfolding same
step x y u v a b alike p q = rw (p, q) (sym (and_assoc alike _ _))

pub returns-then-a-b : goal.returns-then-a-b
returns-then-a-b c = sym (same_long c.args.a.now c.args.b.now c.if-a-b.true)

pub loop-x-preserved : goal.loop-x-preserved
loop-x-preserved c =
    let e = c.in-Some.ensures.steps in
    let u = c.to_ascii_lowercase in
    let v = c.to_ascii_lowercase-in-loop-x in
    record {
      alike = rw (e.0, e.1) at c.loop-x.invariant.alike
          ∙ step c.in-Some.x.now c.in-Some.y.now u.result v.result c.next.new.self.a.rest.now c.next.new.self.b.rest.now c.loop-x.alike u.ensures v.ensures;
      long = omega (arith, rw (e.0, e.1) at c.loop-x.invariant.long);
    }

pub returns : goal.returns
unfolding same
returns c =
    let e = empty_from_Zip c.loop-x.x-iterator c.next.new.self _ c.in-None.is c.next.ensures.steps c.loop-x.invariant.long in
    sym (rw (e.0, e.1) at c.loop-x.invariant.alike ∙ and-true c.loop-x.alike)
