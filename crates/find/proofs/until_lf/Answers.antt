-- `find::until_lf` meets its contract. Assumes nothing.
use mathlib.Core.Logic.{◌≢◌}
use mathlib.Core.Path.{◌≡◌, refl, sym, ◌∙◌}
use native.Mathlib.Omega.{arith}
use borrow.Author.Rules.{rules}
use borrow.Author.Tests.{tests, eq-eqb, ne_eqb}
use Rattle.std.proofs.lemmas.Iterator.{IsFirst-from_position, YieldsList-from_slice, index_from_first}
use Rattle.rules.specs.Bytes.{LF}
use Rattle.find.specs.Find.{until_lf}
use Rattle.find.proofs.until_lf.Goals as goal

pub returns : goal.returns
returns c =
    let s = c.args.part.now in
    let first = IsFirst-from_position _ _ _ (λ x. x ≡ LF) (λ x. x ≢ LF) c.position.ensures.ran (YieldsList-from_slice s cc)
    (λ x q k. search (rules, tests)) (λ x q k. search (rules, tests)) in
    c.unwrap_or.ensures ∙ sym (index_from_first until_lf (λ x. x ≡ LF) (λ x. x ≢ LF) refl (λ x t h. rw (eq-eqb x LF h)) (λ x t n. rw (ne_eqb x LF n) (omega arith)) s _ first)
