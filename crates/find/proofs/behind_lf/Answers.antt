-- `find::behind_lf` meets its contract. Assumes nothing.
use mathlib.Core.Path.{◌≡◌, sym, ◌∙◌}
use Prim.Native.Nat.{◌-◌}
use native.Mathlib.Omega.{arith}
use Rattle.find.proofs.Runs.{met, passed}
use borrow.Author.Rules.{rules}
use Rattle.find.proofs.behind_lf.Goals as goal

pub returns-then-s-end-eq10 : goal.returns-then-s-end-eq10
returns-then-s-end-eq10 c =
    let s = c.args.s.now in let end = c.args.end in
    sym (met s end (search rules) c.if-s-end-eq10.true)

pub returns-then-s-end-eq10-2 : goal.returns-then-s-end-eq10-2
returns-then-s-end-eq10-2 c =
    let s = c.args.s.now in let end = c.args.end in
    let two : end - 1 - 1 ≡ end - 2 = omega arith in
    let met = met s (end - 1) (search rules) (rw two c.if-s-end-eq10-2.true) in
    sym (passed s end (search rules) c.if-s-end-eq10.false ∙ met)
