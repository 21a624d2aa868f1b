-- `text::fixed::equals` meets its contract. Assumes nothing.
use mathlib.Core.Path.{sym, ap, ◌∙◌}
use native.Mathlib.Omega.{arith}
use borrow.Author.Tests.{ne_eqb}
use lib.ListN.{length}
use lib.Seq.{take_all}
use Rattle.rules.specs.Lists.{equal}
use Rattle.text.proofs.Equal.{equal_long, starts_is}
use Rattle.text.proofs.Words.{starts_all}
use Rattle.text.proofs.fixed.equals.Goals as goal

pub returns-then-a-b : goal.returns-then-a-b
returns-then-a-b c =
    let a = c.args.a.now in
    let b = c.args.b.now in
    c.starts_with.ensures.value ∙ starts_is b a ∙ starts_all b a (omega arith) ∙ ap (λ t. equal t b) (take_all (length b) a (omega arith))

pub returns-else-a-b : goal.returns-else-a-b
returns-else-a-b c = ne_eqb _ _ c.if-a-b.false ∙ sym (equal_long c.args.a.now c.args.b.now c.if-a-b.false)
