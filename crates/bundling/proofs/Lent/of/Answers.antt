-- `bundling::Lent::of` meets its contract. Assumes nothing.
use mathlib.Core.Path.{sym, ◌∙◌}
use Rattle.bundling.proofs.Writing as laws
use Rattle.bundling.proofs.Lent.of.Goals as goal
use Rattle.bundling.proofs.Lent.of.Goals.{else-is_empty-via-then-is_empty+else-all_fit, else-is_empty-via-else-is_empty}

pub returns-then-all_fit : goal.returns-then-all_fit
returns-then-all_fit c =
    let e = c.as_chunks.ensures in
    laws.made_some _ _ e.front e.back_len (sym c.is_empty.ensures ∙ c.if-is_empty.true) (sym c.all_fit.ensures ∙ c.if-all_fit.true)

pub returns-else-is_empty : goal.returns-else-is_empty
returns-else-is_empty c =
    let e = c.as_chunks.ensures in
    elim c.else-is_empty.branch [
      | else-is_empty-via-then-is_empty+else-all_fit w ↦ laws.made_none _ _ e.front e.back_len (sym c.is_empty.ensures ∙ w.if-is_empty.true) (sym w.all_fit.ensures ∙ w.if-all_fit.false)
      | else-is_empty-via-else-is_empty w ↦ laws.made_odd _ _ e.front e.back_len (sym c.is_empty.ensures ∙ w.if-is_empty.false)
    ]
