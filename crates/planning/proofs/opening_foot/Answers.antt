-- `planning::opening_foot` meets its contract.
use mathlib.Core.Path.{sym, ◌∙◌}
use Rattle.foot.proofs.Finding.{found_at}
use Rattle.planning.proofs.Judged.{foot_opens, is_short, there}
use Rattle.planning.proofs.opening_foot.Goals as goal

pub returns : goal.returns
returns c =
    let a = c.args in
    foot_opens a.tail.now a.whole (is_short a.tail.now c.in_ok-within_limit.ensures) (found_at a.tail.now a.whole (sym c.find_foot.ensures ∙ there c.find_foot.result _ c.in_ok-foot.ensures.value))
