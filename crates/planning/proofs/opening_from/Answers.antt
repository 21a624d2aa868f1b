-- `planning::opening_from` meets its contract.
use mathlib.Core.Path.{sym, ◌∙◌}
use Rattle.planning.proofs.Judged.{from_opens, is_short}
use Rattle.planning.proofs.opening_from.Goals as goal

pub returns : goal.returns
returns c =
    let a = c.args in
    from_opens a.input.now a.cursor (is_short a.input.now c.in_ok-within_limit.ensures) (sym c.cursor_fits.ensures ∙ c.if-not-cursor_fits.false)
