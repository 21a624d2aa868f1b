-- `header::name_end` meets its contract. Assumes nothing.
use mathlib.Core.Path.{sym, ◌∙◌}
use native.Mathlib.Omega.{arith}
use lib.ListN.{drop, length-drop}
use Rattle.rules.proofs.Parts.{rest}
use Rattle.header.proofs.Laws.{name_stops, name_over}
use Rattle.header.proofs.name_end.Goals as goal

pub returns-in-Some : goal.returns-in-Some
returns-in-Some c =
    let a = c.args in
    let n = name_stops (drop a.at a.content.now) c.in-Some.length (rw (rest a.content.now a.at) at (sym c.name_stop.ensures ∙ c.in-Some.is)) in
    (omega (arith, n.0, length-drop a.at a.content.now), omega (arith, n.1))

pub returns-in-None : goal.returns-in-None
returns-in-None c =
    let a = c.args in
    let n = name_over (drop a.at a.content.now) (rw (rest a.content.now a.at) at (sym c.name_stop.ensures ∙ c.in-None.is)) in
    (omega arith, omega (arith, n, length-drop a.at a.content.now))
