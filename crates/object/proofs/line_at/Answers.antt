-- `object::line_at` meets its contract: the line is one of the header's. Assumes nothing.
use mathlib.Core.Path.{sym}
use native.Mathlib.Omega.{arith}
use Rattle.object.proofs.Lines.{There, there, start_inside, line_parts, no_line}
use Rattle.object.proofs.line_at.Goals as goal
use Rattle.object.proofs.line_at.Goals.{Else-header-number}

pub returns-then-header-number : goal.returns-then-header-number
returns-then-header-number c =
    let a = c.args in
    sym (no_line a.content.now a.number a.header c.requires c.if-header-number.true)

-- the line is one of the header's
line : (c : Else-header-number) → let a = c.args in There a.content.now a.number a.header.line.start a.header.line.end
line c =
    let a = c.args in
    there a.content.now a.number a.header c.requires c.if-header-number.false

pub name_end-name_end-requires : goal.name_end-name_end-requires
name_end-name_end-requires c =
    let a = c.args in
    omega (arith, start_inside a.content.now a.number a.header.line.start a.header.line.end (line c))

pub returns : goal.returns
returns c =
    let a = c.args in
    let l = a.header.line in
    line_parts a.content.now a.number l.start l.end c.name_end-name_end.result (line (goal.at.returns c).Else-header-number) c.name_end-name_end.ensures.1
