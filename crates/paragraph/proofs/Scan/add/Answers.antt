-- `paragraph::Scan::add` meets its contract. Assumes nothing.
use mathlib.Core.Path.{refl, sym, ◌∙◌}
use Rattle.rules.specs.Paragraph.{leads}
use Rattle.paragraph.proofs.Scanned.{indented_not_leads, told}
use Rattle.paragraph.proofs.Scan.add.Goals as goal

pub returns-then-is_indented : goal.returns-then-is_indented
returns-then-is_indented c =
    let first = sym c.is_indented.ensures ∙ c.if-is_indented.true in
    rw (indented_not_leads _ first, first)

pub returns-then-is_recognized_prefix : goal.returns-then-is_recognized_prefix
unfolding leads
returns-then-is_recognized_prefix c = rw (← c.is_recognized_prefix.ensures, c.if-is_recognized_prefix.true)

pub returns-then-is_some : goal.returns-then-is_some
unfolding leads
returns-then-is_some c =
    let found = told _ _ _ c.parse_trailer_line.ensures refl ∙ sym c.is_some.ensures ∙ c.if-is_some.true in
    rw (← c.is_recognized_prefix.ensures, c.if-is_recognized_prefix.false, found)

pub returns : goal.returns
unfolding leads
returns c =
    let none = told _ _ _ c.parse_trailer_line.ensures refl ∙ sym c.is_some.ensures ∙ c.if-is_some.false in
    rw (← c.is_recognized_prefix.ensures, c.if-is_recognized_prefix.false, none, ← c.is_indented.ensures, c.if-is_indented.false)
