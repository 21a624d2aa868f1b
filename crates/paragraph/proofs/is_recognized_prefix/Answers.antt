-- `paragraph::is_recognized_prefix` meets its contract. Assumes nothing.
use Rattle.rules.specs.Paragraph.{recognised}
use Rattle.paragraph.proofs.is_recognized_prefix.Goals as goal

pub returns-then-is_signed_off : goal.returns-then-is_signed_off
unfolding recognised
returns-then-is_signed_off c = rw (← c.is_signed_off.ensures, c.if-is_signed_off.true)

pub returns-else-is_signed_off : goal.returns-else-is_signed_off
unfolding recognised
returns-else-is_signed_off c = rw (← c.is_signed_off.ensures, c.if-is_signed_off.false, ← c.is_cherry_picked.ensures)
