-- `text::line::is_blank_run` meets its contract. The invariant: all of it is blank just where the bytes read so far are and all after them is.
-- Assumes nothing.
use mathlib.Core.Path.{◌∙◌}
use borrow.Author.Rules.{rules}
use Rattle.text.proofs.Blanks.{blank_next}
use Rattle.text.proofs.line.is_blank_run.Goals as goal

pub loop-byte-preserved : goal.loop-byte-preserved
loop-byte-preserved c =
    c.loop-byte.invariant ∙ blank_next c.args.run.now c.loop-byte.byte-index c.loop-byte.blank _ c.loop-byte-test.true (search rules)
