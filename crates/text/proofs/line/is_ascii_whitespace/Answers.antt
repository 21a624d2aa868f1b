-- `text::line::is_ascii_whitespace` meets its contract. Assumes nothing.
use mathlib.Core.Path.{◌∙◌}
use Rattle.text.proofs.Blanks.{blank_is}
use Rattle.text.proofs.line.is_ascii_whitespace.Goals as goal

pub returns : goal.returns
returns c = c.is_ascii_whitespace.ensures.value ∙ blank_is c.args.byte
