-- `paragraph::is_signed_off` meets its contract. Assumes nothing.
use mathlib.Core.Bool.{◌&&◌}
use mathlib.Core.Path.{sym, ap₂, ◌∙◌}
use native.Mathlib.Omega.{arith}
use Rattle.rules.specs.Paragraph.{signed_off}
use Rattle.text.proofs.Words.{two_words}
use Rattle.paragraph.proofs.is_signed_off.Goals as goal

pub returns : goal.returns
returns c =
    let line = c.args.line.now in
    ap₂ ◌&&◌ c.same_word.ensures c.same_word-2.ensures ∙ sym (two_words signed_off line (omega arith) (omega arith) (omega arith))
