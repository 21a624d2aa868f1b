-- `text::fixed::same_word` meets its contract. Assumes nothing.
use mathlib.Core.Path.{sym, ◌∙◌}
use Rattle.text.proofs.Words.{packed_same}
use Rattle.text.proofs.fixed.same_word.Goals as goal

pub returns : goal.returns
returns c =
    let first = c.word.ensures in let second = c.word-2.ensures in
    rw (first.0, second.0) (packed_same c.args.a.now c.args.b.now (c.requires.0 ∙ sym c.requires.1) first.1 second.1)
