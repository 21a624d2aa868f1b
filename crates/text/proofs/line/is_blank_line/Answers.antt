-- `text::line::is_blank_line` meets its contract. Assumes nothing.
use mathlib.Core.Path.{◌∙◌}
use borrow.Author.Rules.{rules}
use borrow.Author.Tests.{tests}
use Rattle.std.proofs.lemmas.Iterator.{YieldsList-from_slice}
use Rattle.std.proofs.lemmas.Iterator.Search.{all_from_yields_List}
use Rattle.rules.specs.Bytes.{blank_byte}
use Rattle.text.proofs.Blanks.{all_is}
use Rattle.text.proofs.line.is_blank_line.Goals as goal

pub returns : goal.returns
returns c =
    let s = c.args.line.now in
    all_from_yields_List blank_byte _ _ _ c.all.ensures.ran (YieldsList-from_slice s cc) (λ x b q k. search (rules, tests)) ∙ all_is s
