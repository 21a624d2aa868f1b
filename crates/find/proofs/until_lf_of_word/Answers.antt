-- `find::until_lf_of_word` meets its contract. Assumes nothing.
use mathlib.Core.Path.{◌∙◌}
use Rattle.find.proofs.Words.{first_lf}
use borrow.Author.Rules.{rules}
use Rattle.find.proofs.until_lf_of_word.Goals as goal

pub returns : goal.returns
returns c =
    let s = c.args.run.now in
    let flags = c.lf_flags.ensures s (search rules) c.word.ensures.1 c.word.ensures.0 in
    c.before_flag.ensures ∙ rw flags (first_lf s (search rules))
