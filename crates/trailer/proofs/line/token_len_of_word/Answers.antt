-- `trailer::line::token_len_of_word` meets its contract. Assumes nothing.
use mathlib.Core.Path.{◌∙◌}
use Rattle.rules.specs.Bytes.{token_byte}
use Rattle.rules.specs.Trailer.{token_in}
use Rattle.word.proofs.Lanes.{before_flag}
use borrow.Author.Rules.{rules}
use Rattle.trailer.proofs.line.token_len_of_word.Goals as goal

pub returns : goal.returns
unfolding token_in
returns c =
    let s = c.args.run.now in
    let flags = c.token_flags.ensures s (search rules) c.word.ensures.1 c.word.ensures.0 in
    c.before_flag.ensures ∙ rw flags (before_flag token_byte s (search rules))
