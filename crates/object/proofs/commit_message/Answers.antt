-- `object::commit_message` meets its contract: the message of a good header is what comes after it. Assumes nothing.
use mathlib.Core.Path.{sym, ◌∙◌}
use Rattle.rules.specs.Answers.{says}
use Rattle.commit.specs.Answers.{message_in}
use Rattle.commit.specs.Reader.{commit}
use Rattle.object.proofs.Lines.{good_answer, message_parts}
use Rattle.object.proofs.commit_message.Goals as goal

pub returns : goal.returns
returns c =
    let s = c.args.content.now in
    let h = c.in_ok-header.header in
    message_parts s 0 h c.in_ok-header.ensures
    ∙ good_answer s 0 h (says 0 (message_in (commit s))) c.in_ok-header.ensures (sym c.within_limit.ensures ∙ c.in_ok-within_limit.was)
