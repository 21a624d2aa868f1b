-- `object::header_line` meets its contract: a good header's line is the one that `line_at` finds. Assumes nothing.
use mathlib.Core.Path.{sym, ap, ◌∙◌}
use Rattle.rules.specs.Answers.{says}
use Rattle.commit.specs.Answers.{line_in}
use Rattle.commit.specs.Reader.{commit}
use Rattle.object.proofs.Lines.{good_answer}
use Rattle.object.proofs.header_line.Goals as goal

pub returns : goal.returns
returns c =
    let s = c.args.content.now in
    let k = c.args.number in
    let h = c.in_ok-header.header in
    ap (says 0) c.line_at.ensures
    ∙ good_answer s k h (says 0 (line_in k (commit s))) c.in_ok-header.ensures (sym c.within_limit.ensures ∙ c.in_ok-within_limit.was)
