-- `header::is_identifier` meets its contract. Assumes nothing.
use mathlib.Core.Bool.{and-true}
use mathlib.Core.Path.{sym, ◌∙◌}
use Rattle.commit.specs.Grammar.{hex_digit}
use Rattle.header.proofs.Laws.{all_over, id_long, id_is}
use Rattle.header.proofs.is_identifier.Goals as goal

pub returns-then-content-size : goal.returns-then-content-size
returns-then-content-size c = sym (id_long c.args.size c.args.content.now c.if-content-size.true)

pub returns : goal.returns
returns c =
    let a = c.args in
    sym (id_is a.size a.content.now c.loop-byte.good c.if-content-size.false
    (c.loop-byte.invariant ∙ rw (all_over hex_digit a.content.now c.loop-byte.byte-index c.loop-byte-test.false) (and-true c.loop-byte.good)))
