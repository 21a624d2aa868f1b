-- `value::TrimmedLines::next` meets its contract. Assumes nothing.
use mathlib.Core.Path.{ap, ◌∙◌}
use Prim.Native.Nat.{◌<◌}
use native.Mathlib.Omega.{arith}
use borrow.Author.Rules.{rules}
use lib.ListN.{length}
use Rattle.rules.specs.White.{trim}
use Rattle.text.proofs.Lines.{first_some, first_within}
use Rattle.value.proofs.Unfolding.{next_line}
use Rattle.value.proofs.TrimmedLinesIterator.next.Goals as goal

pub split_at-requires : goal.split_at-requires
split_at-requires c = omega (arith, c.line_len.ensures, first_within c.args.self.now.rest.now)

pub returns-clause-steps : goal.returns-clause-steps
returns-clause-steps c =
    let some : 0 < length c.args.self.now.rest.now = search rules in
    next_line _ _ some c.line_len.ensures (c.trim_line.ensures ∙ ap trim c.split_at.ensures.front) c.split_at.ensures.back

pub returns-clause-goes : goal.returns-clause-goes
returns-clause-goes c =
    let some : 0 < length c.args.self.now.rest.now = search rules in
    let fewer : length c.split_at.result.1.now < length c.args.self.now.rest.now =
    omega (arith, first_some c.args.self.now.rest.now some, c.line_len.ensures, c.split_at.ensures.back_len) in
    search rules
