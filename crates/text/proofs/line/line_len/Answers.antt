-- `text::line::line_len` meets its contract: the first line ends with the first LF. Assumes nothing.
use mathlib.Core.Bool.{not}
use native.Mathlib.Omega.{arith}
use Rattle.find.specs.Find.{is_lf}
use Rattle.rules.proofs.Lists.{run_within}
use Rattle.text.proofs.Lines.{first_ends, first_within}
use Rattle.text.proofs.line.line_len.Goals as goal

pub returns-then-end-s : goal.returns-then-end-s
returns-then-end-s c =
    let s = c.args.s.now in
    let e = c.find_lf-end.ensures in
    omega (arith, (first_ends s).1 (omega (arith, e, c.if-end-s.true)), c.if-end-s.true)

pub returns : goal.returns
returns c =
    let s = c.args.s.now in
    let e = c.find_lf-end.ensures in
    omega (arith, (first_ends s).0 (omega (arith, e, c.if-end-s.false, run_within (λ c. not (is_lf c)) s)), e)

pub overflow_add-result : goal.overflow_add-result
overflow_add-result c = omega (arith, returns c, first_within c.args.s.now)
