-- `screen::line_len` meets its contract: a line's length by the value's, and its bound.
use native.Mathlib.Omega.{arith}
use Rattle.screen.proofs.Lines.{line_at_size, line_short}
use Rattle.screen.proofs.line_len.Goals as goal

pub overflow_add-result-2 : goal.overflow_add-result-2
overflow_add-result-2 c =
    omega (arith, c.unfolded_len-value.ensures, line_at_size c.args.message.now c.args.at c.requires, line_short c.args.message.now c.args.at c.requires)

pub overflow_add-result-3 : goal.overflow_add-result-3
overflow_add-result-3 c =
    omega (arith, c.unfolded_len-value.ensures, line_at_size c.args.message.now c.args.at c.requires, line_short c.args.message.now c.args.at c.requires)
