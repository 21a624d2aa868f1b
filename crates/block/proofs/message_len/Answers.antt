-- `block::message_len` meets its contract. The invariant: the message from the front on is what is passed and the message
-- from `len` on. Assumes nothing.
use Rattle.std.specs.Prelude.{is_some}
use mathlib.Core.Path.{sym, ap, ◌∙◌}
use Prim.Native.Nat.{◌+◌, ◌≤◌, ◌<◌}
use native.Mathlib.Omega.{arith}
use lib.ListN.{length}
use Rattle.text.proofs.ByLines.{line_ahead}
use Rattle.block.proofs.Step.{message_ends, message_line}
use Rattle.block.proofs.message_len.Goals as goal
use Rattle.block.proofs.message_len.Goals.{After-line_len-len}

pub returns-then-is_some : goal.returns-then-is_some
returns-then-is_some c =
    omega (arith, message_ends c.args.cursor.now c.loop-len.len (sym (c.is_some.ensures ∙ ap is_some c.parse_trailer_line.ensures) ∙ c.if-is_some.true))

-- a line is ahead
ahead : (c : After-line_len-len) → (0 < c.line_len-len.result) × (c.loop-len.len + c.line_len-len.result ≤ length c.args.cursor.now)
ahead c =
    line_ahead c.args.cursor.now c.loop-len.len c.line_len-len.result (omega arith) c.line_len-len.ensures

pub overflow_add-len : goal.overflow_add-len
overflow_add-len c = omega (arith, ahead c)

pub loop-len-preserved : goal.loop-len-preserved
loop-len-preserved c =
    let none = sym (c.is_some.ensures ∙ ap is_some c.parse_trailer_line.ensures) ∙ c.if-is_some.false in
    ((ahead c).1, omega (arith, message_line c.args.cursor.now c.loop-len.len _ (omega arith) none c.line_len-len.ensures))
