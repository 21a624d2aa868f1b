-- `paragraph::last_ending` meets its contract. Assumes nothing.
use mathlib.Core.Path.{◌≡◌, sym, ◌∙◌}
use Prim.Native.Nat.{◌+◌, ◌-◌, ◌≤◌, ◌<◌}
use native.Mathlib.Omega.{arith}
use lib.ListN.{length}
use Rattle.text.proofs.ByLines.{line_ahead}
use Rattle.paragraph.proofs.Ends.{ends_nowhere, ends_there}
use borrow.Author.Rules.{rules}
use Rattle.paragraph.proofs.last_ending.Goals as goal
use Rattle.paragraph.proofs.last_ending.Goals.{After-line_len}

pub returns-then-len-eq0 : goal.returns-then-len-eq0
returns-then-len-eq0 c =
    let a = c.args in
    let none : c.solid_len-len.result ≡ 0 = search rules in
    sym (ends_nowhere a.body.now (rw none at c.solid_len-len.ensures))

-- the line that holds the last byte is ahead
ahead : (c : After-line_len) → (0 < c.line_len.result) × (c.solid_len-len.result - 1 + c.line_len.result ≤ length c.args.body.now)
ahead c =
    line_ahead c.args.body.now (c.solid_len-len.result - 1) c.line_len.result (omega (arith, c.solid_len-len.ensures.0)) c.line_len.ensures

pub overflow_add-end : goal.overflow_add-end
overflow_add-end c = omega (arith, ahead c)

pub slice_bounds-trim_line_ending-end : goal.slice_bounds-trim_line_ending-end
slice_bounds-trim_line_ending-end c = omega (arith, ahead c)

pub returns : goal.returns
returns c =
    let n = c.solid_len-len.result in
    c.trim_line_ending.ensures.1
    ∙ sym (ends_there c.args.body.now n c.line_len.result c.solid_len-len.ensures (omega arith) c.line_len.ensures)
