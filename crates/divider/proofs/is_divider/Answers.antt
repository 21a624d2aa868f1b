-- `divider::is_divider` meets its contract: behind three hyphens the text's length or the next byte tells. Assumes nothing.
use mathlib.Core.Path.{◌≡◌, sym, ◌∙◌}
use Prim.Native.Nat.{◌<◌}
use borrow.Author.Tests.{eq-eqb}
use lib.Dec.{eqb}
use lib.ListN.{get_or, length}
use Rattle.rules.specs.Bytes.{space}
use Rattle.divider.specs.Divider.{divider}
use Rattle.divider.proofs.Scan.{hyphens_alone, more_behind, no_divider}
use Rattle.divider.proofs.is_divider.Goals as goal
use Rattle.divider.proofs.is_divider.Goals.{Else-trim_line_ending-eq3}

pub returns-else-starts_with : goal.returns-else-starts_with
returns-else-starts_with c =
    c.if-starts_with.false ∙ sym (no_divider _ (sym c.starts_with.ensures ∙ c.if-starts_with.false))

pub returns-then-trim_line_ending-eq3 : goal.returns-then-trim_line_ending-eq3
returns-then-trim_line_ending-eq3 c =
    let begins = sym c.starts_with.ensures ∙ c.if-starts_with.true in
    let three = c.if-trim_line_ending-eq3.true in
    eq-eqb _ 3 three ∙ sym (hyphens_alone _ begins (sym c.trim_line_ending.ensures.0 ∙ three))

-- more stands behind them
more : (c : Else-trim_line_ending-eq3) → let line = c.args.line.now in
    (3 < length line) × (divider line ≡ eqb (get_or line 3 0) space)
more c =
    let begins = sym c.starts_with.ensures ∙ c.if-starts_with.true in
    more_behind _ begins (λ e. c.if-trim_line_ending-eq3.false (c.trim_line_ending.ensures.0 ∙ e))

pub bounds-line-3 : goal.bounds-line-3
bounds-line-3 c = (more (goal.at.bounds-line-3 c).Else-trim_line_ending-eq3).0

pub returns-else-trim_line_ending-eq3 : goal.returns-else-trim_line_ending-eq3
returns-else-trim_line_ending-eq3 c = sym (more (goal.at.returns-else-trim_line_ending-eq3 c).Else-trim_line_ending-eq3).1
