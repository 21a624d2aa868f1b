-- `numbering::move_over` meets its contract: where the line is all that is passed, its last byte says whether there is an LF. Assumes nothing.
use mathlib.Core.Path.{◌≡◌, sym, ap, ◌∙◌}
use Prim.Native.Nat.{ℕ, ◌+◌, ◌-◌}
use lib.ListN.{length, take, drop}
use Rattle.find.proofs.Runs.{as_byte}
use Rattle.rules.proofs.Folded.{last_feed}
use Rattle.rules.specs.Lines.{lines}
use Rattle.numbering.proofs.move_over.Goals as goal

pub returns : goal.returns
returns c =
    let a = c.args in
    let one : length (lines (take (a.at - a.cursor.at) (drop a.cursor.at a.input.now))) ≡ 1 = rw c.if-first-at.false at c.requires.input_len in
    let feeds = last_feed a.input.now a.cursor.at a.at c.requires.line_bound.1 c.requires.line_bound.2 one ∙ (as_byte _).0 ∙ sym c.from.ensures in
    ap (λ (k : ℕ). record { at = a.at; line = a.cursor.line + k }) (sym feeds)
