-- `reading::message_summary_in` meets its contract: the message up to its end is handed on. Assumes nothing.
use borrow.Author.Rules.{rules}
use mathlib.Core.List.{List, []}
use mathlib.Core.Path.{◌∙◌}
use Prim.Native.Nat.{ℕ}
use lib.ListN.{length}
use Rattle.rules.specs.Answers.{says}
use Rattle.divider.proofs.Readings.{answered_in, handed_on}
use Rattle.message.specs.Message.{summary_buffer}
use Rattle.reading.specs.Reading.{summary_with}
use Rattle.reading.proofs.message_summary_in.Goals as goal

pub slice_bounds-message_summary-end : goal.slice_bounds-message_summary-end
slice_bounds-message_summary-end c =
    let a = c.args in
    (handed_on a.reading a.message.now c.end_in-end.ensures).1

pub returns : goal.returns
returns c =
    let a = c.args in
    let out = a.out.now in record {
      result_value = c.message_summary.ensures.result_value
          ∙ answered_in (says 1 []) (summary_with (length out)) a.reading a.message.now c.end_in-end.ensures (search rules);
      out_after = c.message_summary.ensures.out_after
          ∙ answered_in out (λ (m : List ℕ). summary_buffer m out) a.reading a.message.now c.end_in-end.ensures (search rules);
    }
