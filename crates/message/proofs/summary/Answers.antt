-- `message::summary` meets its contract: the part that `trim` answers is read as it is, or folded. Assumes nothing.
use mathlib.Core.Bool.{false}
use mathlib.Core.Path.{◌≡◌, sym, ap, ◌∙◌}
use borrow.Author.Rules.{rules}
use lib.Dec.{ltb}
use native.Mathlib.Omega.{arith}
use borrow.Author.Tests.{lt-ltb, le-ltb}
use lib.ListN.{length}
use Rattle.rules.proofs.White.{trim_fits, trim_idempotent}
use Rattle.rules.specs.Answers.{limit, value_found_says}
use Rattle.rules.proofs.Parts.{kept_part}
use Rattle.message.proofs.Summarised.{summary_folded, summary_left, summary-part, summary_keeps}
use Rattle.message.proofs.summary.Goals as goal

pub slice_bounds-message-end : goal.slice_bounds-message-end
slice_bounds-message-end c = omega (arith, trim_fits c.args.title.now, c.trim_text-part.ensures)

pub summarise-requires : goal.summarise-requires
summarise-requires c =
    let title = c.args.title.now in
    (rw (kept_part title c.trim_text-part.ensures) (trim_idempotent title).0, c.first_lf-first.ensures.0)

pub returns-then-first-message : goal.returns-then-first-message
returns-then-first-message c =
    let title = c.args.title.now in
    let out = c.args.out.now in
    let short : ltb limit (length title) ≡ false = search rules in
    let kept = kept_part title c.trim_text-part.ensures in
    let q = sym c.first_lf-first.ensures.1 ∙ lt-ltb _ _ c.if-first-message.true in
    record {
      result_value = ap value_found_says c.summarise.ensures.value ∙ summary_folded title short kept q (length out);
      out_after = c.summarise.ensures.out_after ∙ summary_left title short kept q out;
    }

pub returns : goal.returns
returns c =
    let title = c.args.title.now in
    let out = c.args.out.now in
    let short : ltb limit (length title) ≡ false = search rules in
    let part = c.trim_text-part.ensures in
    let kept = kept_part title part in
    let q = sym c.first_lf-first.ensures.1 ∙ le-ltb _ _ c.if-first-message.false in
    record {
      result_value = rw (part.0, part.1) (summary-part title short kept q (length out));
      out_after = summary_keeps title short kept q out;
    }
