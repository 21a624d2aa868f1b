-- `counting::bundle_report` meets its contract. Invariant: the report so far and that of the messages from k on are the whole.
-- Assumes nothing.
use mathlib.Core.List.{List}
use mathlib.Core.Path.{sym, ap, refl, ◌∙◌}
use Prim.Native.Nat.{ℕ, ◌+◌, ◌-◌}
use native.Mathlib.Numerals.{add-one}
use native.Mathlib.Omega.{arith}
use lib.ListN.{take, drop, length-take}
use Rattle.bundle.proofs.Answers.{Counted, of_count}
use Rattle.bundle.specs.Bundle.{offset}
use Rattle.counting.specs.Answers.{seven}
use Rattle.counting.specs.Report.{counts_of, plus, sum, without_of}
use Rattle.counting.proofs.Turns.{counts_turn, counts_zero, from_first, from_next, messages_from, sum_message, without_le}
use Rattle.counting.proofs.bundle_report.Goals as goal
use Rattle.counting.proofs.bundle_report.Goals.{In_ok-count}

-- the bytes are a bundle of so many messages
bundled : (c : In_ok-count) → Counted c.args.bundle.now c.in_ok-count.count
bundled c = of_count c.args.bundle.now c.in_ok-count.count c.in_ok-count.ensures

pub loop-k-init : goal.loop-k-init
loop-k-init c =
    let b = c.args.bundle.now in
    let n = c.in_ok-count.count in
    let all = from_first b n (bundled (goal.at.loop-k-init c).In_ok-count).count in
    record {
      counts = counts_zero (messages_from b n 0) ∙ ap counts_of all;
      none = omega (arith, ap without_of all);
      few_counted = omega arith;
      few_none = omega arith;
    }

pub message_part-part-requires : goal.message_part-part-requires
message_part-part-requires c =
    let t = bundled (goal.at.message_part-part-requires c).In_ok-count in
    (t.good, omega (arith, t.count))

pub loop-k-preserved : goal.loop-k-preserved
loop-k-preserved c =
    let b = c.args.bundle.now in
    let n = c.in_ok-count.count in
    let k = c.loop-k.k in
    let start = c.message_part-part.result.start in
    let end = c.message_part-part.result.end in
    let m = take (end - start) (drop start b) in
    let r = seven c.loop-k.report in
    let left = from_next b n k start end c.loop-k-test.true c.message_part-part.ensures.start_value.0 c.message_part-part.ensures.start_value.1 in
    record {
      counts = ap (λ (s : List ℕ). plus s (counts_of (messages_from b n (k + 1)))) c.add_message.ensures.counts ∙ counts_turn r m (messages_from b n (k + 1)) ∙ ap (λ ms. plus r (counts_of ms)) (sym left) ∙ c.loop-k.invariant.counts;
      none = omega (arith, c.add_message.ensures.without, ap without_of left, c.loop-k.invariant.none);
      few_counted = omega (arith, ap sum c.add_message.ensures.counts, sum_message r m refl, length-take (end - start) (drop start b), c.message_part-part.ensures, ap (offset b) (add-one k), c.loop-k.invariant.few_counted);
      few_none = omega (arith, c.add_message.ensures.without, without_le m, c.loop-k.invariant.few_none);
    }
