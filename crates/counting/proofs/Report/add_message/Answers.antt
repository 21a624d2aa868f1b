-- `counting::Report::add_message` meets its contract. Assumes nothing.
use mathlib.Core.Path.{◌≡◌, sym, ap, ◌∙◌}
use Prim.Native.Nat.{◌+◌, ◌≤◌}
use native.Mathlib.Omega.{arith}
use lib.ListN.{length}
use Rattle.rules.proofs.Title.{body_fits}
use Rattle.rules.specs.Paragraph.{message_trailers}
use Rattle.rules.specs.Trailer.{walk_from}
use Rattle.counting.specs.Answers.{seven}
use Rattle.counting.specs.Report.{plus, seven_of}
use Rattle.rules.proofs.Messages.{walk_at, walk_fits}
use Rattle.counting.proofs.Turns.{without_none, without_some}
use Rattle.counting.proofs.Report.add_message.Goals as goal
use Rattle.counting.proofs.Report.add_message.Goals.{After-add_trailers, After-title_and_body-body_start, After-trailer_block_start}

starts : (c : After-title_and_body-body_start) → c.title_and_body-body_start.result.body_start ≤ length c.args.message.now
starts c = rw c.title_and_body-body_start.ensures.1 (body_fits c.args.message.now)

pub slice_bounds-trailer_block_start-count : goal.slice_bounds-trailer_block_start-count
slice_bounds-trailer_block_start-count c = starts c

pub slice_bounds-trailer_block_start-start : goal.slice_bounds-trailer_block_start-start
slice_bounds-trailer_block_start-start c = starts c

fits : (c : After-trailer_block_start) → c.title_and_body-body_start.result.body_start + c.trailer_block_start.result ≤ length c.args.message.now
fits c = walk_fits c.args.message.now _ _ c.title_and_body-body_start.ensures.1 c.trailer_block_start.ensures

pub overflow_add-at : goal.overflow_add-at
overflow_add-at c = omega (arith, fits c)

pub add_trailers-requires : goal.add_trailers-requires
add_trailers-requires c = (fits (goal.at.add_trailers-requires c).After-trailer_block_start, c.requires.0)

walks : (c : After-add_trailers) → walk_from c.args.message.now (c.title_and_body-body_start.result.body_start + c.trailer_block_start.result) ≡ message_trailers c.args.message.now
walks c = sym (walk_at c.args.message.now _ _ c.title_and_body-body_start.ensures.1 c.trailer_block_start.ensures)

-- the counts with the trailers of the message's walk added
added : (c : After-add_trailers) → seven c.add_trailers.new.self ≡ plus (seven c.args.self.now) (seven_of (message_trailers c.args.message.now))
added c = c.add_trailers.ensures.counts ∙ ap (λ ts. plus (seven c.args.self.now) (seven_of ts)) (walks c)

pub returns-then-not-add_trailers : goal.returns-then-not-add_trailers
returns-then-not-add_trailers c =
    let t = (goal.at.returns-then-not-add_trailers c).After-add_trailers in
    record {
      counts = added t;
      without = omega (arith, c.add_trailers.ensures.without, without_none c.args.message.now c.args.self.now.without (rw (walks t) at (sym c.add_trailers.ensures.found ∙ c.if-not-add_trailers.true)));
    }

pub returns-else-not-add_trailers : goal.returns-else-not-add_trailers
returns-else-not-add_trailers c =
    let t = (goal.at.returns-else-not-add_trailers c).After-add_trailers in
    record {
      counts = added t;
      without = c.add_trailers.ensures.without ∙ without_some c.args.message.now c.args.self.now.without (rw (walks t) at (sym c.add_trailers.ensures.found ∙ c.if-not-add_trailers.false));
    }
