-- `signers::print_trailers` is safe and ends: each trailer moves the cursor on.
use mathlib.Core.Path.{sym, ap, ◌∙◌}
use native.Mathlib.Omega.{arith}
use lib.ListN.{length}
use Rattle.rules.specs.Answers.{trailer_step_says}
use Rattle.signers.proofs.Step.{found}
use Rattle.signers.proofs.print_trailers.Goals as goal

pub loop-step-smaller : goal.loop-step-smaller
loop-step-smaller g c =
    let moved = found c.args.message.now c.loop-step.cursor (length c.loop-step.buffer) c.in-Ok-next_trailer.step c.in-Some.found c.in-Some.is
    (ap trailer_step_says (sym c.in-Ok-next_trailer.is) ∙ c.next_trailer.ensures.result_value) in
    omega (arith, moved.moves, moved.within)
