-- `counting::Report::add_trailers` meets its contract. Invariant: the counts so far and those of the walk that is left are all.
-- Assumes nothing.
use mathlib.Core.Bool.{◌||◌}
use mathlib.Core.List.{List}
use mathlib.Core.Path.{refl, sym, ap, ◌∙◌}
use native.Mathlib.Omega.{arith}
use Rattle.rules.specs.Lists.{filled}
use Rattle.counting.proofs.Turns.{Found, count_turn, or_some, step_found, sum_more}
use Rattle.counting.specs.Answers.{seven}
use Rattle.counting.specs.Report.{figure_of, plus, seven_of, sum}
use Rattle.rules.specs.Trailer.{walk_from}
use Prim.Native.Nat.{ℕ, ◌-◌}
use lib.ListN.{length, take, drop}
use Rattle.rules.specs.declared.Places.{Places}
use Rattle.counting.proofs.Report.add_trailers.Goals as goal
use Rattle.counting.proofs.Report.add_trailers.Goals.{In-Some}

-- the token that stands there
abbrev token_at : List ℕ → Places → List ℕ
token_at m p = take (p.token_end - p.start) (drop p.start m)

-- what the turn's step has found
here : (c : In-Some) → Found c.args.message.now c.loop-places.places-iterator.at c.in-Some.places
here c = step_found _ _ (rw c.loop-places.invariant.0 at (sym c.in-Some.ensures.steps.first))

pub loop-places-preserved : goal.loop-places-preserved
loop-places-preserved c =
    let f = here (goal.at.loop-places-preserved c).In-Some in
    let so = seven c.loop-places.self in
    let s = c.in-Some.ensures.steps in
    let i = c.loop-places.invariant in
    let w = i.1 in (
      s.stays ∙ i.0,
      rw s.goes (record {
        inside = omega (arith, s.order, ap length i.0);
        counts = ap (λ (n : List ℕ). plus n (seven_of (walk_from c.args.message.now c.in-Some.places.end))) c.add_token.ensures.counts ∙ count_turn c.args.message.now so f refl ∙ w.counts;
        some = or_some c.loop-places.found _ (ap (λ ts. c.loop-places.found || filled ts) (sym f.list) ∙ w.some);
        few = omega (arith, ap sum c.add_token.ensures.counts, sum_more so (figure_of (token_at c.args.message.now c.in-Some.places)), s.order, w.few);
      }),
      c.add_token.ensures.without ∙ i.2,
    )
