-- `find::count::count_lf` meets its contract. The invariant: what is counted and the LFs of what is left are all of them. Assumes nothing.
use mathlib.Core.Path.{◌≡◌, ap, ◌∙◌}
use Prim.Native.Nat.{◌+◌, ◌-◌}
use native.Mathlib.Omega.{arith}
use lib.ListN.{take, drop}
use Rattle.rules.proofs.Number.{feeds_within}
use Rattle.rules.specs.Number.{line_feeds}
use Rattle.find.proofs.Runs.{feeds_run}
use Rattle.find.proofs.count.count_lf.Goals as goal
use Rattle.find.proofs.count.count_lf.Goals.{After-from-count}

-- the LFs of a run more
more : (c : After-from-count) → c.loop-run.count + c.from-count.result + line_feeds c.in-Some.rest.now ≡ line_feeds (take (c.args.end - c.args.start) (drop c.args.start c.args.s.now))
more c =
    let e = c.in-Some.ensures.cases in
    let run : c.from-count.result ≡ line_feeds (take 128 c.loop-run.left.now) = c.from-count.ensures ∙ c.count_run.ensures ∙ ap line_feeds e.0 in
    let rest : line_feeds c.in-Some.rest.now ≡ line_feeds (drop 128 c.loop-run.left.now) = ap line_feeds e.1 in
    omega (arith, run, rest, feeds_run 128 c.loop-run.left.now (omega (arith, e.2)), c.loop-run.invariant)

pub overflow_add-count : goal.overflow_add-count
overflow_add-count c =
    let a = c.args in
    omega (arith, more (goal.at.overflow_add-count c).After-from-count, feeds_within a.s.now a.start (a.end - a.start))

pub loop-run-preserved : goal.loop-run-preserved
loop-run-preserved c = more (goal.at.loop-run-preserved c).After-from-count

pub overflow_add-result : goal.overflow_add-result
overflow_add-result c =
    let a = c.args in
    omega (arith, c.from.ensures, c.count_run-2.ensures, c.loop-run.invariant, feeds_within a.s.now a.start (a.end - a.start))
