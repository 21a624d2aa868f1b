-- `counting::Report::add_trailers` meets its contract. Invariant: the counts so far and those of the walk that is left are all.
-- Assumes nothing.
use mathlib.Core.Path.{◌≡◌}
use Rattle.counting.proofs.Turns.{Walked}
use Rattle.counting.specs.Answers.{seven}
use Rattle.counting.proofs.Report.add_trailers.Given as goal

abbrev pub invariant-loop-places : goal.invariant-loop-places
invariant-loop-places l =
    (l.places-iterator.body.now ≡ l.message) × Walked l.message (seven l.initial.self) (seven l.self) l.at l.places-iterator.at l.found
    × (l.self.without ≡ l.initial.self.without)
