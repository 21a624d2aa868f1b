-- `fields::tally::tally_fields` meets its contract. Invariant: what is found so far, and in the walk that is left, is found in all.
-- Assumes nothing.
use Rattle.fields.proofs.Going.{AllGoing}
use Rattle.fields.proofs.tally.tally_fields.Given as goal

abbrev pub invariant-loop-places : goal.invariant-loop-places
invariant-loop-places l = AllGoing l.message l.at l.tallies l.places-iterator.body.now l.places-iterator.at
