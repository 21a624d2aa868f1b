-- `planning::count` meets its contract. Invariant: the counts so far and those of the walk that is left are all.
use mathlib.Core.Path.{◌≡◌}
use Prim.Native.Nat.{◌+◌, ◌≤◌}
use lib.ListN.{length}
use Rattle.rules.specs.Trailer.{walk_from}
use Rattle.listing.specs.Listing.{values_of}
use Rattle.planning.proofs.count.Given as goal

abbrev pub invariant-loop-places : goal.invariant-loop-places
invariant-loop-places l =
    let from = l.places-iterator.at in
    (l.places-iterator.body.now ≡ l.input) × (l.records ≤ from) × (l.bytes ≤ from)
    × (l.records + length (walk_from l.input from) ≡ length (walk_from l.input l.at))
    × (l.bytes + length (values_of (walk_from l.input from)) ≡ length (values_of (walk_from l.input l.at)))
