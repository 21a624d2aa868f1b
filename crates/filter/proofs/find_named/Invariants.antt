-- `filter::find_named` meets its contract. Invariant: what the trailers from `next` on give, or else the last that was found before
-- them, is the answer. Measure: the bytes ahead. Assumes nothing.
use mathlib.Core.Path.{◌≡◌}
use Prim.Native.Nat.{◌-◌, ◌≤◌}
use lib.ListN.{length}
use Rattle.rules.specs.Trailer.{lookup, walk_from}
use Rattle.filter.specs.Lookup.{looked_up}
use Rattle.filter.proofs.Steps.{or_last}
use Rattle.filter.proofs.find_named.Given as goal

abbrev pub invariant-loop-places : goal.invariant-loop-places
invariant-loop-places l =
    (l.next ≤ length l.body) × (or_last (lookup l.name (walk_from l.body l.next)) l.last ≡ looked_up (lookup l.name (walk_from l.body l.at)))

abbrev pub decreases-loop-places : goal.decreases-loop-places
decreases-loop-places l = length l.body - l.next
