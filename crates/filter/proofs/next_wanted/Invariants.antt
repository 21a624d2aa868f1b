-- `filter::next_wanted` meets its contract. Invariant: the answer of the walk that is left is that from `at` on. Assumes nothing.
use Rattle.std.specs.Fn.{FnReturnsAt}
use mathlib.Core.Bool.{Bool}
use mathlib.Core.List.{List}
use mathlib.Core.Path.{◌≡◌}
use Prim.Native.Nat.{ℕ}
use Rattle.rules.specs.Trailer.{those, walk_from}
use Rattle.trailer.specs.Walk.{next_of}
use Rattle.filter.specs.Lookup.{Computes}
use Rattle.filter.proofs.next_wanted.Given as goal

abbrev pub invariant-loop-places : goal.invariant-loop-places
invariant-loop-places g l =
    (l.places-iterator.body.now ≡ l.body) × ((passes : List ℕ → Bool) → Computes (FnReturnsAt g.F.Fn l.is_wanted) passes
    → next_of (those passes (walk_from l.body l.places-iterator.at)) ≡ next_of (those passes (walk_from l.body l.at)))
