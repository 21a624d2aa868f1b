-- `find::count::count_lf` meets its contract. The invariant: what is counted and the LFs of what is left are all of them. Assumes nothing.
use mathlib.Core.Path.{◌≡◌}
use Prim.Native.Nat.{◌+◌, ◌-◌}
use lib.ListN.{length, take, drop}
use Rattle.rules.specs.Number.{line_feeds}
use Rattle.find.proofs.count.count_lf.Given as goal

abbrev pub invariant-loop-run : goal.invariant-loop-run
invariant-loop-run l = l.count + line_feeds l.left ≡ line_feeds (take (l.end - l.start) (drop l.start l.s))

abbrev pub decreases-loop-run : goal.decreases-loop-run
decreases-loop-run l = length l.left
