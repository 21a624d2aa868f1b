-- `white::trim_end` meets its contract. The invariant: up to `end` as much is left to trim as at first. Assumes nothing.
use mathlib.Core.Path.{◌≡◌}
use Prim.Native.Nat.{◌≤◌}
use lib.ListN.{length, take}
use Rattle.rules.specs.White.{trim_end}
use Rattle.white.proofs.trim_end.Given as goal

abbrev pub invariant-loop-end : goal.invariant-loop-end
invariant-loop-end l = (l.end ≤ length l.s) × (trim_end l.s ≡ trim_end (take l.end l.s))

abbrev pub decreases-loop-end : goal.decreases-loop-end
decreases-loop-end l = l.end
