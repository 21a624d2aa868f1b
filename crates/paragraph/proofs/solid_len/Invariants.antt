-- `paragraph::solid_len` meets its contract. Invariant: all behind `len` is blank. Assumes nothing.
use mathlib.Core.Bool.{true}
use mathlib.Core.Path.{◌≡◌}
use Prim.Native.Nat.{◌≤◌}
use lib.ListN.{length, drop}
use Rattle.rules.specs.Bytes.{blank_byte}
use Rattle.rules.specs.Lists.{all}
use Rattle.paragraph.proofs.solid_len.Given as goal

abbrev pub invariant-loop-len : goal.invariant-loop-len
invariant-loop-len l = (l.len ≤ length l.body) × (all blank_byte (drop l.len l.body) ≡ true)

abbrev pub decreases-loop-len : goal.decreases-loop-len
decreases-loop-len l = l.len
