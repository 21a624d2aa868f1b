-- `find::has_lf` meets its contract. The invariant: an LF was found if one is among the bytes read so far. Assumes nothing.
use mathlib.Core.Path.{◌≡◌}
use lib.ListN.{take}
use Rattle.rules.specs.Lists.{any}
use Rattle.find.specs.Find.{is_lf}
use Rattle.find.proofs.has_lf.Given as goal

abbrev pub invariant-loop-byte : goal.invariant-loop-byte
invariant-loop-byte l = l.found ≡ any is_lf (take l.byte-index l.run)
