-- `find::count::count_run` meets its contract. The invariant: the LFs among the bytes read so far are counted. Assumes nothing.
use mathlib.Core.Path.{◌≡◌}
use lib.ListN.{take}
use Rattle.rules.specs.Number.{line_feeds}
use Rattle.find.proofs.count.count_run.Given as goal

abbrev pub invariant-loop-byte : goal.invariant-loop-byte
invariant-loop-byte l = l.count ≡ line_feeds (take l.byte-index l.run)
