-- `text::line::is_blank_run` meets its contract. The invariant: all of it is blank just where the bytes read so far are and all after them is.
-- Assumes nothing.
use mathlib.Core.Bool.{◌&&◌}
use mathlib.Core.Path.{◌≡◌}
use lib.ListN.{drop}
use Rattle.rules.specs.Bytes.{blank_byte}
use Rattle.rules.specs.Lists.{all}
use Rattle.text.proofs.line.is_blank_run.Given as goal

abbrev pub invariant-loop-byte : goal.invariant-loop-byte
invariant-loop-byte l = all blank_byte l.run ≡ l.blank && all blank_byte (drop l.byte-index l.run)
