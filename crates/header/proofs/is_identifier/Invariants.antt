-- `header::is_identifier` meets its contract. The invariant: all bytes are digits if those read so far are and those left are. Assumes
-- nothing.
use mathlib.Core.Bool.{◌&&◌}
use mathlib.Core.Path.{◌≡◌}
use lib.ListN.{drop}
use Rattle.rules.specs.Lists.{all}
use Rattle.commit.specs.Grammar.{hex_digit}
use Rattle.header.proofs.is_identifier.Given as goal

abbrev pub invariant-loop-byte : goal.invariant-loop-byte
invariant-loop-byte l = all hex_digit l.content ≡ l.good && all hex_digit (drop l.byte-index l.content)
