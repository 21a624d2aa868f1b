-- `content::number_of` meets its contract. The invariant: `number` is what the digits before this one make. Assumes nothing.
use Rattle.content.proofs.Number.{Half}
use Rattle.content.proofs.number_of.Given as goal

abbrev pub invariant-loop-byte : goal.invariant-loop-byte
invariant-loop-byte l = Half l.v l.number l.byte-index
