-- `trailer::line::token_flags` meets its contract. Assumes nothing.
use native.Mathlib.Omega.{arith}
use lib.Bits.{and_le_r, bit_and, or_lt, xor_lt}
use Rattle.trailer.proofs.Tokens.{token_flags}
use Rattle.trailer.proofs.line.token_flags.Goals as goal

pub overflow_add-letter : goal.overflow_add-letter
overflow_add-letter c =
    omega (arith, or_lt 63 (bit_and c.args.word 9187201950435737471) 2314885530818453536 (omega (arith, and_le_r c.args.word 9187201950435737471)) (omega arith))

pub overflow_add-letter-2 : goal.overflow_add-letter-2
overflow_add-letter-2 c =
    omega (arith, or_lt 63 (bit_and c.args.word 9187201950435737471) 2314885530818453536 (omega (arith, and_le_r c.args.word 9187201950435737471)) (omega arith))

pub overflow_add-no_hyphen : goal.overflow_add-no_hyphen
overflow_add-no_hyphen c =
    omega (arith, xor_lt 63 (bit_and c.args.word 9187201950435737471) 3255307777713450285 (omega (arith, and_le_r c.args.word 9187201950435737471)) (omega arith))

pub returns : goal.returns
returns c = λ s e h q. token_flags c.args.word s e h q
