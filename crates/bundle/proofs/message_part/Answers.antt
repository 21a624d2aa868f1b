-- `bundle::message_part` meets its contract. Assumes nothing.
use native.Mathlib.Omega.{arith}
use Rattle.bundle.proofs.Judged.{part_there}
use Rattle.bundle.proofs.message_part.Goals as goal

pub overflow_mul-k : goal.overflow_mul-k
overflow_mul-k c = omega (arith, part_there _ _ c.requires.0 c.requires.1)

pub overflow_add-k : goal.overflow_add-k
overflow_add-k c = omega (arith, part_there _ _ c.requires.0 c.requires.1)

pub read_u32-requires : goal.read_u32-requires
read_u32-requires c = omega (arith, part_there _ _ c.requires.0 c.requires.1)
