-- `content::number_of` meets its contract: the number does not overflow on the way. Assumes nothing.
use native.Mathlib.Omega.{arith}
use Rattle.content.proofs.Number.{half_start, next_digit, next_below}
use Rattle.content.proofs.number_of.Goals as goal

pub loop-byte-init : goal.loop-byte-init
loop-byte-init c = half_start c.args.v.now c.requires.digits

pub overflow_sub-number : goal.overflow_sub-number
overflow_sub-number c = (next_digit c.loop-byte.invariant c.loop-byte-test.true).0

pub overflow_mul-number : goal.overflow_mul-number
overflow_mul-number c = omega (arith, next_below c.loop-byte.invariant c.loop-byte-test.true c.requires.few c.requires.digits)

pub overflow_add-number : goal.overflow_add-number
overflow_add-number c = omega (arith, next_below c.loop-byte.invariant c.loop-byte-test.true c.requires.few c.requires.digits)
