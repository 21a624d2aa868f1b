-- `find::count::count_run` meets its contract. The invariant: the LFs among the bytes read so far are counted. Assumes nothing.
use native.Mathlib.Numerals.{add-one}
use native.Mathlib.Omega.{arith}
use Rattle.rules.proofs.Number.{feeds_within}
use Rattle.find.proofs.Runs.{feeds_next}
use Rattle.find.proofs.count.count_run.Goals as goal

pub overflow_add-count : goal.overflow_add-count
overflow_add-count c =
    let s = c.args.run.now in
    let i = c.loop-byte.byte-index in
    omega (arith, feeds_within s 0 i, (feeds_next s i c.loop-byte-test.true).1)

pub loop-byte-preserved : goal.loop-byte-preserved
loop-byte-preserved c =
    let i = c.loop-byte.byte-index in
    rw (add-one i) (omega (arith, (feeds_next c.args.run.now i c.loop-byte-test.true).0, c.loop-byte.invariant))
