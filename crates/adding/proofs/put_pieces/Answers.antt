-- `adding::put_pieces` meets its contract. Assumes nothing.
use mathlib.Core.List.{[]}
use mathlib.Core.Path.{◌≡◌, sym, ap, ◌∙◌}
use Prim.Native.Nat.{◌+◌, ◌≤◌}
use native.Mathlib.Omega.{arith}
use lib.ListN.{length, get_or, drop}
use Rattle.rules.specs.Lists.{join}
use Rattle.adding.proofs.Writing as laws
use Rattle.adding.proofs.put_pieces.Goals as goal

pub copy_at-requires : goal.copy_at-requires
copy_at-requires c =
    let ps = c.args.pieces.now in
    let j = c.loop-piece.piece-index in
    omega (arith, ap length (laws.lent_is ps j), laws.length_next (laws.bytes_of ps) j (laws.lent_there ps j c.loop-piece-test.true), c.loop-piece.invariant.0, c.requires)

pub loop-piece-preserved : goal.loop-piece-preserved
loop-piece-preserved c =
    let ps = c.args.pieces.now in
    let o = c.loop-piece in
    let j = o.piece-index in
    let there = laws.lent_there ps j c.loop-piece-test.true in
    let p = get_or (laws.bytes_of ps) j [] in
    let is : laws.lent_at ps j ≡ p = sym (laws.lent_is ps j) in
    let fits : o.at + length (join (drop j (laws.bytes_of ps))) ≤ length o.out = omega (arith, o.invariant.0, c.requires) in (
      omega (arith, ap length is, laws.length_next (laws.bytes_of ps) j there, o.invariant.0),
      rw (c.copy_at.ensures, is) (laws.piece_next (laws.bytes_of ps) j there o.out o.at fits) ∙ o.invariant.1,
    )
