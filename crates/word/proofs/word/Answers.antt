-- `word::word` meets its contract. Assumes nothing.
use Rattle.std.specs.Int.{from_le_bytes, w64}
use mathlib.Core.Path.{◌≡◌, ap, ◌∙◌}
use native.Mathlib.Omega.{arith}
use borrow.Author.Rules.{rules}
use Rattle.word.proofs.Lanes.{packed_is}
use Rattle.word.proofs.word.Goals as goal

pub returns : goal.returns
returns c =
    let s = c.args.run.now in
    let same : c.in-Some.bytes.now ≡ s = c.in-Some.ensures.cases.same in
    (c.from_le_bytes.ensures ∙ ap (from_le_bytes w64) same ∙ packed_is s (search rules), λ i. omega (arith, c.type_inv.run i))
