-- `paragraph::trailer_block_start` meets its contract. Assumes nothing.
use mathlib.Core.Bool.{true, false}
use mathlib.Core.Path.{sym, ◌∙◌}
use native.Mathlib.Omega.{arith}
use Rattle.paragraph.proofs.Scanned.{paragraph_within, start_decided}
use Rattle.paragraph.proofs.trailer_block_start.Goals as goal

pub is_block-requires : goal.is_block-requires
is_block-requires c =
    let few = (paragraph_within c.args.body.now _ c.last_paragraph-paragraph.ensures).1 in
    (omega (arith, few, c.well_formed), omega (arith, few, c.well_formed))

pub returns-then-not-is_block : goal.returns-then-not-is_block
returns-then-not-is_block c =
    let no = sym c.if-not-is_block.true ∙ c.is_block.ensures in
    sym (start_decided _ _ false c.last_paragraph-paragraph.ensures no)

pub end_above-requires : goal.end_above-requires
end_above-requires c = (paragraph_within c.args.body.now _ c.last_paragraph-paragraph.ensures).0

pub returns : goal.returns
returns c =
    let yes = sym c.if-not-is_block.false ∙ c.is_block.ensures in
    c.end_above.ensures ∙ sym (start_decided _ _ true c.last_paragraph-paragraph.ensures yes)
