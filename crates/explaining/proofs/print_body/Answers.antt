-- `explaining::print_body` is safe: the last paragraph and the block start are in the body, and no count is above its bytes.
use native.Mathlib.Omega.{arith}
use Rattle.paragraph.proofs.Scanned.{paragraph_within}
use Rattle.rules.proofs.Paragraph.{start_within}
use Rattle.explaining.proofs.print_body.Goals as goal

pub slice_bounds-print_paragraph-count : goal.slice_bounds-print_paragraph-count
slice_bounds-print_paragraph-count g c =
    (paragraph_within c.args.body.now c.last_paragraph-paragraph.result c.last_paragraph-paragraph.ensures).0

pub slice_bounds-print_paragraph-start : goal.slice_bounds-print_paragraph-start
slice_bounds-print_paragraph-start g c =
    (paragraph_within c.args.body.now c.last_paragraph-paragraph.result c.last_paragraph-paragraph.ensures).0

pub print_counts-requires : goal.print_counts-requires
print_counts-requires g c =
    let few = (paragraph_within c.args.body.now c.last_paragraph-paragraph.result c.last_paragraph-paragraph.ensures).1 in
    (omega (arith, few), omega (arith, few))

pub print_blocks-requires : goal.print_blocks-requires
print_blocks-requires g c = rw c.trailer_block_start-start.ensures (start_within c.args.body.now)
