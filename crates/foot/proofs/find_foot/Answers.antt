-- `foot::find_foot` meets its contract.
use Rattle.std.specs.Prelude.{length, if◌then◌else◌}
use mathlib.Core.Path.{◌≡◌, sym, ◌∙◌}
use native.Mathlib.Omega.{arith}
use Rattle.paragraph.proofs.Scanned.{paragraph_within}
use Rattle.paragraph.specs.Scan.{is_block}
use Rattle.foot.proofs.Finding.{found_answer, more_answer, start_is, top_inside}
use Rattle.foot.proofs.Told.{foot_inside}
use Rattle.foot.proofs.find_foot.Goals as goal
use Rattle.foot.proofs.find_foot.Goals.{Joined-is_block, else-is_block, then-is_block}

pub line_start-top-requires : goal.line_start-top-requires
line_start-top-requires c =
    (paragraph_within c.args.tail.now c.last_paragraph-paragraph.result c.last_paragraph-paragraph.ensures).0

pub returns-then-whole-top : goal.returns-then-whole-top
returns-then-whole-top c =
    let a = c.args in
    more_answer a.tail.now c.last_paragraph-paragraph.result c.last_paragraph-paragraph.ensures a.whole c.line_start-top.result c.line_start-top.ensures
    c.if-whole-top.true

pub is_block-requires : goal.is_block-requires
is_block-requires c =
    let (start, few) = paragraph_within c.args.tail.now c.last_paragraph-paragraph.result c.last_paragraph-paragraph.ensures in
    (omega (arith, few, c.well_formed), omega (arith, few, c.well_formed))

-- where the walk begins
at_is : (c : Joined-is_block) → c.if-is_block.at ≡ (if is_block c.last_paragraph-paragraph.result.scan then c.last_paragraph-paragraph.result.start else length c.args.tail.now)
at_is c =
    elim c.if-is_block.branch [
      | then-is_block w ↦ rw (sym c.is_block.ensures ∙ w.if-is_block.true) w.at-is
      | else-is_block w ↦ rw (sym c.is_block.ensures ∙ w.if-is_block.false) w.at-is
    ]

pub count_lines-lines-requires : goal.count_lines-lines-requires
count_lines-lines-requires c =
    let a = c.args in
    let start = at_is c ∙ sym (start_is a.tail.now c.last_paragraph-paragraph.result c.last_paragraph-paragraph.ensures) in
    omega (arith, start, foot_inside a.tail.now)

pub count_lines-looked-requires : goal.count_lines-looked-requires
count_lines-looked-requires c =
    top_inside c.args.tail.now c.last_paragraph-paragraph.result c.last_paragraph-paragraph.ensures c.line_start-top.result c.line_start-top.ensures

pub returns : goal.returns
returns c =
    let a = c.args in
    found_answer a.tail.now c.last_paragraph-paragraph.result c.last_paragraph-paragraph.ensures a.whole c.line_start-top.result
    c.if-is_block.at c.count_lines-lines.result c.count_lines-looked.result c.line_start-top.ensures c.if-whole-top.false
    (at_is (goal.at.returns c).Joined-is_block) c.count_lines-lines.ensures c.count_lines-looked.ensures
