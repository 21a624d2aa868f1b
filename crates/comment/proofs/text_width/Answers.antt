-- `comment::text_width` meets its contract. Assumes nothing.
use mathlib.Core.Path.{sym, ◌∙◌}
use mathlib.Core.Bool.{true, false}
use borrow.Author.Rules.{rules}
use Rattle.comment.proofs.Laws.{width_text, width_none, width-end, width-takes}
use Rattle.comment.proofs.text_width.Goals as goal

pub returns-then-is_text-clause-value : goal.returns-then-is_text-clause-value
returns-then-is_text-clause-value g c text x =
    width_text text c.args.s.now c.args.at (search rules) (sym (x _ _ (search rules) c.is_text.ensures) ∙ c.if-is_text.true)

pub returns-then-s-at-ne92-clause-value : goal.returns-then-s-at-ne92-clause-value
returns-then-s-at-ne92-clause-value g c text x =
    let no = sym (x _ _ (search rules) c.is_text.ensures) ∙ c.if-is_text.false in
    width_none text c.args.s.now c.args.at (search rules) no c.if-s-at-ne92.true

pub returns-then-at-s-clause-value : goal.returns-then-at-s-clause-value
returns-then-at-s-clause-value g c text x =
    let no = sym (x _ _ (search rules) c.is_text.ensures) ∙ c.if-is_text.false in
    width-end text c.args.s.now c.args.at (search rules) no c.if-s-at-ne92.false c.if-at-s.true

pub returns-then-is_taken-clause-value : goal.returns-then-is_taken-clause-value
returns-then-is_taken-clause-value g c text x =
    let no = sym (x _ _ (search rules) c.is_text.ensures) ∙ c.if-is_text.false in
    width-takes text c.args.s.now c.args.at (search rules) no c.if-s-at-ne92.false true (search rules) (sym c.is_taken.ensures ∙ c.if-is_taken.true)

pub returns-clause-value : goal.returns-clause-value
returns-clause-value g c text x =
    let no = sym (x _ _ (search rules) c.is_text.ensures) ∙ c.if-is_text.false in
    width-takes text c.args.s.now c.args.at (search rules) no c.if-s-at-ne92.false false (search rules) (sym c.is_taken.ensures ∙ c.if-is_taken.false)
