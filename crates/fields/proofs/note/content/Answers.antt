-- `fields::note::content` meets its contract. Assumes nothing.
use mathlib.Core.Path.{refl, sym, ◌∙◌}
use Rattle.fields.proofs.Seen.{none_good, bad_content, good_content}
use Rattle.fields.proofs.note.content.Goals as goal

pub returns-in-Some : goal.returns-in-Some
returns-in-Some c =
    let a = c.args in
    good_content a.field a.message.now a.raw c.requires c.in-Some.part c.in-Some.ensures (sym c.is_good.ensures ∙ c.if-is_good.true)

pub returns-in_default : goal.returns-in_default
returns-in_default c = (bad_content c.args.field _ c.in-Some.ensures (sym c.is_good.ensures ∙ c.if-is_good.false), refl)

pub returns-in_default-2 : goal.returns-in_default-2
returns-in_default-2 c = (none_good c.args.field _ c.in_default.ensures, refl)
