-- `text::line::is_indented` meets its contract. Assumes nothing.
use Rattle.std.specs.List.{slice_get}
use Rattle.std.specs.Option.{option_copied}
use Rattle.std.specs.Prelude.{MatchOption, None, Some}
use Rattle.std.specs.declared.option.Option.{Option}
use denote.Ref.{Bor}
use mathlib.Core.Bool.{Bool, false}
use mathlib.Core.List.{List, [], ◌∷◌}
use mathlib.Core.Path.{◌≡◌, ap, ◌∙◌}
use Prim.Native.Nat.{ℕ}
use borrow.Author.Rules.{rules}
use Rattle.rules.specs.Bytes.{blank_byte}
use Rattle.rules.specs.Lines.{indented}
use Rattle.text.proofs.line.is_indented.Goals as goal

by_first : (s : List ℕ) (r : Option (Bor ℕ)) (b : Bool) → option_copied r ≡ slice_get s 0
    → MatchOption r (b ≡ false) (λ x. b ≡ blank_byte x.now) → b ≡ indented s
unfolding indented
by_first [] None b e f = f
by_first [] (Some x) b e f = cc
by_first (y ∷ s) None b e f = cc
by_first (y ∷ s) (Some x) b e f = let same : x.now ≡ y = cc in f ∙ ap blank_byte same

pub returns : goal.returns
returns c = by_first c.args.line.now c.first.result c.is_some_and.result c.first.ensures.value (search rules)
