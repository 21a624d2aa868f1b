-- `white::is_among` meets its contract. Assumes nothing.
use mathlib.Core.List.{List, [], ◌∷◌}
use mathlib.Core.Bool.{Bool, ◌||◌}
use mathlib.Core.Path.{◌≡◌, refl, ap, ◌∙◌}
use Prim.Native.Nat.{ℕ, ◌-◌}
use borrow.Author.Rules.{rules}
use lib.Dec.{eqb}
use lib.ListN.{take, drop}
use Rattle.std.proofs.lemmas.Iterator.{YieldsList-from_slice}
use Rattle.std.proofs.lemmas.Iterator.Search.{any_from_yields_List}
use Rattle.std.specs.List.{list_any}
use Rattle.rules.specs.Lists.{any}
use Rattle.rules.specs.White.{white_space}
use Rattle.white.proofs.is_among.Goals as goal

any_is : (c : ℕ) (xs : List ℕ) → list_any (λ y. eqb c y) xs ≡ any (eqb c) xs
any_is c [] = refl
any_is c (x ∷ xs) = ap (λ (b : Bool). eqb c x || b) (any_is c xs)

pub returns : goal.returns
returns c =
    let xs = take (c.args.end - c.args.from) (drop c.args.from white_space) in
    any_from_yields_List (eqb c.args.code) _ _ _ c.any.ensures.ran (YieldsList-from_slice xs (search rules)) (λ x b q k. search rules)
    ∙ any_is c.args.code xs
