-- The kinds that are printed of the lines of the last paragraph add up to t and n (kinds_counted). Assumes nothing.
use mathlib.Core.Bool.{Bool, true, false}
use mathlib.Core.List.{List, [], ◌∷◌, ◌++◌}
use mathlib.Core.Path.{◌≡◌, refl, ◌∙◌}
use Prim.Native.Nat.{◌+◌}
use native.Mathlib.Omega.{arith}
use lib.ListN.{length}
use Rattle.rules.specs.Lines.{Line, blank, folds, indented}
use Rattle.rules.specs.Lists.{All}
use Rattle.rules.specs.Manual.{other_lines, trailer_count}
use Rattle.rules.specs.Paragraph.{Group, IsGrouped, group_lines, grouped, lead_count, leads, other_count, recognised, solid}
use Rattle.rules.specs.Trailer.{trailer_line}
use Rattle.rules.proofs.Lists.{is_false}
use Rattle.rules.proofs.Manual.{other_lines_lem, trailer_count_lem}
use Rattle.explaining.specs.Kinds.{kinds, leading, others, sum}

-- what two ways of counting add up to
abbrev Counted : Bool → List Line → Type 0
Counted below ls = (sum leading (kinds below ls) ≡ trailer_count ls) × (sum others (kinds below ls) ≡ other_lines below ls)

kinds_add_up : (below : Bool) (ls : List Line) → All solid ls → Counted below ls
unfolding leads folds
kinds_add_up below [] s = (refl, refl)
kinds_add_up below (l ∷ ls) s =
    by (recognised l) (trailer_line l) (indented l) below refl refl refl refl (is_false (blank l) s.0) (λ b. kinds_add_up b ls s.1)
  where
    by : (r t i b : Bool) → recognised l ≡ r → trailer_line l ≡ t → indented l ≡ i → below ≡ b → blank l ≡ false
        → ((b : Bool) → Counted b ls) → Counted below (l ∷ ls)
    by true t i b e f g h n more = simp e (omega (arith, more true), omega (arith, more true))
    by false true i b e f g h n more = simp (e, f) (omega (arith, more true), omega (arith, more true))
    by false false true true e f g h n more = simp (e, f, g, h, n) (omega (arith, more true), omega (arith, more true))
    by false false true false e f g h n more = simp (e, f, g, h, n) (omega (arith, more false), omega (arith, more false))
    by false false false b e f g h n more = simp (e, f, g) (omega (arith, more false), omega (arith, more false))

pub kinds_counted : (top : List Line) (gs : List Group) → IsGrouped (grouped top gs) → All solid (top ++ group_lines gs)
    → (sum leading (kinds false (top ++ group_lines gs)) ≡ lead_count gs)
    × (sum others (kinds false (top ++ group_lines gs)) ≡ length top + other_count gs)
kinds_counted top gs w s =
    let (t, n) = kinds_add_up false (top ++ group_lines gs) s in (t ∙ trailer_count_lem top gs w, n ∙ other_lines_lem top gs w)
