-- How the last non-blank line of a body ended: exactly one answer, and one line more below, as a scan from the end sees it.
-- Assumes nothing.
use Rattle.std.specs.Prelude.{Option, None, Some, if◌then◌else◌}
use mathlib.Core.Bool.{Bool, true, false}
use mathlib.Core.List.{List, [], ◌∷◌, ◌++◌}
use mathlib.Core.Path.{◌≡◌, refl, sym, ap, ◌∙◌}
use lib.Dec.{T}
use Rattle.rules.specs.Lines.{Line, blank, ending}
use Rattle.rules.specs.Lists.{All}
use Rattle.rules.specs.Paragraph.{LastEnding, last, nowhere, ending_under, last_ending, solid}
use Rattle.rules.specs.declared.Ending.{Ending}
use Rattle.rules.proofs.Lists.{is_true}

-- ---- one line more at the end

under_some : (l : Line) (o : Option Ending) (e : Ending) → o ≡ Some e → ending_under l o ≡ Some e
under_some l o e q = rw q

pub last_solid : (ls : List Line) (l : Line) → solid l ≡ true → last_ending (ls ++ l ∷ []) ≡ Some (ending l)
last_solid [] l q = rw q
last_solid (k ∷ ls) l q = under_some k (last_ending (ls ++ l ∷ [])) (ending l) (last_solid ls l q)

pub last_blank : (ls : List Line) (l : Line) → solid l ≡ false → last_ending (ls ++ l ∷ []) ≡ last_ending ls
last_blank [] l q = rw q
last_blank (k ∷ ls) l q = ap (ending_under k) (last_blank ls l q)

-- ---- there is an answer, and no other

none_solid : (ls : List Line) → All blank ls → last_ending ls ≡ None
none_solid [] b = refl
none_solid (l ∷ ls) b = rw (none_solid ls b.1, is_true (blank l) b.0)

onto : (l : Line) {ls : List Line} {o : Option Ending} → LastEnding ls o → LastEnding (l ∷ ls) (ending_under l o)
onto l (last above k blanks q s b) = last (l ∷ above) k blanks (ap (λ (ks : List Line). l ∷ ks) q) s b
onto l {ls} (nowhere b) = by (blank l) refl
  where
    by : (x : Bool) → blank l ≡ x → LastEnding (l ∷ ls) (ending_under l None)
    by true q = rw q (nowhere (rw q tt, b))
    by false q = rw q (last [] l ls refl (rw q tt) b)

pub last_is : (ls : List Line) → LastEnding ls (last_ending ls)
last_is [] = nowhere tt
last_is (l ∷ ls) = onto l (last_is ls)

last_there : (above : List Line) (l : Line) (blanks : List Line) → T (solid l) → All blank blanks → last_ending (above ++ l ∷ blanks) ≡ Some (ending l)
last_there [] l blanks s b = rw (none_solid blanks b, is_true (solid l) s)
last_there (k ∷ above) l blanks s b = under_some k (last_ending (above ++ l ∷ blanks)) (ending l) (last_there above l blanks s b)

pub last_only : {ls : List Line} {o : Option Ending} → LastEnding ls o → o ≡ last_ending ls
last_only (last above l blanks q s b) = sym (ap last_ending q ∙ last_there above l blanks s b)
last_only {ls} (nowhere b) = sym (none_solid ls b)

pub exactly_one_last : (ls : List Line) →
    (o : Option Ending) × LastEnding ls o × ((p : Option Ending) → LastEnding ls p → p ≡ o)
exactly_one_last ls = (last_ending ls, last_is ls, λ p r. last_only r)
