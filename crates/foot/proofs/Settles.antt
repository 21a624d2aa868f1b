-- When lines settle what their last paragraph tells: exactly if a blank line stands above it (closed_is); then nothing above it changes
-- the tree's paragraph, nor the lines looked at (foot_of, looked_below). Assumes nothing.
use mathlib.Core.Bool.{Bool, true, false, not, ◌&&◌, ◌||◌}
use mathlib.Core.List.{List, [], ◌∷◌, ◌++◌}
use mathlib.Core.Path.{◌≡◌, refl, sym, ◌∙◌}
use lib.Dec.{T}
use Rattle.rules.proofs.Above.{Closed, Foot, settled}
use Rattle.rules.specs.Lines.{Line, blank}
use Rattle.rules.specs.Lists.{any}
use Rattle.rules.specs.Paragraph.{Above, nothing, at_top, under, Body, empty, ended, put, parse, solid}
use Rattle.foot.specs.Foot.{closing, looked, settles}

-- there is a last paragraph
abbrev some : Body → Bool
some (empty bs) = false
some (ended a p bs) = true

some-put : (b : Bool) (l : Line) (t : Body) → some (put b l t) ≡ (not b || some t)
some-put true l (empty bs) = refl
some-put false l (empty bs) = refl
some-put true l (ended nothing p bs) = refl
some-put false l (ended nothing p bs) = refl
some-put true l (ended (at_top x) p bs) = refl
some-put false l (ended (at_top x) p bs) = refl
some-put true l (ended (under ls m x) p bs) = refl
some-put false l (ended (under ls m x) p bs) = refl

some_is : (ls : List Line) → some (parse ls) ≡ any solid ls
some_is [] = refl
some_is (l ∷ ls) = some-put (blank l) l (parse ls) ∙ rw (some_is ls)

-- a blank line stands above it
abbrev pub closed : Body → Bool
closed (empty bs) = false
closed (ended nothing p bs) = false
closed (ended (at_top b) p bs) = true
closed (ended (under ls l b) p bs) = true

closed-put : (b : Bool) (l : Line) (t : Body) → closed (put b l t) ≡ (b && some t || closed t)
closed-put true l (empty bs) = refl
closed-put false l (empty bs) = refl
closed-put true l (ended nothing p bs) = refl
closed-put false l (ended nothing p bs) = refl
closed-put true l (ended (at_top x) p bs) = refl
closed-put false l (ended (at_top x) p bs) = refl
closed-put true l (ended (under ls m x) p bs) = refl
closed-put false l (ended (under ls m x) p bs) = refl

pub closed_is : (ls : List Line) → closed (parse ls) ≡ settles ls
closed_is [] = refl
closed_is (l ∷ ls) = closed-put (blank l) l (parse ls) ∙ rw (some_is ls, closed_is ls)

-- K12's premise
tree_foot : (ls : List Line) (t : Body) → parse ls ≡ t → T (closed t) → Foot ls
tree_foot ls (empty bs) e c = absurd c
tree_foot ls (ended nothing p bs) e c = absurd c
tree_foot ls (ended (at_top b) p bs) e c = record { above = at_top b; paragraph = p; below = bs; tree = e; closed = tt }
tree_foot ls (ended (under us l b) p bs) e c = record { above = under us l b; paragraph = p; below = bs; tree = e; closed = tt }

pub foot_of : (ls : List Line) → T (settles ls) → Foot ls
foot_of ls h = tree_foot ls (parse ls) refl (rw (closed_is ls) h)

-- ---- the lines looked at

closing_one : (a : Above) → Closed a → closing a ≡ 1
closing_one nothing c = absurd c
closing_one (at_top b) c = refl
closing_one (under ls l b) c = refl

pub looked_below : (us ls : List Line) → Foot ls → looked (parse (us ++ ls)) ≡ looked (parse ls)
looked_below us ls f =
    let s = settled us ls f.above f.paragraph f.below f.tree f.closed in
    rw (s.tree, f.tree, closing_one s.above s.still_closed, closing_one f.above f.closed)

-- ---- with one line more above, which may be any

-- a line and the closing blank line stand above the paragraph
abbrev pub is_under : Body → Bool
is_under (empty bs) = false
is_under (ended nothing p bs) = false
is_under (ended (at_top b) p bs) = false
is_under (ended (under ls l b) p bs) = true

under_put : (b : Bool) (l : Line) (t : Body) → is_under (put b l t) ≡ closed t
under_put true l (empty bs) = refl
under_put false l (empty bs) = refl
under_put true l (ended nothing p bs) = refl
under_put false l (ended nothing p bs) = refl
under_put b l (ended (at_top c) p bs) = refl
under_put b l (ended (under ls m c) p bs) = refl

pub settles_under : (l : Line) (ls : List Line) → settles ls ≡ is_under (parse (l ∷ ls))
settles_under l ls = sym (under_put (blank l) l (parse ls) ∙ closed_is ls)
