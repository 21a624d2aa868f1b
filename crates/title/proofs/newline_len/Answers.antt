-- `title::newline_len` meets its contract. Assumes nothing.
use mathlib.Core.Bool.{Bool, ◌&&◌}
use mathlib.Core.List.{List, [], ◌∷◌}
use mathlib.Core.Path.{◌≡◌, refl, sym, ap, ◌∙◌}
use Prim.Native.Nat.{ℕ}
use lib.Dec.{eqb}
use Rattle.std.specs.List.{starts_with}
use Rattle.rules.specs.Lists.{starts}
use Rattle.rules.specs.Title.{line_end}
use Rattle.title.proofs.newline_len.Goals as goal

same_starts : (p s : List ℕ) → starts p s ≡ starts_with eqb s p
same_starts [] s = refl
same_starts (x ∷ p) [] = refl
same_starts (x ∷ p) (y ∷ s) = ap (λ (b : Bool). eqb x y && b) (same_starts p s)

pub returns-then-starts_with : goal.returns-then-starts_with
unfolding line_end
returns-then-starts_with c = simp (same_starts, sym c.starts_with.ensures.value ∙ c.if-starts_with.true)

pub returns-then-starts_with-2 : goal.returns-then-starts_with-2
unfolding line_end
returns-then-starts_with-2 c =
    let crlf = sym c.starts_with.ensures.value ∙ c.if-starts_with.false in
    simp (same_starts, crlf, sym c.starts_with-2.ensures.value ∙ c.if-starts_with-2.true)

pub returns : goal.returns
unfolding line_end
returns c =
    let crlf = sym c.starts_with.ensures.value ∙ c.if-starts_with.false in
    simp (same_starts, crlf, sym c.starts_with-2.ensures.value ∙ c.if-starts_with-2.false)
