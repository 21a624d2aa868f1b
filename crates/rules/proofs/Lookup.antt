-- The named lookup: exactly one answer belongs to a name and a walk, and it is `lookup`. Assumes nothing.
use Rattle.std.specs.Prelude.{Option, None, Some, if◌then◌else◌}
use mathlib.Core.Bool.{Bool, true, false}
use mathlib.Core.List.{List, [], ◌∷◌, ◌++◌}
use mathlib.Core.Path.{◌≡◌, refl, sym, ap, ◌∙◌}
use Prim.Native.Nat.{ℕ}
use lib.Dec.{T}
use Rattle.rules.specs.Lists.{All}
use Rattle.rules.specs.Trailer.{Trailer, token_of, asked, finally, lacks, last, lookup, nowhere, Looked, those}
use Rattle.rules.proofs.Lists.{is_false, is_true}

-- ---- the last of a list

abbrev latest : Trailer → Option Trailer → Trailer
latest t None = t
latest t (Some u) = u

finally-cons : (t : Trailer) (ts : List Trailer) → finally (t ∷ ts) ≡ Some (latest t (finally ts))
finally-cons t [] = refl
finally-cons t (u ∷ ts) = rw (finally-cons u ts)

finally_end : (ts : List Trailer) (t : Trailer) → finally (ts ++ (t ∷ [])) ≡ Some t
finally_end [] t = refl
finally_end (u ∷ ts) t = rw (finally-cons u (ts ++ (t ∷ [])), finally_end ts t)

-- ---- there is an answer

module _ (name : List ℕ) where
  onto : (t : Trailer) {ts : List Trailer} {o : Option Trailer} (b : Bool) → asked name (token_of t) ≡ b → Looked name ts o
      → Looked name (t ∷ ts) (if b then Some (latest t o) else o)
  onto t true q (last before after e a l) = last (t ∷ before) after (ap (λ (us : List Trailer). t ∷ us) e) a l
  onto t {ts} true q (nowhere l) = last [] ts refl (rw q tt) l
  onto t false q (last before after e a l) = last (t ∷ before) after (ap (λ (us : List Trailer). t ∷ us) e) a l
  onto t false q (nowhere l) = nowhere (rw q tt, l)

  kept_last : (b : Bool) (t : Trailer) (us : List Trailer) → finally (if b then t ∷ us else us) ≡ (if b then Some (latest t (finally us)) else finally us)
  kept_last true t us = finally-cons t us
  kept_last false t us = refl

  pub looked_up : (ts : List Trailer) → Looked name ts (lookup name ts)
  looked_up [] = nowhere tt
  looked_up (t ∷ ts) = rw (kept_last (asked name (token_of t)) t (those (asked name) ts)) (onto t (asked name (token_of t)) refl (looked_up ts))

  -- ---- and no other

  those_none : (ts : List Trailer) → All (lacks name) ts → those (asked name) ts ≡ []
  those_none [] l = refl
  those_none (t ∷ ts) l = rw (is_false (asked name (token_of t)) l.0) (those_none ts l.1)

  those-append : (ts us : List Trailer) → those (asked name) (ts ++ us) ≡ those (asked name) ts ++ those (asked name) us
  those-append [] us = refl
  those-append (t ∷ ts) us =
      elim (asked name (token_of t)) as (λ b. (if b then t ∷ those (asked name) (ts ++ us) else those (asked name) (ts ++ us))
      ≡ (if b then t ∷ those (asked name) ts else those (asked name) ts) ++ those (asked name) us) [
        | true ↦ ap (λ (vs : List Trailer). t ∷ vs) (those-append ts us)
        | false ↦ those-append ts us
      ]

  pub looked_only : {ts : List Trailer} {o : Option Trailer} → Looked name ts o → o ≡ lookup name ts
  looked_only (last {t} before after e a l) =
      sym (rw (e, those-append before (t ∷ after), is_true (asked name (token_of t)) a, those_none after l) (finally_end (those (asked name) before) t))
  looked_only {ts} (nowhere l) = rw (those_none ts l)

-- what document 02 says of the lookup holds of one answer
pub exactly_one_lookup : (name : List ℕ) (ts : List Trailer) →
    (o : Option Trailer) × Looked name ts o × ((p : Option Trailer) → Looked name ts p → p ≡ o)
exactly_one_lookup name ts = (lookup name ts, looked_up name ts, λ p r. looked_only name r)

-- "an empty name is found nowhere"
pub empty_name : (ts : List Trailer) → lookup [] ts ≡ None
unfolding asked
empty_name [] = refl
empty_name (t ∷ ts) = empty_name ts
