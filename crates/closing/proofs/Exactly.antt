-- "exactly one": a field has one content exactly where one trailer alone has its name (one_trailer, trailer_one). The answer goes by the
-- contents alone (same_answer): it does not change with the order of trailers of different names, nor with others among them
-- (any_order, others_aside). Assumes nothing.
use Rattle.std.specs.Prelude.{if◌then◌else◌}
use mathlib.Core.Bool.{Bool, true, false}
use mathlib.Core.List.{List, [], ◌∷◌, ◌++◌, map}
use mathlib.Core.Logic.{◌⊎◌, inl, inr}
use mathlib.Core.Path.{◌≡◌, refl, sym, ap, ◌∙◌}
use Prim.Native.Nat.{ℕ}
use lib.Dec.{T}
use Rattle.rules.specs.Lists.{All}
use Rattle.rules.specs.Trailer.{Trailer, those, token_of}
use Rattle.rules.proofs.Lists.{is_true, is_false}
use Rattle.closing.specs.Closing.{has, content, contents, other, One, answer}
use Rattle.closing.specs.declared.Field.{Field}

none_has : (f : Field) (ts : List Trailer) → contents f ts ≡ [] → All (other f) ts
none_has f [] e = tt
none_has f (t ∷ ts) e = at (has f (token_of t)) refl (none_has f ts)
  where
    at : (b : Bool) → has f (token_of t) ≡ b → (contents f ts ≡ [] → All (other f) ts) → All (other f) (t ∷ ts)
    at true q h = absurd (let k : content t ∷ contents f ts ≡ [] = rw q at e in cc)
    at false q h = (rw q tt, h (rw q at e))

has_none : (f : Field) (ts : List Trailer) → All (other f) ts → contents f ts ≡ []
has_none f [] a = refl
has_none f (t ∷ ts) a = rw (is_false (has f (token_of t)) a.0) (has_none f ts a.1)

pub one_trailer : (f : Field) (ts : List Trailer) (v : List ℕ) → contents f ts ≡ v ∷ [] → One f ts v
one_trailer f [] v e = absurd (cc)
one_trailer f (t ∷ ts) v e = at (has f (token_of t)) refl (one_trailer f ts v)
  where
    at : (b : Bool) → has f (token_of t) ≡ b → (contents f ts ≡ v ∷ [] → One f ts v) → One f (t ∷ ts) v
    at true q h =
        let k : content t ∷ contents f ts ≡ v ∷ [] = rw q at e in
        let n : contents f ts ≡ [] = cc in
        record {
          before = [];
          the_trailer = t;
          after = ts;
          read = refl;
          named = rw q tt;
          others_before = tt;
          others_after = none_has f ts n;
          value = cc;
        }
    at false q h =
        let r : One f ts v = h (rw q at e) in
        record {
          before = t ∷ r.before;
          the_trailer = r.the_trailer;
          after = r.after;
          read = ap (λ (us : List Trailer). t ∷ us) r.read;
          named = r.named;
          others_before = (rw q tt, r.others_before);
          others_after = r.others_after;
          value = r.value;
        }

contents-append : (f : Field) (us ts : List Trailer) → contents f (us ++ ts) ≡ contents f us ++ contents f ts
contents-append f [] ts = refl
contents-append f (u ∷ us) ts = at (has f (token_of u)) (contents-append f us ts)
  where
    at : (b : Bool) → contents f (us ++ ts) ≡ contents f us ++ contents f ts →
        map content (if b then u ∷ those (has f) (us ++ ts) else those (has f) (us ++ ts))
        ≡ map content (if b then u ∷ those (has f) us else those (has f) us) ++ contents f ts
    at true h = ap (λ (cs : List (List ℕ)). content u ∷ cs) h
    at false h = h

pub trailer_one : (f : Field) (ts : List Trailer) (v : List ℕ) → One f ts v → contents f ts ≡ v ∷ []
trailer_one f ts v r =
    ap (contents f) r.read ∙ contents-append f r.before (r.the_trailer ∷ r.after)
    ∙ rw (has_none f r.before r.others_before, is_true (has f (token_of r.the_trailer)) r.named, has_none f r.after r.others_after, r.value)

-- ---- the answer goes by the contents alone

pub same_answer : (ts us : List Trailer) → ((f : Field) → contents f ts ≡ contents f us) → answer ts ≡ answer us
unfolding answer
same_answer ts us e = rw (e Field.Vehicle, e Field.Records, e Field.OffloadState)

-- "among other trailers": one that has none of the names changes nothing
pub others_aside : (us : List Trailer) (t : Trailer) (ts : List Trailer) → ((f : Field) → T (other f t)) → answer (us ++ t ∷ ts) ≡ answer (us ++ ts)
others_aside us t ts n =
    same_answer (us ++ t ∷ ts) (us ++ ts)
    (λ f. contents-append f us (t ∷ ts) ∙ rw (is_false (has f (token_of t)) (n f)) (sym (contents-append f us ts)))

-- "in any order": neighbours that have not the same name may change places
pub any_order : (us : List Trailer) (t u : Trailer) (ts : List Trailer) → ((f : Field) → T (other f t) ⊎ T (other f u)) →
    answer (us ++ t ∷ u ∷ ts) ≡ answer (us ++ u ∷ t ∷ ts)
any_order us t u ts n = same_answer (us ++ t ∷ u ∷ ts) (us ++ u ∷ t ∷ ts) (λ f. by f (n f))
  where
    by : (f : Field) → T (other f t) ⊎ T (other f u) → contents f (us ++ t ∷ u ∷ ts) ≡ contents f (us ++ u ∷ t ∷ ts)
    by f (inl m) =
        contents-append f us (t ∷ u ∷ ts)
        ∙ rw (is_false (has f (token_of t)) m) (sym (contents-append f us (u ∷ t ∷ ts) ∙ rw (is_false (has f (token_of t)) m)))
    by f (inr m) =
        contents-append f us (t ∷ u ∷ ts)
        ∙ rw (is_false (has f (token_of u)) m) (sym (contents-append f us (u ∷ t ∷ ts) ∙ rw (is_false (has f (token_of u)) m)))
