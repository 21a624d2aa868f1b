-- What a step that finds a trailer tells of the walk, how the walk to a wanted one goes on from there, and which one is the last.
-- Assumes nothing.
use Rattle.std.specs.Prelude.{Option, None, Some}
use mathlib.Core.Bool.{Bool, true, false}
use mathlib.Core.List.{List, [], ◌∷◌}
use mathlib.Core.Path.{◌≡◌, refl, sym, ap, ◌∙◌}
use Prim.Native.Nat.{ℕ, ◌-◌, ◌≤◌, ◌<◌}
use native.Mathlib.Omega.{arith}
use lib.ListN.{length, take, drop}
use Rattle.rules.proofs.Record.{token_is}
use Rattle.rules.proofs.Walk.{those-steps, walk_stands, walk_step}
use Rattle.rules.specs.Record.{places_of}
use Rattle.rules.specs.Trailer.{Trailer, asked, end_of, finally, lookup, those, walk_from}
use Rattle.rules.specs.declared.Places.{Places}
use Rattle.trailer.proofs.Steps.{First, first_is, none_is}
use Rattle.trailer.specs.Walk.{Passes, next_of}
use Rattle.filter.specs.Lookup.{looked_up}

-- where a step of the walk of a body finds none, none is wanted
pub none_wanted : {body walked : List ℕ} (at : ℕ) → walked ≡ body → None ≡ next_of (walk_from walked at)
    → (passes : List ℕ → Bool) → None ≡ next_of (those passes (walk_from body at))
none_wanted {body} {walked} at same q passes = rw (← same, none_is (walk_from walked at) (sym q))

-- A step of the walk of a body from `at` to `next` has found a trailer at the places `p`: they lie in order inside of the body. The trailer
-- is the answer if its token is wanted; else the answer is that of the walk from `next` on.
pub record Found (body : List ℕ) (at : ℕ) (p : Places) (next : ℕ) : Type 0 where
  pub order : (p.start ≤ p.token_end) × (p.token_end ≤ p.end) × (p.end ≤ length body)
  pub kept : (passes : List ℕ → Bool) → passes (take (p.token_end - p.start) (drop p.start body)) ≡ true
      → Some p ≡ next_of (those passes (walk_from body at))
  pub passed : (passes : List ℕ → Bool) → passes (take (p.token_end - p.start) (drop p.start body)) ≡ false
      → next_of (those passes (walk_from body next)) ≡ next_of (those passes (walk_from body at))

module _ {body walked after : List ℕ} {at next : ℕ} {p : Places} (same : walked ≡ body) (step : Passes walked at (Some p) after next) where
  here : next_of (walk_from body at) ≡ Some p
  here = sym (step.first ∙ ap (λ (s : List ℕ). next_of (walk_from s at)) same)

  first : First (walk_from body at) p
  first = first_is (walk_from body at) here

  abbrev t : Trailer
  t = first.found

  -- the others are those of the walk from its end on
  list : walk_from body at ≡ t ∷ walk_from body (end_of t)
  list = cc (first.walked, walk_step body at t first.later first.walked)

  pub found : Found body at p next
  found =
      let end : next ≡ end_of t = step.goes ∙ ap (λ (at : Places). at.end) first.places in
      let token = token_is (walk_stands body at t first.later first.walked) first.places in
      record {
        order = omega (arith, ap length same, step.order);
        kept = λ passes k. sym here ∙ rw (list, rw token at k);
        passed = λ passes k. ap (λ (e : ℕ). next_of (those passes (walk_from body e))) end ∙ rw (list, rw token at k);
      }

-- ---- the last that has the name

-- what the trailers from a place on give, where `last` was found before it
abbrev pub or_last : Option Trailer → Option Places → Option Places
or_last None last = last
or_last (Some t) last = looked_up (Some t)

or_first : (t : Trailer) (ts : List Trailer) (last : Option Places) → or_last (finally ts) (next_of (t ∷ [])) ≡ or_last (finally (t ∷ ts)) last
or_first t [] last = refl
or_first t (u ∷ ts) last = some_last u ts (next_of (t ∷ [])) last
  where
    some_last : (u : Trailer) (ts : List Trailer) (a b : Option Places) → or_last (finally (u ∷ ts)) a ≡ or_last (finally (u ∷ ts)) b
    some_last u [] a b = refl
    some_last u (v ∷ ts) a b = some_last v ts a b

pub last_start : (o : Option Trailer) → or_last o None ≡ looked_up o
last_start None = refl
last_start (Some t) = refl

-- a step to one that has the name: it is inside the body, and takes the place of what was found before it
pub record Nearer (name body : List ℕ) (at : ℕ) (last : Option Places) (p : Places) : Type 0 where
  pub ahead : (at < p.end) × (p.end ≤ length body)
  pub latest : or_last (lookup name (walk_from body p.end)) (Some p) ≡ or_last (lookup name (walk_from body at)) last

pub nearer : (name body : List ℕ) (at : ℕ) (last : Option Places) {p : Places}
    → next_of (those (asked name) (walk_from body at)) ≡ Some p → Nearer name body at last p
nearer name body at last {p} q =
    let f = first_is (those (asked name) (walk_from body at)) q in
    let (others, moves, within) = those-steps body (asked name) at (walk_from body at) f.found f.later refl f.walked in
    behind f.found f.later f.walked f.places others moves within
  where
    behind : (t : Trailer) (us : List Trailer) → those (asked name) (walk_from body at) ≡ t ∷ us → p ≡ places_of t
        → those (asked name) (walk_from body (end_of t)) ≡ us → at < end_of t → end_of t ≤ length body → Nearer name body at last p
    behind t us walked places others moves within =
        rw places (record { ahead = (moves, within); latest = rw (others, walked) (or_first t us last) })

pub none_nearer : (name body : List ℕ) (at : ℕ) (last : Option Places) → next_of (those (asked name) (walk_from body at)) ≡ None
    → last ≡ or_last (lookup name (walk_from body at)) last
none_nearer name body at last q = rw (none_is (those (asked name) (walk_from body at)) q)
