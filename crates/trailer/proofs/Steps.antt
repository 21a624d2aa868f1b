-- The trailer walk by `trailer_at_start`: from a place on, it begins with the trailer that stands there, or it is the walk from the
-- next line on. Assumes nothing.
use Rattle.std.specs.Prelude.{Option, None, Some}
use mathlib.Core.Bool.{Bool, true, false}
use mathlib.Core.List.{List, [], ◌∷◌}
use mathlib.Core.Path.{◌≡◌, refl, ◌∙◌, ap}
use Prim.Native.Nat.{ℕ, ◌+◌, ◌-◌, ◌≤◌, ◌<◌}
use native.Mathlib.Omega.{arith}
use lib.ListN.{length, take, drop, length-append, length-drop}
use lib.Seq.{length-take-le}
use Rattle.rules.specs.Lines.{Line, folds, lines}
use Rattle.rules.specs.Lists.{join, run}
use Rattle.rules.specs.Record.{places_of}
use Rattle.rules.specs.Trailer.{Trailer, trailer_line, token_in, gap_in, walk, walk_from, end_of}
use Rattle.rules.specs.declared.Places.{Places}
use Rattle.rules.proofs.Walk.{walk_ends, Stands, walk_moves, walk_stands}
use Rattle.text.specs.Lines.{first_length}
use Rattle.rules.proofs.Parts.{rest}
use Rattle.trailer.specs.Line.{at_start}
use Rattle.trailer.specs.Walk.{next_of}
use Rattle.trailer.specs.declared.line.TrailerAtStart.{TrailerAtStart}
use Rattle.trailer.proofs.AtStart.{start_within}
use Rattle.text.proofs.ByLines.{line_then, line_length}
use Rattle.rules.proofs.Record.{places_fit}

abbrev places_from : ℕ → ℕ → ℕ → ℕ → ℕ → Places
places_from at token value first len = record {
  start = at;
  token_end = at + token;
  value_start = at + value;
  first_end = at + first;
  end = at + len;
}

-- a trailer at `at`, by its places counted from its start; another answer where none is there
abbrev next_at : ℕ → Option TrailerAtStart → Option Places → Option Places
next_at at (Some t) other = Some (places_from at t.token_end t.value_start t.first t.len)
next_at at None other = other

next_by : (at : ℕ) (l : Line) (ls : List Line) → next_of (walk at (l ∷ ls)) ≡ next_at at (at_start (l ∷ ls)) (next_of (walk (at + length l) ls))
unfolding at_start
next_by at l ls = by (trailer_line l) refl
  where
    by : (b : Bool) → trailer_line l ≡ b → next_of (walk at (l ∷ ls)) ≡ next_at at (at_start (l ∷ ls)) (next_of (walk (at + length l) ls))
    by true q =
        let value-at : at + length (token_in l) + length (gap_in l) + 1 ≡ at + (length (token_in l) + length (gap_in l) + 1) = omega arith in
        rw (q, value-at, length-append l (join (run folds ls)))
    by false q = rw q

-- ---- in a body, by what is handed on from `at`

module _ (body : List ℕ) (at : ℕ) (h : at < length body) where
  next_there : (n : ℕ) → n ≡ first_length (lines (take (length body - at) (drop at body)))
      → next_of (walk_from body at) ≡ next_at at (at_start (lines (take (length body - at) (drop at body)))) (next_of (walk_from body (at + n)))
  next_there n e =
      let l : Line = take (at + n - at) (drop at body) in
      let ls : List Line = lines (drop (at + n) body) in
      rw (rest body at, line_then body at n h e) (next_by at l ls ∙ rw (line_length body at n h e))

  pub next_skips : (n : ℕ) → at_start (lines (take (length body - at) (drop at body))) ≡ None
      → n ≡ first_length (lines (take (length body - at) (drop at body))) → next_of (walk_from body at) ≡ next_of (walk_from body (at + n))
  next_skips n q e = next_there n e ∙ rw q

  module _ {t : TrailerAtStart} (q : at_start (lines (take (length body - at) (drop at body))) ≡ Some t) where
    pub next_found : next_of (walk_from body at) ≡ Some (places_from at t.token_end t.value_start t.first t.len)
    next_found = next_there (first_length (lines (take (length body - at) (drop at body)))) refl ∙ rw q

    pub found_within : (t.token_end < t.value_start) × (t.value_start ≤ t.first) × (t.first ≤ t.len) × (at + t.len ≤ length body)
    found_within =
        let (x, y, w, z) = rw q at (start_within (take (length body - at) (drop at body))) in
        (x, y, w, omega (arith, z, length-take-le (length body - at) (drop at body) (omega (arith, length-drop at body))))

pub next_ends : (body : List ℕ) (at : ℕ) → length body ≤ at → next_of (walk_from body at) ≡ None
next_ends body at h = rw (walk_ends body at h)

-- ---- what a caller learns

pub record First (ts : List Trailer) (at : Places) : Type 0 where
  pub found : Trailer
  pub later : List Trailer
  pub walked : ts ≡ found ∷ later
  pub places : at ≡ places_of found

pub first_is : (ts : List Trailer) {at : Places} → next_of ts ≡ Some at → First ts at
first_is [] e = let z : ◌≡◌ {A = ℕ} 0 1 = cc in absurd (omega arith)
first_is (t ∷ ts) e = record { found = t; later = ts; walked = refl; places = cc }

pub none_is : (ts : List Trailer) → next_of ts ≡ None → ts ≡ []
none_is [] e = refl
none_is (t ∷ ts) e = cc

-- ---- a step of the walk: the places lie in order, after where it began and inside of the body

pub step_order : (body : List ℕ) (at : ℕ) {p : Places} → next_of (walk_from body at) ≡ Some p
    → (p.start ≤ p.token_end) × (p.token_end ≤ p.end) × (p.value_start ≤ p.end) × (at < p.end) × (p.end ≤ length body)
step_order body at {p} q =
    let first : First (walk_from body at) p = first_is (walk_from body at) q in
    let there : Stands body first.found = walk_stands body at first.found first.later first.walked in
    let ends : p.end ≡ end_of first.found = ap (λ (x : Places). x.end) first.places in
    omega (arith, ends, places_fit there first.places, walk_moves body at first.found first.later first.walked)
