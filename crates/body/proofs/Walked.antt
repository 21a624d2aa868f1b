-- K8: from a right cursor every number of a walk by steps is right, every next cursor too, and the numbers rise strictly. Assumes nothing.
use Rattle.std.specs.Prelude.{Option, None, Some, is_some}
use mathlib.Core.Bool.{false≢true}
use mathlib.Core.List.{List, [], ◌∷◌, map}
use mathlib.Core.Path.{◌≡◌, refl, sym, ap, ◌∙◌}
use Prim.Native.Nat.{ℕ}
use native.Mathlib.Omega.{arith}
use lib.ListN.{take}
use Rattle.rules.proofs.Number.{moved_right, numbers_rise}
use Rattle.rules.proofs.Walk.{those_place, those-steps}
use Rattle.rules.specs.Number.{Right, Rises, cursor_at, line_feeds, line_number, moved_on, numbers}
use Rattle.rules.specs.Record.{record_of, step_with}
use Rattle.rules.specs.Trailer.{Trailer, end_of, is_of, only, place_of, walk_from}
use Rattle.rules.specs.declared.Cursor.{Cursor}
use Rattle.rules.specs.declared.Kind.{Kind}
use Rattle.rules.specs.declared.TrailerRef.{TrailerRef}
use Rattle.rules.specs.declared.TrailerStep.{TrailerStep}
use Rattle.body.specs.Body.{first_step}
use Rattle.body.specs.Walked.{Walked, ended, stepped, line_of}

-- what a step from a right cursor tells: the number of the trailer's line is right, and so is the next cursor, from which the others follow
record Told (kind : Kind) (body : List ℕ) (t : TrailerRef) (next : Cursor) (us : List Trailer) : Type 0 where
  first : Trailer
  others : List Trailer
  are : us ≡ first ∷ others
  number : t.line ≡ line_number body (place_of first)
  right : Right body next
  left : only kind (walk_from body next.at) ≡ others

abbrev found_or : TrailerRef → Option TrailerRef → TrailerRef
found_or t None = t
found_or t (Some u) = u

told : (kind : Kind) (body : List ℕ) (c : Cursor) → Right body c → (us : List Trailer) → only kind (walk_from body c.at) ≡ us
    → {t : TrailerRef} {next : Cursor} → first_step body c us ≡ step_with (Some t) next → Told kind body t next us
told kind body c right [] e q = absurd (false≢true (ap (λ (s : TrailerStep). is_some s.found) q))
told kind body c right (u ∷ us) e {t} {next} q =
    let place = those_place body (is_of kind) c.at (walk_from body c.at) u us refl e in
    let steps = those-steps body (is_of kind) c.at (walk_from body c.at) u us refl e in
    let record_is : record_of (moved_on body c (place_of u)).line u ≡ t = ap (λ (s : TrailerStep). found_or t s.found) q in
    let moved : moved_on body c (end_of u) ≡ next = ap (λ (s : TrailerStep). s.next) q in
    let behind : next ≡ cursor_at body (end_of u) = sym moved ∙ moved_right body c (end_of u) right (omega (arith, steps.1)) in
    record {
      first = u;
      others = us;
      are = refl;
      number = sym (ap (λ (r : TrailerRef). r.line) record_is) ∙ ap (λ (k : Cursor). k.line) (moved_right body c (place_of u) right place);
      right = rw behind refl;
      left = rw behind steps.0;
    }

none : (body : List ℕ) (c next : Cursor) (us : List Trailer) → first_step body c us ≡ step_with None next → us ≡ []
none body c next [] q = refl
none body c next (u ∷ us) q = absurd (false≢true (sym (ap (λ (s : TrailerStep). is_some s.found) q)))

pub numbers_right : (kind : Kind) (body : List ℕ) (c : Cursor) (ts : List TrailerRef) → Right body c → Walked kind body c ts
    → map line_of ts ≡ numbers body (only kind (walk_from body c.at))
numbers_right kind body c [] right (ended {next = next} q) = ap (numbers body) (sym (none body c next (only kind (walk_from body c.at)) q))
numbers_right kind body c (t ∷ ts) right (stepped {next = next} q more) =
    let w = told kind body c right (only kind (walk_from body c.at)) refl q in
    rw w.are (ap (λ (n : ℕ). n ∷ map line_of ts) w.number
    ∙ ap (λ (ns : List ℕ). line_number body (place_of w.first) ∷ ns) (numbers_right kind body next ts w.right more ∙ ap (numbers body) w.left))

-- "numbers rise strictly along the walk"
pub lines_rise : (kind : Kind) (body : List ℕ) (c : Cursor) (ts : List TrailerRef) → Right body c → Walked kind body c ts
    → Rises (line_feeds (take c.at body)) (map line_of ts)
lines_rise kind body c ts right w = rw (numbers_right kind body c ts right w) (numbers_rise body c.at kind)

-- the cursor that a step from a right one gives is right
pub next_right : (kind : Kind) (body : List ℕ) (c : Cursor) → Right body c → {t : TrailerRef} {next : Cursor}
    → first_step body c (only kind (walk_from body c.at)) ≡ step_with (Some t) next → Right body next
next_right kind body c right q = (told kind body c right (only kind (walk_from body c.at)) refl q).right
