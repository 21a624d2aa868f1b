-- A step of the walk: what is found of each field goes on after the trailer that the step finds. Assumes nothing.
use Rattle.std.specs.Prelude.{Option, None, Some, if◌then◌else◌}
use mathlib.Core.Bool.{Bool, true, false}
use mathlib.Core.List.{List, [], ◌∷◌}
use mathlib.Core.Path.{◌≡◌, refl, sym, ap, ◌∙◌}
use Prim.Native.Nat.{ℕ, suc, ◌+◌, ◌-◌, ◌≤◌, ◌<◌}
use native.Mathlib.Omega.{arith}
use lib.ListN.{length, take, drop}
use Rattle.rules.specs.Trailer.{Trailer, token_of, raw_value_at, end_of, those, walk_from}
use Rattle.rules.specs.declared.Part.{Part}
use Rattle.rules.specs.declared.Places.{Places}
use Rattle.rules.proofs.Record.{token_is}
use Rattle.rules.proofs.Walk.{Stands, walk_stands, walk_step}
use Rattle.trailer.proofs.Steps.{First, first_is, none_is}
use Rattle.trailer.specs.Walk.{Passes, next_of}
use Rattle.closing.specs.Closing.{has}
use Rattle.closing.specs.declared.Field.{Field}
use Rattle.fields.specs.Tally.{raw_part, last_part, found_of, how_many, tally_of, more, counted, TalliesOf}
use Rattle.fields.specs.declared.tally.Found.{Found}
use Rattle.fields.specs.declared.tally.Tallies.{Tallies}

-- what is found when some trailers follow
abbrev followed : Option Found → List Trailer → Option Found
followed found [] = found
followed found (t ∷ ts) = followed (more found (raw_part t)) ts

same_repeated : {n k : ℕ} (last : Part) → n ≡ k → Some (Found.Repeated n last) ≡ Some (Found.Repeated k last)
same_repeated last e = ap (λ (n : ℕ). Some (Found.Repeated n last)) e

repeated_goes : (n : ℕ) (last : Part) (ts : List Trailer) → followed (Some (Found.Repeated n last)) ts ≡ Some (Found.Repeated (n + length ts) (last_part last ts))
repeated_goes n last [] = same_repeated last (omega arith)
repeated_goes n last (t ∷ ts) = repeated_goes (n + 1) (raw_part t) ts ∙ same_repeated (last_part (raw_part t) ts) (omega arith)

followed_is : (ts : List Trailer) → followed None ts ≡ found_of ts
followed_is [] = refl
followed_is (t ∷ []) = refl
followed_is (t ∷ u ∷ ts) = repeated_goes 2 (raw_part u) ts ∙ same_repeated (last_part (raw_part u) ts) (omega arith)

-- one trailer more, in front of the others with the name
followed_more : (a : Option Found) (b : Bool) (t : Trailer) (ts : List Trailer) → followed (counted a b (raw_part t)) ts ≡ followed a (if b then t ∷ ts else ts)
followed_more a true t ts = refl
followed_more a false t ts = refl

one_more : (a : Option Found) (b : Bool) (raw : Part) → how_many (counted a b raw) ≤ suc (how_many a)
one_more None true raw = omega arith
one_more (Some (Found.Once first)) true raw = omega arith
one_more (Some (Found.Repeated count last)) true raw = omega arith
one_more a false raw = omega arith

-- what is found of a field in the walk from `at` on is what is found up to `from`, and in the walk from there on
pub record Going (f : Field) (message : List ℕ) (at : ℕ) (a : Option Found) (from : ℕ) : Type 0 where
  pub few : how_many a ≤ from
  pub whole : followed a (those (has f) (walk_from message from)) ≡ tally_of f (walk_from message at)

going_start : (f : Field) (message : List ℕ) (at : ℕ) → Going f message at None at
going_start f message at = record { few = omega arith; whole = followed_is (those (has f) (walk_from message at)) }

-- so for all three, where the walk that is left is that of `walked` from `from` on
pub record AllGoing (message : List ℕ) (at : ℕ) (a : Tallies) (walked : List ℕ) (from : ℕ) : Type 0 where
  pub walks : walked ≡ message
  pub vehicle_goes : Going Field.Vehicle message at a.vehicle from
  pub records_goes : Going Field.Records message at a.records from
  pub state_goes : Going Field.OffloadState message at a.state from

pub all_start : (message : List ℕ) (at : ℕ) → AllGoing message at (record { vehicle = None; records = None; state = None }) message at
all_start message at = record {
  walks = refl;
  vehicle_goes = going_start Field.Vehicle message at;
  records_goes = going_start Field.Records message at;
  state_goes = going_start Field.OffloadState message at;
}

module _ {message : List ℕ} {at : ℕ} {a : Tallies} {walked : List ℕ} {from : ℕ} (g : AllGoing message at a walked from) where
  -- a step is one of the message's walk
  of_message : {found : Option Places} → found ≡ next_of (walk_from walked from) → next_of (walk_from message from) ≡ found
  of_message q = sym (q ∙ ap (λ (s : List ℕ). next_of (walk_from s from)) g.walks)

  pub all_end : None ≡ next_of (walk_from walked from) → TalliesOf (walk_from message at) a
  all_end q = record {
    vehicle_is = ended Field.Vehicle a.vehicle g.vehicle_goes;
    records_is = ended Field.Records a.records g.records_goes;
    state_is = ended Field.OffloadState a.state g.state_goes;
  }
    where
      ended : (f : Field) (b : Option Found) → Going f message at b from → b ≡ tally_of f (walk_from message at)
      ended f b h = sym (ap (λ (ts : List Trailer). followed b (those (has f) ts)) (none_is (walk_from message from) (of_message q))) ∙ h.whole

  module _ {p : Places} {after : List ℕ} {next : ℕ} (walk : Passes walked from (Some p) after next) where
    pub order : (p.start ≤ p.token_end) × (p.token_end ≤ p.end) × (from < p.end) × (p.end ≤ length message)
    order = omega (arith, ap length g.walks, walk.order)

    first : First (walk_from message from) p
    first = first_is (walk_from message from) (of_message walk.first)

    there : Stands message first.found
    there = walk_stands message from first.found first.later first.walked

    ends : p.end ≡ end_of first.found
    ends = ap (λ (x : Places). x.end) first.places

    list : walk_from message from ≡ first.found ∷ walk_from message p.end
    list = cc (first.walked, ends, walk_step message from first.found first.later first.walked)

    token : List ℕ
    token = take (p.token_end - p.start) (drop p.start message)

    raw : Part
    raw = record { start = p.value_start; end = p.end }

    step : (f : Field) (b : Option Found) → Going f message at b from → Going f message at (counted b (has f token) raw) p.end
    unfolding token raw
    step f b h =
        let named : token ≡ token_of first.found = token_is there first.places in
        let value : p.value_start ≡ raw_value_at first.found = ap (λ (x : Places). x.value_start) first.places in
        record {
          few = omega (arith, one_more b (has f (take (p.token_end - p.start) (drop p.start message))) raw, h.few, order);
          whole = same b named value ends ∙ followed_more b (has f (token_of first.found)) first.found (those (has f) (walk_from message p.end))
              ∙ sym (ap (λ (ts : List Trailer). followed b (those (has f) ts)) list) ∙ h.whole;
        }
      where
        same : (b : Option Found) {x y : List ℕ} {c d e g : ℕ} → x ≡ y → c ≡ d → e ≡ g
            → followed (counted b (has f x) (record { start = c; end = e })) (those (has f) (walk_from message p.end))
            ≡ followed (counted b (has f y) (record { start = d; end = g })) (those (has f) (walk_from message p.end))
        same b p q r = rw (p, q, r)

    pub all_step : {v r s : Option Found} → v ≡ counted a.vehicle (has Field.Vehicle (take (p.token_end - p.start) (drop p.start message))) (record { start = p.value_start; end = p.end })
        → r ≡ counted a.records (has Field.Records (take (p.token_end - p.start) (drop p.start message))) (record { start = p.value_start; end = p.end })
        → s ≡ counted a.state (has Field.OffloadState (take (p.token_end - p.start) (drop p.start message))) (record { start = p.value_start; end = p.end })
        → AllGoing message at (record { vehicle = v; records = r; state = s }) after next
    unfolding token raw
    all_step v r s = rw (v, r, s, walk.goes) (record {
      walks = walk.stays ∙ g.walks;
      vehicle_goes = step Field.Vehicle a.vehicle g.vehicle_goes;
      records_goes = step Field.Records a.records g.records_goes;
      state_goes = step Field.OffloadState a.state g.state_goes;
    })
