-- Where `next_trailer` answers a trailer, it has moved on, and stays inside. Assumes nothing.
use Rattle.std.specs.Prelude.{Some, Ok, is_some}
use mathlib.Core.Bool.{true≢false}
use mathlib.Core.List.{List, [], ◌∷◌}
use mathlib.Core.Path.{◌≡◌, refl, sym, ap, ◌∙◌}
use Prim.Native.Nat.{ℕ, ◌≤◌, ◌<◌}
use lib.ListN.{length}
use Rattle.body.proofs.Calls.{step_is}
use Rattle.body.specs.Body.{first_step, step_answer}
use Rattle.rules.proofs.Walk.{walk_moves, walk_within}
use Rattle.rules.specs.Answers.{trailer_step_says}
use Rattle.rules.specs.Number.{moved_on}
use Rattle.rules.specs.Trailer.{Trailer, end_of, only, walk_from}
use Rattle.rules.specs.declared.Cursor.{Cursor}
use Rattle.rules.specs.declared.Kind.{Kind}
use Rattle.rules.specs.declared.TrailerRef.{TrailerRef}
use Rattle.rules.specs.declared.TrailerStep.{TrailerStep}

pub record Found (body : List ℕ) (c next : Cursor) : Type 0 where
  pub moves : c.at < next.at
  pub within : next.at ≤ length body

pub found : (body : List ℕ) (c : Cursor) (room : ℕ) (s : TrailerStep) (t : TrailerRef) → s.found ≡ Some t
    → trailer_step_says (Ok s) ≡ step_answer Kind.All body c room → Found body c s.next
found body c room s t p e = by (walk_from body c.at) refl (step_is Kind.All body c room s e)
  where
    by : (ts : List Trailer) → walk_from body c.at ≡ ts → s ≡ first_step body c (only Kind.All ts) → Found body c s.next
    by [] q first = absurd (true≢false (ap is_some (sym p) ∙ ap (λ (s : TrailerStep). is_some s.found) first))
    by (u ∷ us) q first =
        let here : s.next ≡ moved_on body c (end_of u) = ap (λ (s : TrailerStep). s.next) first in
        let end : s.next.at ≡ end_of u = ap (λ (c : Cursor). c.at) here in
        record { moves = rw end (walk_moves body c.at u us q); within = rw end (walk_within body c.at u us q) }
