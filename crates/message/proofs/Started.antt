-- Where the walk of a message's trailers begins. Assumes nothing.
use Rattle.std.specs.Prelude.{Result, Ok, Err}
use mathlib.Core.Bool.{Bool, true, false}
use mathlib.Core.List.{List, [], ◌∷◌}
use mathlib.Core.Path.{◌≡◌, refl, ap, ◌∙◌}
use Prim.Native.Nat.{ℕ, ◌≤◌}
use borrow.Author.Tests.{le-leb}
use lib.ListN.{length}
use Rattle.rules.proofs.Answers.{judged_answer}
use Rattle.rules.proofs.Messages.{start_in_message}
use Rattle.rules.proofs.Number.{right_fits}
use Rattle.rules.specs.Answers.{says, judged, over_limit, row, too_long, up_to, values, walk_found_says}
use Rattle.rules.specs.Lists.{any}
use Rattle.rules.specs.Number.{cursor_fits}
use Rattle.rules.specs.declared.Cursor.{Cursor}
use Rattle.message.specs.Message.{walk_answer, walk_answer_before, walk_start}
use Rattle.rules.specs.declared.Refusal.{Refusal}

pub walk_fits : (m : List ℕ) → (walk_start m).at ≤ length m
walk_fits m = start_in_message m

-- the cursor of two values
abbrev cursor_in : List ℕ → Cursor
cursor_in [] = record { at = 0; line = 0 }
cursor_in (at ∷ []) = record { at = at; line = 0 }
cursor_in (at ∷ line ∷ more) = record { at = at; line = line }

-- the cursor that is answered is the right one there, so a step from it is not refused for its place
pub started : (m : List ℕ) (c : Cursor) → walk_found_says (Ok c) ≡ walk_answer m → (c ≡ walk_start m) × (cursor_fits c m ≡ true)
started m c e =
    let said = judged_answer (too_long (m ∷ []) ∷ []) tt refl e in
    let is : c ≡ walk_start m = ap cursor_in (ap values said) in
    (is, rw is (right_fits m (walk_start m) refl ∙ le-leb (walk_start m).at (length m) (walk_fits m)))

-- K8: the position stays
pub walk_before : (m : List ℕ) → walk_answer_before m ≡ up_to 1 (walk_answer m)
walk_before m = by (any over_limit (m ∷ []))
  where
    by : (b : Bool) → judged (row b (says 1 []) ∷ []) (says 0 ((walk_start m).at ∷ [])) ≡ up_to 1 (judged (row b (says 1 []) ∷ []) (says 0 ((walk_start m).at ∷ (walk_start m).line ∷ [])))
    by true = refl
    by false = refl
