-- A walk by single steps: document 02, K8. "A walk stays linear" since each step counts on from its cursor; that the numbers are right
-- is proved (proofs/Walked, numbers_right and lines_rise).
use Rattle.std.specs.Prelude.{List, [], ◌∷◌, ◌≡◌, ℕ, Some, None}
use Rattle.rules.specs.Record.{step_with}
use Rattle.rules.specs.Trailer.{only, walk_from}
use Rattle.rules.specs.declared.Cursor.{Cursor}
use Rattle.rules.specs.declared.Kind.{Kind}
use Rattle.rules.specs.declared.TrailerRef.{TrailerRef}
use Rattle.body.specs.Body.{first_step}

-- the records that the steps give from a cursor on, called until the end
pub data Walked (kind : Kind) (body : List ℕ) : Cursor → List TrailerRef → Type 0 where
  ended : {c next : Cursor} → first_step body c (only kind (walk_from body c.at)) ≡ step_with None next → Walked kind body c []
  stepped : {c next : Cursor} {t : TrailerRef} {ts : List TrailerRef} → first_step body c (only kind (walk_from body c.at)) ≡ step_with (Some t) next
      → Walked kind body next ts → Walked kind body c (t ∷ ts)

abbrev pub line_of : TrailerRef → ℕ
line_of t = t.line
