-- Where `find_foot` finds the foot.
use Rattle.std.specs.Prelude.{Bool, List, ℕ, length, drop, Option, Some, None, if◌then◌else◌}
use Rattle.rules.specs.Lines.{lines}
use Rattle.rules.specs.Lists.{join}
use Rattle.rules.specs.Paragraph.{Body, empty, ended, above_lines, accepted, parse}
use Rattle.rules.specs.declared.Cursor.{Cursor}
use Rattle.foot.specs.Foot.{foot, foot_enough, looked}
use Rattle.foot.specs.declared.Foot.{Foot}

-- where the walk of the trailers may begin with no look at what is above the closing blank line: at the last paragraph, where that is a
-- block, and otherwise at the end
abbrev pub walk_start : Body → ℕ → ℕ
walk_start (empty bs) size = size
walk_start (ended a p bs) size = if accepted p then length (join (above_lines a)) else size

unfoldable pub foot_start : List ℕ → ℕ
foot_start tail = walk_start (parse (lines tail)) (length tail)

-- the cursor of the walk; lines are counted from there
abbrev pub foot_cursor : List ℕ → Cursor
foot_cursor tail = record { at = foot_start tail; line = 1 }

-- how many lines stand from a place on
abbrev pub lines_from : List ℕ → ℕ → ℕ
lines_from s at = length (lines (drop at s))

abbrev pub foot_at : ℕ → ℕ → ℕ → Option Foot
foot_at at lines looked-at = Some (record { at = at; lines = lines; looked = looked-at })

-- none where the last bytes are not enough
abbrev pub foot_found : List ℕ → Bool → Option Foot
foot_found tail whole =
    if foot_enough tail whole then foot_at (foot_start tail) (lines_from tail (foot_start tail)) (looked (foot tail whole)) else None
