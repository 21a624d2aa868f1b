-- Line numbers: document 02, K8. "Every trailer record [..] must carry the number of the message line where the trailer starts,
-- counted from 1, the title's lines included. Calls given a bare body count from its first line".
use Rattle.std.specs.Prelude.{Bool, ◌&&◌, List, [], ◌∷◌, map, ◌≡◌, ℕ, suc, ◌+◌, ◌-◌, ◌<◌, eqb, leb, take, drop, if◌then◌else◌}
use Rattle.rules.specs.Answers.{place_fits}
use Rattle.rules.specs.Bytes.{LF}
use Rattle.rules.specs.Trailer.{Trailer, place_of}
use Rattle.rules.specs.declared.Cursor.{Cursor}

-- how many LFs there are
abbrev pub line_feeds : List ℕ → ℕ
line_feeds [] = 0
line_feeds (c ∷ s) = (if eqb c LF then 1 else 0) + line_feeds s

-- the number of the line in which a place stands: one more than the LFs before it. Of a line's start it is one more than the lines
-- before it (proofs/Number, number_of_start)
abbrev pub line_number : List ℕ → ℕ → ℕ
line_number s at = suc (line_feeds (take at s))

-- "numbers rise strictly along the walk": each is more than the one before it, the first more than n
abbrev pub Rises : ℕ → List ℕ → Type 0
Rises n [] = Unit {0}
Rises n (k ∷ ks) = (n < k) × Rises k ks

abbrev pub numbers : List ℕ → List Trailer → List ℕ
numbers body ts = map (λ (t : Trailer). line_number body (place_of t)) ts

-- ---- cursors (a fill-in: a walk by steps counts on from the number that the cursor has, so that it looks at each byte once)

-- the cursor of a place, with the number of its line; such a cursor is right
abbrev pub cursor_at : List ℕ → ℕ → Cursor
cursor_at s at = record { at = at; line = line_number s at }

abbrev pub Right : List ℕ → Cursor → Type 0
Right s c = c.line ≡ line_number s c.at

-- a cursor moved on to a place: its number, and the LFs between the two
abbrev pub moved_on : List ℕ → Cursor → ℕ → Cursor
moved_on s c at = record { at = at; line = c.line + line_feeds (take (at - c.at) (drop c.at s)) }

-- a cursor's place fits, and its number belongs to a place: it is not 0, and there are no more LFs than bytes before the place
abbrev pub cursor_fits : Cursor → List ℕ → Bool
cursor_fits c s = place_fits c.at s && (leb 1 c.line && leb c.line (c.at + 1))
