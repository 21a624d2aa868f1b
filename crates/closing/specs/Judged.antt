-- "Values are judged unfolded, with no buffer lent": document 02, K10. A content that is not empty and holds no space is the unfolded
-- value exactly if one line of the raw value alone trims to something, and that is it (proofs/Judged); so the part of the message that
-- this line keeps is judged in its place.
use Rattle.std.specs.Prelude.{Bool, not, List, [], ◌∷◌, ◌++◌, map, ◌≡◌, ℕ, ◌+◌, eqb, length, if◌then◌else◌}
use Rattle.rules.specs.Bytes.{space}
use Rattle.rules.specs.Lines.{Line, lines}
use Rattle.rules.specs.Lists.{All, any, filled}
use Rattle.rules.specs.Trailer.{Trailer, raw_value, raw_value_at, those}
use Rattle.rules.specs.White.{trim, trim_at}
use Rattle.closing.specs.Closing.{has}
use Rattle.closing.specs.declared.Field.{Field}

-- a line that trims to nothing
abbrev pub void : Line → Bool
void l = not (filled (trim l))

-- one line alone of `raw` trims to something, and that is `w`
pub record OneLine (raw w : List ℕ) : Type 0 where
  pub before : List Line
  pub the_line : Line
  pub after : List Line
  pub read : lines raw ≡ before ++ the_line ∷ after
  pub void_before : All void before
  pub void_after : All void after
  pub trims : trim the_line ≡ w

-- no byte of it is a space
abbrev pub unspaced : ℕ → Bool
unspaced c = not (eqb c space)

-- ---- computed: that line trimmed; nothing where there is none, or more than one

abbrev pub sole_of : List (List ℕ) → List ℕ
sole_of [] = []
sole_of ([] ∷ ls) = sole_of ls
sole_of ((c ∷ l) ∷ ls) = if any filled ls then [] else c ∷ l

unfoldable pub sole_line : List ℕ → List ℕ
sole_line raw = sole_of (map trim (lines raw))

-- ---- the first line that trims to something: trimmed; where that begins; the lines behind it

abbrev pub first_kept : List Line → List ℕ
first_kept [] = []
first_kept (l ∷ ls) = if filled (trim l) then trim l else first_kept ls

abbrev pub kept_at : List Line → ℕ
kept_at [] = 0
kept_at (l ∷ ls) = if filled (trim l) then trim_at l else length l + kept_at ls

abbrev pub behind_kept : List Line → List Line
behind_kept [] = []
behind_kept (l ∷ ls) = if filled (trim l) then ls else behind_kept ls

-- where the content of the first of some trailers begins in the message, and of the first that has a field's name
abbrev pub first_at : List Trailer → ℕ
first_at [] = 0
first_at (t ∷ ts) = raw_value_at t + kept_at (lines (raw_value t))

abbrev pub content_at : Field → List Trailer → ℕ
content_at f ts = first_at (those (has f) ts)
