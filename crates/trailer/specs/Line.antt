-- The answers about a trailer line, and about the trailer that begins at a line's start.
use Rattle.std.specs.Prelude.{List, [], ◌∷◌, ℕ, ◌+◌, length, Option, None, Some, if◌then◌else◌}
use Rattle.rules.specs.Lines.{Line, folds}
use Rattle.rules.specs.Lists.{join, run}
use Rattle.rules.specs.Trailer.{trailer_line, token_in, gap_in}
use Rattle.trailer.specs.declared.line.TrailerAtStart.{TrailerAtStart}
use Rattle.trailer.specs.declared.line.TrailerLine.{TrailerLine}

abbrev pub trailer_line_at : ℕ → ℕ → TrailerLine
trailer_line_at token_end value_start = record { token_end = token_end; value_start = value_start }

abbrev pub trailer_at_start_of : ℕ → ℕ → ℕ → ℕ → TrailerAtStart
trailer_at_start_of token_end value_start first len =
    record { token_end = token_end; value_start = value_start; first = first; len = len }

-- where the token ends, and where the value starts, right behind the colon
unfoldable pub parsed : Line → Option TrailerLine
parsed l = if trailer_line l then Some (trailer_line_at (length (token_in l)) (length (token_in l) + length (gap_in l) + 1)) else None

-- "A trailer is such a line with every indented, non-blank line directly after it": the same, the first line's length, and the trailer's
unfoldable pub at_start : List Line → Option TrailerAtStart
at_start [] = None
at_start (l ∷ ls) =
    if trailer_line l
    then Some (trailer_at_start_of (length (token_in l)) (length (token_in l) + length (gap_in l) + 1) (length l) (length l + length (join (run folds ls))))
    else None
