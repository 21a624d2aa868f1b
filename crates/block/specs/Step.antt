-- What the block step answers, and the lines that it goes by.
use Rattle.std.specs.Prelude.{not, ◌||◌, List, [], ◌∷◌, ℕ, ◌+◌, length, Option, None, Some, if◌then◌else◌}
use Rattle.rules.specs.Division.{Block, block}
use Rattle.rules.specs.Lines.{Line, lines, folds}
use Rattle.rules.specs.Lists.{join, run}
use Rattle.rules.specs.Record.{block_places}
use Rattle.rules.specs.Trailer.{trailer_line}
use Rattle.rules.specs.declared.BlockPlaces.{BlockPlaces}

-- the lines at the front up to the first trailer line
abbrev pub message_lines : List Line → List Line
message_lines ls = run (λ (l : Line). not (trailer_line l)) ls

-- the trailers at the front: a trailer line, and the trailer lines and the indented, non-blank lines directly after it
abbrev pub part_lines : List Line → List Line
part_lines [] = []
part_lines (l ∷ ls) = if trailer_line l then l ∷ run (λ (m : Line). trailer_line m || folds m) ls else []

-- their lengths, of the lines of an input
abbrev pub message_length : List ℕ → ℕ
message_length s = length (join (message_lines (lines s)))

abbrev pub part_length : List ℕ → ℕ
part_length s = length (join (part_lines (lines s)))

-- the first of the blocks from `at` on: where its message ends, and where its trailer part does
abbrev pub next_block : ℕ → List Block → Option BlockPlaces
next_block at [] = None
next_block at (block m t ∷ bs) = Some (block_places (at + length m) (at + length m + length t))
