-- For the parts of the call: the ranges by pairs of a start and an end, and the parts of the input that they lend.
use Rattle.std.specs.Prelude.{Bool, List, map, ℕ, ◌-◌, take, drop, slice_index}
use Rattle.std.specs.List.{list_all}
use Rattle.rules.specs.Answers.{range_fits}

abbrev pub start_of : List ℕ → ℕ
start_of range = slice_index range 0

abbrev pub end_of : List ℕ → ℕ
end_of range = slice_index range 1

abbrev pub part_at : List ℕ → List ℕ → List ℕ
part_at input range = take (end_of range - start_of range) (drop (start_of range) input)

abbrev pub parts_of : List ℕ → List (List ℕ) → List (List ℕ)
parts_of input ranges = map (part_at input) ranges

abbrev pub all_fit : List ℕ → List (List ℕ) → Bool
all_fit input ranges = list_all (λ range. range_fits (start_of range) (end_of range) input) ranges
