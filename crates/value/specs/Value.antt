-- What is answered of a raw value.
use Rattle.std.specs.Prelude.{map, List, ◌∷◌, ◌≡◌, ℕ, ltb, length, Result, Ok, Err, if◌then◌else◌}
use Rattle.rules.specs.Lines.{lines}
use Rattle.rules.specs.Record.{value_of, written_of}
use Rattle.rules.specs.White.{trim}
use Rattle.rules.specs.declared.Refusal.{Refusal}
use Rattle.rules.specs.declared.Value.{Value}

-- where the value of a raw value stands that begins at `at`; refusal 3 where it is written and there is too little room
abbrev pub value_found : ℕ → List ℕ → ℕ → Result Value Refusal
value_found at raw room =
    if ltb room (length (written_of raw)) then Err (Refusal.NoRoom (length (written_of raw)))
    else Ok (value_of at raw)

-- a step over the lines of `s`: the first without the white space at its ends, and what is left after it
pub record NextLine (s line left : List ℕ) : Type 0 where
  pub reads : map trim (lines s) ≡ line ∷ map trim (lines left)
