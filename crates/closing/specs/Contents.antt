-- The three fields' names and good contents: document 02, K10. "exactly one Vehicle of 1 to 6 digits, one Records, a decimal from 0
-- to 1,000,000 without needless zeros, and one Offload-state, `complete` or `partial` in those bytes"
use Rattle.std.specs.Prelude.{Bool, true, false, not, ◌&&◌, ◌||◌, List, [], ◌∷◌, ◌++◌, ◌≡◌, ℕ, ◌+◌, ◌-◌, ◌*◌, ◌≤◌, ◌<◌, T, eqb, leb, length}
use Rattle.rules.specs.Bytes.{bytes, within}
use Rattle.rules.specs.Lists.{All, all, equal, filled}
use Rattle.closing.specs.declared.Field.{Field}

abbrev pub name_of : Field → List ℕ
name_of Field.Vehicle = bytes "Vehicle"
name_of Field.Records = bytes "Records"
name_of Field.OffloadState = bytes "Offload-state"

-- `0` to `9`
unfoldable pub digit : ℕ → Bool
digit c = within 48 57 c

-- "a decimal [..] without needless zeros": one digit, or a decimal that is not 0 with one digit more behind it; and its number
pub data Decimal : List ℕ → ℕ → Type 0 where
  one : (c : ℕ) → T (digit c) → Decimal (c ∷ []) (c - 48)
  more : (s : List ℕ) (n c : ℕ) → Decimal s n → 0 < n → T (digit c) → Decimal (s ++ c ∷ []) (n * 10 + (c - 48))

-- "from 0 to 1,000,000"
abbrev pub most_records : ℕ
most_records = 1_000_000

-- "in those bytes": the state's word, of a complete offload or a partial one
abbrev pub state_word : Bool → List ℕ
state_word true = bytes "complete"
state_word false = bytes "partial"

-- "Vehicle of 1 to 6 digits", leading zeros too; "Records, a decimal from 0 to 1,000,000"; "Offload-state, `complete` or `partial`"
abbrev pub Good : Field → List ℕ → Type 0
Good Field.Vehicle v = All digit v × (1 ≤ length v) × (length v ≤ 6)
Good Field.Records v = (n : ℕ) × Decimal v n × (n ≤ most_records)
Good Field.OffloadState v = (complete : Bool) × (v ≡ state_word complete)

-- ---- computed: the same as tests, and the number (proofs/Contents, good_is and is_good, decimal_of and decimal_only)

-- the number that digits write, behind those that write n
abbrev pub number_from : ℕ → List ℕ → ℕ
number_from n [] = n
number_from n (c ∷ s) = number_from (n * 10 + (c - 48)) s

unfoldable pub number_of : List ℕ → ℕ
number_of v = number_from 0 v

-- no 0 stands in front of another digit
abbrev pub no_needless_zero : List ℕ → Bool
no_needless_zero [] = true
no_needless_zero (c ∷ []) = true
no_needless_zero (c ∷ d ∷ s) = not (eqb c 48)

abbrev pub decimal : List ℕ → Bool
decimal v = filled v && all digit v && no_needless_zero v

unfoldable pub good_vehicle : List ℕ → Bool
good_vehicle v = all digit v && within 1 6 (length v)

unfoldable pub good_records : List ℕ → Bool
good_records v = decimal v && leb (number_of v) most_records

unfoldable pub good_state : List ℕ → Bool
good_state v = equal v (state_word true) || equal v (state_word false)

abbrev pub good : Field → List ℕ → Bool
good Field.Vehicle v = good_vehicle v
good Field.Records v = good_records v
good Field.OffloadState v = good_state v
