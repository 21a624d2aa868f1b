-- What is read from the front of a list, and what is left of it: README.md of crates/replay. Nothing is left once the list ended too
-- early, or did not say what was expected. All of it is our own.
use Rattle.std.specs.Prelude.{List, [], ◌∷◌, ℕ, ◌+◌, ◌*◌, eqb, leb, length, take, drop, Option, Some, None, option_and_then, option_map, if◌then◌else◌}

-- what was read, and the rest of the list; none where the list ends too early
abbrev pub Reads : Type 0 → Type 0
Reads A = List ℕ → Option (A × List ℕ)

abbrev pub byte : Reads ℕ
byte [] = None
byte (b ∷ rest) = Some (b, rest)

-- "two bytes, the lower first"
abbrev pub two_bytes : Reads ℕ
two_bytes list = option_and_then (λ low. option_map (λ high. (low.0 + 256 * high.0, high.1)) (byte low.1)) (byte list)

-- "A number is one byte; from 255 on it is a byte 255 and two more, the lower first."
abbrev pub number : Reads ℕ
number list = option_and_then (λ first. if eqb first.0 255 then two_bytes first.1 else Some first) (byte list)

-- "Bytes have their length, a number, in front."
abbrev pub bytes : Reads (List ℕ)
bytes list =
    option_and_then (λ len. if leb len.0 (length len.1) then Some (take len.0 len.1, drop len.0 len.1) else None) (number list)

-- what was read of what is left of a list, and what is left then
abbrev pub got : {A : Type 0} → Reads A → Option (List ℕ) → Option A
got reads left = option_map (λ r. r.0) (option_and_then reads left)

abbrev pub after : {A : Type 0} → Reads A → Option (List ℕ) → Option (List ℕ)
after reads left = option_map (λ r. r.1) (option_and_then reads left)
