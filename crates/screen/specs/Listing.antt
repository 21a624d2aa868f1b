-- The listing of a message as text: document 01, "Examples by number". "The lister reads one message [..]. For
-- `t\n\nx\n\nVehicle: 7\nRecords: 318,\n 22 late\n` it prints exactly, each line with LF: `trailers 2`, `Vehicle: 7`,
-- `Records: 318, 22 late`."
use Rattle.std.specs.Prelude.{List, [], ◌∷◌, ◌++◌, map, ℕ, zero, suc, ◌+◌, ◌/◌, ◌%◌, ltb, length, if◌then◌else◌}
use Rattle.rules.specs.Bytes.{LF, bytes}
use Rattle.rules.specs.Lists.{join}
use Rattle.rules.specs.Trailer.{Trailer, token_of, raw_value, unfolded, walk_from}
use Rattle.message.specs.Message.{walk_start}

-- a number's digits: those of its tenth, where that is not 0, and the last one. The first argument bounds how many; no number has
-- more digits than one and itself. It is the only decimal without needless zeros of that number (proofs/Decimal, decimal_is)
abbrev pub digits_of : ℕ → ℕ → List ℕ
digits_of zero n = (48 + n % 10) ∷ []
digits_of (suc k) n = if ltb n 10 then (48 + n) ∷ [] else digits_of k (n / 10) ++ ((48 + n % 10) ∷ [])

unfoldable pub decimal : ℕ → List ℕ
decimal n = digits_of n n

-- `trailers 2`: how many there are
abbrev pub first_line : List ℕ → List ℕ
first_line digits = bytes "trailers " ++ (digits ++ (LF ∷ []))

-- `Records: 318, 22 late`: a token and a raw value, which is unfolded
abbrev pub line_of : List ℕ → List ℕ → List ℕ
line_of token raw = token ++ (bytes ": " ++ (unfolded raw ++ (LF ∷ [])))

abbrev pub listed : Trailer → List ℕ
listed t = line_of (token_of t) (raw_value t)

unfoldable pub lines_of : List Trailer → List ℕ
lines_of ts = join (map listed ts)

abbrev pub listing_of : List Trailer → List ℕ
listing_of ts = first_line (decimal (length ts)) ++ lines_of ts

-- of the message's trailers, in walk order
unfoldable pub listing : List ℕ → List ℕ
listing message = listing_of (walk_from message (walk_start message).at)
