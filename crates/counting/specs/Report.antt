-- The report: document 02, K11. "The report has seven counts, one for each attribution token and one for the rest, and the number
-- of messages without trailers."
use Rattle.std.specs.Prelude.{List, [], ◌∷◌, ◌++◌, ℕ, suc, ◌+◌, eqb, length, if◌then◌else◌}
use Rattle.rules.specs.Lists.{filled}
use Rattle.rules.specs.Paragraph.{message_trailers}
use Rattle.rules.specs.Trailer.{Trailer, attribution_tokens, same, token_of}

-- which of the names a token is, ASCII case aside; one past the last where it is none
abbrev pub which_of : List (List ℕ) → List ℕ → ℕ
which_of [] token = 0
which_of (name ∷ names) token = if same token name then 0 else suc (which_of names token)

-- "one for each attribution token", 0 to 5 "as document 01 lists them", "and one for the rest", 6
unfoldable pub figure_of : List ℕ → ℕ
figure_of token = which_of attribution_tokens token

-- how many of the trailers count for figure k
abbrev pub number_of : ℕ → List Trailer → ℕ
number_of k [] = 0
number_of k (t ∷ ts) = (if eqb (figure_of (token_of t)) k then 1 else 0) + number_of k ts

-- a number of each message, added up
abbrev pub across : (List ℕ → ℕ) → List (List ℕ) → ℕ
across f [] = 0
across f (m ∷ ms) = f m + across f ms

-- "the trailers that the single walks of the first reading find" are those of each message
abbrev pub having : ℕ → List ℕ → ℕ
having k m = number_of k (message_trailers m)

abbrev pub without : List ℕ → ℕ
without m = if filled (message_trailers m) then 0 else 1

-- "seven counts, one for each attribution token and one for the rest"
abbrev pub counts_of : List (List ℕ) → List ℕ
counts_of ms =
    across (having 0) ms
    ∷ across (having 1) ms
    ∷ across (having 2) ms
    ∷ across (having 3) ms
    ∷ across (having 4) ms
    ∷ across (having 5) ms
    ∷ across (having 6) ms
    ∷ []

-- "and the number of messages without trailers"
abbrev pub without_of : List (List ℕ) → ℕ
without_of ms = across without ms

-- "the eight numbers in that order"
abbrev pub report_of : List (List ℕ) → List ℕ
report_of ms = counts_of ms ++ (without_of ms ∷ [])

-- ---- what the theorems say of it (proofs/Figures)

abbrev pub trailer_count : List ℕ → ℕ
trailer_count m = length (message_trailers m)

abbrev pub sum : List ℕ → ℕ
sum [] = 0
sum (x ∷ xs) = x + sum xs

-- two reports added, number by number
abbrev pub plus : List ℕ → List ℕ → List ℕ
plus [] ys = []
plus (x ∷ xs) [] = []
plus (x ∷ xs) (y ∷ ys) = (x + y) ∷ plus xs ys

-- ---- for the parts of the call: the seven counts of some trailers

abbrev pub seven_of : List Trailer → List ℕ
seven_of ts = number_of 0 ts ∷ number_of 1 ts ∷ number_of 2 ts ∷ number_of 3 ts ∷ number_of 4 ts ∷ number_of 5 ts ∷ number_of 6 ts ∷ []
