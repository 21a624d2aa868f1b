-- The bundle: document 02, K11. "A bundle is a u32 count of at most 4,096, then count + 1 u32 offsets, little endian, then the
-- messages. The first offset is the header's length, the last the bundle's, none falls; equal neighbours mean an empty
-- message. Write and read it, the same messages always giving the same bytes."
use Rattle.std.specs.Prelude.{Bool, true, false, ◌&&◌, List, [], ◌∷◌, ◌++◌, map, ◌≡◌, ℕ, zero, suc, ◌+◌, ◌-◌, ◌*◌, ◌/◌, ◌%◌, ◌≤◌, ◌<◌, eqb, leb, ltb, length, take, drop, Option, None, Some, if◌then◌else◌}
use Rattle.rules.specs.Lists.{join}

-- ---- "u32 [..], little endian"

abbrev pub byte : ℕ → Bool
byte b = ltb b 256

-- a number in so many bytes, the lowest first
abbrev pub little_endian : ℕ → ℕ → List ℕ
little_endian zero n = []
little_endian (suc k) n = n % 256 ∷ little_endian k (n / 256)

unfoldable pub u32le : ℕ → List ℕ
u32le n = little_endian 4 n

-- one more than the largest u32
abbrev pub u32_top : ℕ
u32_top = 4_294_967_296

-- ---- the bundle of a list of messages

-- "at most 4,096"
abbrev pub most : ℕ
most = 4096

-- the count and count + 1 offsets, four bytes each
abbrev pub header_length : ℕ → ℕ
header_length count = 8 + 4 * count

-- where each of the messages ends that stand one behind another from `at` on
abbrev pub ends : ℕ → List (List ℕ) → List ℕ
ends at [] = []
ends at (m ∷ ms) = (at + length m) ∷ ends (at + length m) ms

-- "a u32 count [..], then count + 1 u32 offsets": the first is the header's length, each other the end of a message. So the
-- last is the bundle's length, none falls, and an empty message has equal neighbours
abbrev pub header_numbers : List (List ℕ) → List ℕ
header_numbers ms = length ms ∷ header_length (length ms) ∷ ends (header_length (length ms)) ms

-- "the same messages always giving the same bytes": it is a function of them
unfoldable pub bundle_of : List (List ℕ) → List ℕ
bundle_of ms = join (map u32le (header_numbers ms)) ++ join ms

-- these bytes are a bundle, of these messages. Every offset is a u32, since the last, which is the length, is one
pub record IsBundle (b : List ℕ) (ms : List (List ℕ)) : Type 0 where
  pub written : b ≡ bundle_of ms
  pub at_most : length ms ≤ most
  pub fits : length b < u32_top

-- ---- computed: whether bytes are a bundle, and of which messages (proofs/Bundle, read_written, read_is and one_list)

-- the number that bytes are, the lowest first; the u32 at a place
abbrev pub value_of : List ℕ → ℕ
value_of [] = 0
value_of (b ∷ s) = b + 256 * value_of s

unfoldable pub u32_at : List ℕ → ℕ → ℕ
u32_at b at = value_of (take 4 (drop at b))

abbrev pub count_of : List ℕ → ℕ
count_of b = u32_at b 0

-- offset k, and the n offsets from offset k on
abbrev pub offset : List ℕ → ℕ → ℕ
offset b k = u32_at b (4 + 4 * k)

abbrev pub offsets : List ℕ → ℕ → ℕ → List ℕ
offsets b k zero = []
offsets b k (suc n) = offset b k ∷ offsets b (suc k) n

-- of an offset and those that follow it: "none falls"; the last of them; what stands between neighbours
abbrev pub none_falls : ℕ → List ℕ → Bool
none_falls x [] = true
none_falls x (y ∷ os) = leb x y && none_falls y os

abbrev pub last_of : ℕ → List ℕ → ℕ
last_of x [] = x
last_of x (y ∷ os) = last_of y os

abbrev pub parts : List ℕ → ℕ → List ℕ → List (List ℕ)
parts b x [] = []
parts b x (y ∷ os) = take (y - x) (drop x b) ∷ parts b y os

-- "the last the bundle's, none falls"
abbrev pub rises_to : ℕ → ℕ → List ℕ → Bool
rises_to size x os = none_falls x os && eqb (last_of x os) size

-- "The first offset is the header's length, the last the bundle's, none falls"
abbrev pub offsets_good : List ℕ → ℕ → Bool
offsets_good b count = eqb (offset b 0) (header_length count) && rises_to (length b) (offset b 0) (offsets b 1 count)

-- the count and all offsets are there, the count is "at most 4,096", and the offsets are good
unfoldable pub is_bundle : List ℕ → Bool
is_bundle b =
    if ltb (length b) 8 then false
    else if ltb most (count_of b) then false
    else if ltb (length b) (header_length (count_of b)) then false
    else offsets_good b (count_of b)

-- the messages, and message k, from 0 on: what stands from offset k up to offset k + 1
unfoldable pub messages_in : List ℕ → List (List ℕ)
messages_in b = parts b (offset b 0) (offsets b 1 (count_of b))

abbrev pub message_at : List ℕ → ℕ → List ℕ
message_at b k = take (offset b (suc k) - offset b k) (drop (offset b k) b)

-- the messages of a bundle; `none` is "not a bundle"
abbrev pub read_bundle : List ℕ → Option (List (List ℕ))
read_bundle b = if is_bundle b then Some (messages_in b) else None
