-- The message with one trailer more: document 02, K3. "From message, token and value, write a new message: blank lines at the end
-- dropped, the last line given LF if it lacks one; an empty line too unless the body had an accepted block; then token, colon,
-- space, value. Both new lines end with CR LF where the last non-blank line did in the message as given, else LF."
use Rattle.std.specs.Prelude.{Bool, false, ◌&&◌, List, [], ◌∷◌, ◌++◌, ◌≡◌, ℕ, ◌+◌, T, if◌then◌else◌}
use Rattle.rules.specs.Bytes.{LF, CR, space, colon, token_byte}
use Rattle.rules.specs.Lines.{Line, inner, ending, lines, blank}
use Rattle.rules.specs.Lists.{All, all, any, equal, filled, join}
use Rattle.rules.specs.Paragraph.{solid, Body, empty, ended, accepted, parse, ending_below}
use Rattle.rules.specs.Title.{body}
use Rattle.rules.specs.Trailer.{Trailer, place_of, token_of, raw_value, unfolded}
use Rattle.rules.specs.White.{trim}
use Rattle.rules.specs.declared.Ending.{Ending}

-- ---- what is asked for

pub record Asked (message token value : List ℕ) : Type 0 where
  -- "The token is letters, digits or hyphens, at least one;"
  pub some : T (filled token)
  pub token_bytes : All token_byte token
  -- "the value has no LF and is its own trim; it may be empty."
  pub no_lf : All inner value
  pub own_trim : trim value ≡ value
  -- "7, no non-blank line": there is one
  pub non_blank : T (any solid (lines message))

-- the same as tests (proofs/Asked, asked and asked_passes)
unfoldable pub good_token : List ℕ → Bool
good_token token = filled token && all token_byte token

unfoldable pub good_value : List ℕ → Bool
good_value value = all inner value && equal (trim value) value

unfoldable pub has_line : List ℕ → Bool
has_line message = any solid (lines message)

-- ---- what is written behind the last non-blank line

-- "the last line given LF if it lacks one": a CR alone is no LF
abbrev pub lacking : Ending → List ℕ
lacking Ending.Lf = []
lacking Ending.CrLf = []
lacking Ending.Cr = LF ∷ []
lacking Ending.None = LF ∷ []

-- "Both new lines end with CR LF where the last non-blank line did in the message as given, else LF."
abbrev pub new_end : Ending → List ℕ
new_end Ending.Lf = LF ∷ []
new_end Ending.CrLf = CR ∷ LF ∷ []
new_end Ending.Cr = LF ∷ []
new_end Ending.None = LF ∷ []

-- "the body had an accepted block": its last paragraph is one
abbrev pub is_block : Body → Bool
is_block (empty bs) = false
is_block (ended above p below) = accepted p

unfoldable pub has_block : List ℕ → Bool
has_block message = is_block (parse (lines (body message)))

-- "an empty line too unless the body had an accepted block"
abbrev pub empty_line : Bool → Ending → List ℕ
empty_line block e = if block then [] else new_end e

-- "then token, colon, space, value", and that line's end
abbrev pub new_line : List ℕ → List ℕ → List ℕ → Line
new_line token value end = token ++ (colon ∷ space ∷ (value ++ end))

-- ---- the new message

pub record NewMessage (message token value result : List ℕ) : Type 0 where
  pub front : List Line
  pub last : Line
  pub blanks : List Line
  -- "the last non-blank line", and below it "blank lines at the end"
  pub read : lines message ≡ front ++ last ∷ blanks
  pub not_blank : T (solid last)
  pub all_blank : All blank blanks
  -- they are dropped, and the rest of the sentences goes in their place
  pub written : result ≡
      (join front ++ last) ++ (lacking (ending last) ++ (empty_line (has_block message) (ending last) ++ new_line token value (new_end (ending last))))

-- ---- computed: a message with a non-blank line has one new message, `added` (proofs/Written, new_message and new_message_only)

-- the lines up to the last non-blank one
abbrev pub up_to_last : List Line → List Line
up_to_last [] = []
up_to_last (l ∷ ls) = if any solid (l ∷ ls) then l ∷ up_to_last ls else []

unfoldable pub kept : List ℕ → List ℕ
kept message = join (up_to_last (lines message))

-- what stands above the new line
unfoldable pub above : List ℕ → List ℕ
above message = kept message ++ (lacking (ending_below message) ++ empty_line (has_block message) (ending_below message))

unfoldable pub added : List ℕ → List ℕ → List ℕ → List ℕ
added message token value = above message ++ new_line token value (new_end (ending_below message))

-- ---- what is read back

-- what is told of a trailer: its token and its unfolded value; and where it begins
abbrev pub pair_of : Trailer → List ℕ × List ℕ
pair_of t = (token_of t, unfolded (raw_value t))

abbrev pub told_of : Trailer → ℕ × List ℕ × List ℕ
told_of t = (place_of t, token_of t, unfolded (raw_value t))
