-- Computed: the only answer that `Says` (Place) allows, byte by byte (proofs/Refusals, answer_says and answer_only). What has been
-- read is one of a few states, each with the places that it has seen.
use Rattle.std.specs.Prelude.{List, [], ◌∷◌, ℕ, zero, suc, eqb, if◌then◌else◌}
use Rattle.mailbox.specs.Grammar.{white_byte, atext, quote_text, comment_text, takes, Ranges, ranges, Answer, accepted, refused, deepest}

-- the words so far: none; or some, with the first one's start and the last one's end
pub data Named : Type 0 where
  none : Named
  some : ℕ → ℕ → Named

-- which dot-atom is read: the first, with the start and the end of the words; or the second, with the address's start too
pub data Half : Type 0 where
  local : ℕ → ℕ → Half
  domain : ℕ → ℕ → ℕ → Half

-- where white space and comments may stand: before a word or the `<`; before a dot-atom; behind a dot-atom, with its start and its
-- end; behind the `>`, with the answer
pub data Home : Type 0 where
  names : Named → Home
  opened : Half → Home
  behind : Half → ℕ → ℕ → Home
  closed : Ranges → Home

-- What has been read leads to one of these states: where white space and comments may stand; in an atom, in quotes, behind a
-- backslash there, each with the first word's start; in a dot-atom, behind one of its dots, each with its start; in a comment in which
-- d more may be opened and which stands in k others, behind a backslash there; dead, with the refusal's number and place.
pub data State : Type 0 where
  home : Home → State
  atom quote quote_taken : ℕ → State
  text dotted : Half → ℕ → State
  inside inside_taken : Home → ℕ → ℕ → State
  dead : ℕ → ℕ → State

-- the words' start and end, if they begin, or would begin, at a place
abbrev pub from_of : Named → ℕ → ℕ
from_of none at = at
from_of (some from to) at = from

abbrev pub to_of : Named → ℕ → ℕ
to_of none at = at
to_of (some from to) at = to

-- the sign that follows a dot-atom, and where the reader is then
abbrev pub sign_of : Half → ℕ
sign_of (local n m) = 64
sign_of (domain n m from) = 62

abbrev pub next : Half → ℕ → ℕ → Home
next (local n m) from to = opened (domain n m from)
next (domain n m from) at to = closed (ranges n m from to)

-- a comment is opened, where d may be, in k others; one is closed
abbrev pub opening : ℕ → Home → ℕ → ℕ → State
opening at h zero k = dead 15 at
opening at h (suc d) k = inside h d k

abbrev pub closing : Home → ℕ → ℕ → State
closing h d zero = home h
closing h d (suc k) = inside h (suc d) k

-- a byte that is no white space and opens no comment, where these may stand
abbrev pub begin : ℕ → Home → ℕ → State
begin at (names v) c =
    if atext c then atom (from_of v at) else
    if eqb c 34 then quote (from_of v at) else
    if eqb c 60 then home (opened (local (from_of v at) (to_of v at))) else dead 14 at
begin at (opened half) c = if atext c then text half at else dead 14 at
begin at (behind half from to) c = if eqb c (sign_of half) then home (next half from to) else dead 14 at
begin at (closed r) c = dead 14 at

-- any byte there
abbrev pub spaced : ℕ → ℕ → Home → ℕ → State
spaced deep at h c = if white_byte c then home h else if eqb c 40 then opening at h deep 0 else begin at h c

-- the state behind a byte
abbrev pub step : ℕ → ℕ → State → ℕ → State
step deep at (home h) c = spaced deep at h c
step deep at (atom from) c = if atext c then atom from else spaced deep at (names (some from at)) c
step deep at (quote from) c =
    if quote_text c then quote from else
    if eqb c 34 then home (names (some from (suc at))) else
    if eqb c 92 then quote_taken from else dead 14 at
step deep at (quote_taken from) c = if takes c then quote from else dead 14 at
step deep at (text half from) c =
    if atext c then text half from else
    if eqb c 46 then dotted half from else spaced deep at (behind half from at) c
step deep at (dotted half from) c = if atext c then text half from else dead 14 at
step deep at (inside h d k) c =
    if comment_text c then inside h d k else
    if eqb c 41 then closing h d k else
    if eqb c 92 then inside_taken h d k else
    if eqb c 40 then opening at h d (suc k) else dead 14 at
step deep at (inside_taken h d k) c = if takes c then inside h d k else dead 14 at
step deep at (dead number place) c = dead number place

-- the answer at the value's end
abbrev pub finish : ℕ → State → Answer
finish at (home (names v)) = refused 14 at
finish at (home (opened half)) = refused 14 at
finish at (home (behind half from to)) = refused 14 at
finish at (home (closed r)) = accepted r
finish at (atom from) = refused 14 at
finish at (quote from) = refused 14 at
finish at (quote_taken from) = refused 14 at
finish at (text half from) = refused 14 at
finish at (dotted half from) = refused 14 at
finish at (inside h d k) = refused 14 at
finish at (inside_taken h d k) = refused 14 at
finish at (dead number place) = refused number place

-- the answer to what is read from a place on, in a state
abbrev pub read : ℕ → ℕ → State → List ℕ → Answer
read deep at st [] = finish at st
read deep at st (c ∷ s) = read deep (suc at) (step deep at st c) s

abbrev pub start : State
start = home (names none)

-- the answer for a value
unfoldable pub mailbox : List ℕ → Answer
mailbox s = read deepest 0 start s
