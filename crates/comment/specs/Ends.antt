-- What the functions answer: how far the reader of the mailbox (mailbox/specs/Reader) has come behind a piece, and in which state.
use Rattle.std.specs.Prelude.{Bool, false, cond, ◌||◌, List, [], ◌∷◌, ◌≡◌, ℕ, suc, ◌<◌, ◌≤◌, T, eqb, length, drop, get_or, if◌then◌else◌, Option, Some, None, Result, Ok, Err, IfOk}
use Rattle.rules.specs.Lists.{Stops}
use Rattle.mailbox.specs.Grammar.{white_byte, comment_text, quote_text, takes, Answer, refused, deepest}
use Rattle.mailbox.specs.Reader.{Home, State, home, quote, quote_taken, inside, inside_taken, dead, closing, step, finish}
use Rattle.mailbox.specs.declared.MailboxError.{MailboxError}

-- a piece's end: the place behind it, or a refusal
abbrev pub End : Type 0
End = Result ℕ MailboxError

-- a refusal's number and place; the one for its length names no place
abbrev pub refusal : MailboxError → Answer
refusal MailboxError.TooLong = refused 1 0
refusal (MailboxError.NotAMailbox at) = refused 14 at
refusal (MailboxError.NinthComment at) = refused 15 at

abbrev pub refused_at : MailboxError → ℕ
refused_at MailboxError.TooLong = 0
refused_at (MailboxError.NotAMailbox at) = at
refused_at (MailboxError.NinthComment at) = at

-- where an end is: the place behind the piece, or the refusal's
abbrev pub place : End → ℕ
place (Ok at) = at
place (Err e) = refused_at e

-- ---- a watched reading

-- Someone watches the reader and stops it where he likes, by its state and by the bytes to come, but not in a dead state.
pub record Watch : Type 0 where
  pub over : State → List ℕ → Bool
  pub alive : (n k : ℕ) (s : List ℕ) → over (dead n k) s ≡ false

-- the place, the state and the bytes to come; or the answer, where he never stopped it
pub data Stopped : Type 0 where
  stopped : ℕ → State → List ℕ → Stopped
  answered : Answer → Stopped

-- the reading from a place on, in a state
abbrev pub until : Watch → ℕ → State → List ℕ → Stopped
until w at st [] = if w.over st [] then stopped at st [] else answered (finish at st)
until w at st (c ∷ s) = if w.over st (c ∷ s) then stopped at st (c ∷ s) else until w (suc at) (step deepest at st c) s

-- behind the piece the reading goes on in this state; or it is answered by the refusal
abbrev pub onward : Watch → List ℕ → State → End → Stopped
onward w s st (Ok at) = until w at st (drop at s)
onward w s st (Err e) = answered (refusal e)

-- ---- text, in quotes or in a comment: `text` is the class of its bytes

-- what a call answers of a byte is whether it is text
abbrev pub Computes : (ℕ → Bool → Type 0) → (ℕ → Bool) → Type 0
Computes post text = (c : ℕ) (b : Bool) → c < 256 → post c b → b ≡ text c

-- how many bytes from the front: one of the text; two, a backslash and what it takes; none of them; nothing, where a backslash takes
-- nothing
abbrev pub taken : List ℕ → Option ℕ
taken [] = None
taken (c ∷ s) = if takes c then Some 2 else None

unfoldable pub width : (ℕ → Bool) → List ℕ → Option ℕ
width text [] = Some 0
width text (c ∷ s) = if text c then Some 1 else if eqb c 92 then taken s else Some 0

-- a byte of the text, or a backslash
abbrev pub text_byte : (ℕ → Bool) → ℕ → Bool
text_byte text c = text c || eqb c 92

-- the reader's states in a text and behind a backslash in it
pub data Text : (ℕ → Bool) → State → State → Type 0 where
  quotes : {from : ℕ} → Text quote_text (quote from) (quote_taken from)
  comment : {h : Home} {d k : ℕ} → Text comment_text (inside h d k) (inside_taken h d k)

-- a reading that nobody stops in a text
abbrev pub PassesText : Watch → (ℕ → Bool) → State → State → Type 0
PassesText w text st behind =
    ((c : ℕ) (t : List ℕ) → T (text_byte text c) → w.over st (c ∷ t) ≡ false) × ((t : List ℕ) → w.over behind t ≡ false)

-- over the text from `at` on, up to a byte that is none, or the value's end
pub record TextEnd (text : ℕ → Bool) (s : List ℕ) (at : ℕ) (e : End) : Type 0 where
  pub reads : (w : Watch) (st behind : State) → Text text st behind → PassesText w text st behind
      → until w at st (drop at s) ≡ onward w s st e
  pub stops : IfOk e (λ k. Stops (text_byte text) (drop k s))
  pub later : at ≤ place e
  pub within : place e ≤ length s

-- ---- comments and white space

-- a reading that nobody stops in the comments of a home
abbrev pub Unseen : Watch → Home → Type 0
Unseen w h = (d k : ℕ) (t : List ℕ) → (w.over (inside h d k) t ≡ false) × (w.over (inside_taken h d k) t ≡ false)

-- from `at` on, inside a comment in which `allowed` more may be opened, up to behind its bracket
pub record CommentEnd (s : List ℕ) (at allowed : ℕ) (e : End) : Type 0 where
  pub reads : (w : Watch) (h : Home) (k : ℕ) → Unseen w h
      → until w at (inside h allowed k) (drop at s) ≡ onward w s (closing h allowed k) e
  pub later : at ≤ place e
  pub within : place e ≤ length s

-- "eight deep at most": how many may be opened in a comment that stands in none
abbrev pub in_comment : ℕ
in_comment = 7

-- white space, and the bracket that opens a comment
abbrev pub gap_byte : ℕ → Bool
gap_byte c = white_byte c || eqb c 40

-- a reading that nobody stops in white space and comments
abbrev pub Passes : Watch → Home → Type 0
Passes w h = Unseen w h × ((c : ℕ) (t : List ℕ) → T (gap_byte c) → w.over (home h) (c ∷ t) ≡ false)

-- one byte of white space or one comment; the same place where there is neither
abbrev pub GapStep : List ℕ → ℕ → End → Type 0
GapStep s at e =
    cond (eqb (get_or s at 0) 40)
    (CommentEnd s (suc at) in_comment e)
    (e ≡ Ok (if white_byte (get_or s at 0) then suc at else at))

-- over all white space and comments from `at` on
pub record GapEnd (s : List ℕ) (at : ℕ) (e : End) : Type 0 where
  pub reads : (w : Watch) (h : Home) → Passes w h → until w at (home h) (drop at s) ≡ onward w s (home h) e
  pub stops : IfOk e (λ k. Stops gap_byte (drop k s))
  pub later : at ≤ place e
  pub within : place e ≤ length s
