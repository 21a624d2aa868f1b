-- What the functions answer: how far the reader of the mailbox has come, and in which state.
use Rattle.std.specs.Prelude.{false, List, ◌≡◌, ℕ, ◌≤◌, length, drop, Result, Ok, Err, IfOk}
use Rattle.mailbox.specs.Reader.{Half, Home, State, local, domain, names, opened, behind, closed, home, atom, quote, quote_taken, text, dotted, inside, inside_taken, dead, sign_of, next, start}
use Rattle.mailbox.specs.declared.MailboxError.{MailboxError}
use Rattle.comment.specs.Ends.{refusal, refused_at, Watch, Stopped, answered, until, GapEnd}
use Rattle.pieces.specs.Ends.{DotEnd}
use Rattle.signer.specs.declared.Passed.{Passed}

-- how far a reading is: 0, before the `<`; 1, before the `@`; 2, before the `>`; 3, behind it
abbrev pub half_stage : Half → ℕ
half_stage (local n m) = 1
half_stage (domain n m from) = 2

abbrev pub home_stage : Home → ℕ
home_stage (names v) = 0
home_stage (opened half) = half_stage half
home_stage (behind half from to) = half_stage half
home_stage (closed r) = 3

abbrev pub stage : State → ℕ
stage (home h) = home_stage h
stage (atom from) = 0
stage (quote from) = 0
stage (quote_taken from) = 0
stage (text half from) = half_stage half
stage (dotted half from) = half_stage half
stage (inside h d k) = home_stage h
stage (inside_taken h d k) = home_stage h
stage (dead n k) = 0

-- a reading that nobody stops in a stage
abbrev pub Quiet : Watch → ℕ → Type 0
Quiet w n = (st : State) (t : List ℕ) → stage st ≡ n → w.over st t ≡ false

-- behind what was passed the reading goes on in its state; or it is answered by the refusal
abbrev pub toward : Watch → List ℕ → (Passed → State) → Result Passed MailboxError → Stopped
toward w s st (Ok p) = until w p.at (st p) (drop p.at s)
toward w s st (Err e) = answered (refusal e)

-- the place behind it, or the refusal's
abbrev pub passed_at : Result Passed MailboxError → ℕ
passed_at (Ok p) = p.at
passed_at (Err e) = refused_at e

-- from the front up to behind the `<`; the part is from the first word's start to the last one's end
pub record NamesEnd (s : List ℕ) (e : Result Passed MailboxError) : Type 0 where
  pub reads : (w : Watch) → Quiet w 0 → until w 0 start s ≡ toward w s (λ p. home (opened (local p.part.start p.part.end))) e
  pub within : passed_at e ≤ length s

-- from behind the `<` or the `@` up to behind the sign that follows the dot-atom; the part is the dot-atom, which starts behind white
-- space and comments
pub record HalfEnd (s : List ℕ) (at sign : ℕ) (e : Result Passed MailboxError) : Type 0 where
  pub reads : (w : Watch) (half : Half) → sign_of half ≡ sign → Quiet w (half_stage half)
      → until w at (home (opened half)) (drop at s) ≡ toward w s (λ p. home (next half p.part.start p.part.end)) e
  pub gap : IfOk e (λ p. GapEnd s at (Ok p.part.start))
  pub dots : IfOk e (λ p. DotEnd s p.part.start (Ok p.part.end))
  pub within : passed_at e ≤ length s
