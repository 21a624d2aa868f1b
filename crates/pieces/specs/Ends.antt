-- What the functions answer: how far the reader of the mailbox has come behind a piece, and in which state.
use Rattle.std.specs.Prelude.{Bool, false, cond, ◌||◌, List, ◌∷◌, ◌≡◌, ℕ, suc, ◌+◌, ◌≤◌, T, eqb, length, drop, get_or, Ok, IfOk}
use Rattle.rules.specs.Lists.{Stops, run}
use Rattle.mailbox.specs.Grammar.{atext}
use Rattle.mailbox.specs.Reader.{Half, home, names, some, quote, quote_taken, text, dotted}
use Rattle.comment.specs.Ends.{End, place, Watch, until, onward}

-- "An atom runs as far as it can."
abbrev pub atom_end : List ℕ → ℕ → ℕ
atom_end s at = at + length (run atext (drop at s))

-- a byte of a dot-atom
abbrev pub dot_byte : ℕ → Bool
dot_byte c = atext c || eqb c 46

-- a reading that nobody stops in a dot-atom that begins at the place
abbrev pub PassesDots : Watch → Half → ℕ → Type 0
PassesDots w half from =
    ((t : List ℕ) → w.over (dotted half from) t ≡ false) ×
    ((c : ℕ) (t : List ℕ) → T (dot_byte c) → w.over (text half from) (c ∷ t) ≡ false)

-- over a dot-atom, as far as it can run
pub record DotEnd (s : List ℕ) (at : ℕ) (e : End) : Type 0 where
  pub reads : (w : Watch) (half : Half) → PassesDots w half at → until w at (dotted half at) (drop at s) ≡ onward w s (text half at) e
  pub stops : IfOk e (λ k. Stops dot_byte (drop k s))
  pub later : at ≤ place e
  pub within : place e ≤ length s

-- over the quoted string that the quote at `at` opens
pub record QuoteEnd (s : List ℕ) (at : ℕ) (e : End) : Type 0 where
  pub reads : (w : Watch) (from : ℕ) → ((t : List ℕ) → (w.over (quote from) t ≡ false) × (w.over (quote_taken from) t ≡ false))
      → until w (suc at) (quote from) (drop (suc at) s) ≡ onward w s (home (names (some from (place e)))) e
  pub later : suc at ≤ place e
  pub within : place e ≤ length s

-- over a word, "atoms or quoted strings"; the same place where there is none
abbrev pub WordEnd : List ℕ → ℕ → End → Type 0
WordEnd s at e = cond (eqb (get_or s at 0) 34) (QuoteEnd s at e) (e ≡ Ok (atom_end s at))
