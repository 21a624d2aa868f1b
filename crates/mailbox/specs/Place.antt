-- Where a value that is no mailbox is refused, by the grammar alone: document 02, K14, "Refusals, after 1, with the place of the
-- first byte with which no mailbox goes on, or the value's end: 15 if that byte opens a ninth comment inside eight, else 14."
use Rattle.std.specs.Prelude.{List, [], ◌∷◌, ◌++◌, ◌≡◌, ℕ, suc, length}
use Rattle.mailbox.specs.Grammar.{Ranges, Mailbox, Answer, accepted, refused}

-- a mailbox goes on with these bytes: some bytes behind them complete them to one
pub record GoesOn (deep : ℕ) (s : List ℕ) : Type 0 where
  pub behind : List ℕ
  pub ranges : Ranges
  pub mailbox : Mailbox deep (s ++ behind) ranges

-- "the first byte with which no mailbox goes on, or the value's end": what is before it, it and what is behind it
pub data StopsThere (deep : ℕ) (before : List ℕ) : List ℕ → Type 0 where
  end : StopsThere deep before []
  byte : {c : ℕ} {after : List ℕ} → (GoesOn deep (before ++ c ∷ []) → ⊥) → StopsThere deep before (c ∷ after)

-- "that byte opens a ninth comment inside eight": it is `(`, and with it a mailbox goes on whose comments may be one deeper.
-- Where none goes on whose comments may not, as `StopsThere` says, eight comments are open before it, one inside the other
-- (proofs/Ninth, ninth_inside_eight).
pub data Ninth (deep : ℕ) (before : List ℕ) : List ℕ → Type 0 where
  ninth : {after : List ℕ} → GoesOn (suc deep) (before ++ 40 ∷ []) → Ninth deep before (40 ∷ after)

-- "15 if that byte opens a ninth comment inside eight, else 14"
pub data Number (deep : ℕ) (before after : List ℕ) : ℕ → Type 0 where
  fifteen : Ninth deep before after → Number deep before after 15
  fourteen : (Ninth deep before after → ⊥) → Number deep before after 14

-- the number and the place of a refusal
pub record Refusal (deep : ℕ) (s : List ℕ) (number place : ℕ) : Type 0 where
  pub none : (r : Ranges) → Mailbox deep s r → ⊥
  pub before : List ℕ
  pub after : List ℕ
  pub reads : s ≡ before ++ after
  pub place_is : place ≡ length before
  pub goes_on : GoesOn deep before
  pub stops : StopsThere deep before after
  pub number_is : Number deep before after number

-- "accepted exactly for that grammar": what an answer says of a value
pub data Says (deep : ℕ) (s : List ℕ) : Answer → Type 0 where
  mailbox : {r : Ranges} → Mailbox deep s r → Says deep s (accepted r)
  none : {number place : ℕ} → Refusal deep s number place → Says deep s (refused number place)
