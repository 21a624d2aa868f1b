-- What is asked for, by the tests of the refusals 5, 6 and 7: they are all passed exactly where it holds (asked, asked_passes).
-- Assumes nothing.
use mathlib.Core.Bool.{Bool}
use mathlib.Core.List.{List, [], ◌∷◌}
use Prim.Native.Nat.{ℕ}
use lib.Dec.{T}
use Rattle.rules.specs.Bytes.{token_byte}
use Rattle.rules.specs.Lines.{inner}
use Rattle.rules.specs.Lists.{All, all, equal, filled}
use Rattle.rules.specs.White.{trim}
use Rattle.rules.proofs.Lists.{and_both, and_left, and_right, equal_is}
use Rattle.rules.proofs.White.{equal_self}
use Rattle.appending.specs.Added.{Asked, good_token, good_value, has_line}

all_pass : {A : Type 0} (p : A → Bool) (xs : List A) → T (all p xs) → All p xs
all_pass p [] t = tt
all_pass p (x ∷ xs) t = (and_left (p x) (all p xs) t, all_pass p xs (and_right (p x) (all p xs) t))

pass_all : {A : Type 0} (p : A → Bool) (xs : List A) → All p xs → T (all p xs)
pass_all p [] a = tt
pass_all p (x ∷ xs) a = and_both (p x) (all p xs) a.0 (pass_all p xs a.1)

module _ (message token value : List ℕ) where
  pub asked : T (good_token token) → T (good_value value) → T (has_line message) → Asked message token value
  unfolding good_token good_value has_line
  asked t v m = record {
    some = and_left (filled token) (all token_byte token) t;
    token_bytes = all_pass token_byte token (and_right (filled token) (all token_byte token) t);
    no_lf = all_pass inner value (and_left (all inner value) (equal (trim value) value) v);
    own_trim = equal_is (trim value) value (and_right (all inner value) (equal (trim value) value) v);
    non_blank = m;
  }

  pub asked_passes : Asked message token value → T (good_token token) × T (good_value value) × T (has_line message)
  unfolding good_token good_value has_line
  asked_passes r = (
    and_both (filled token) (all token_byte token) r.some (pass_all token_byte token r.token_bytes),
    and_both (all inner value) (equal (trim value) value) (pass_all inner value r.no_lf) (rw r.own_trim (equal_self value)),
    r.non_blank,
  )
