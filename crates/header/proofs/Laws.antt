-- What a scan reads from a place on, and where a name ends. Assumes nothing.
use Rattle.std.specs.Prelude.{Some, None, cond, if◌then◌else◌}
use Rattle.std.specs.List.{position, position_or_len}
use Rattle.std.proofs.lemmas.List.Recursion.{is_position_or_len}
use mathlib.Core.Bool.{Bool, true, false, not, ◌&&◌, ◌||◌}
use mathlib.Core.List.{List, [], ◌∷◌}
use mathlib.Core.Path.{◌≡◌, refl, ◌∙◌}
use Prim.Native.Nat.{ℕ, suc, ◌+◌, ◌≤◌, ◌<◌}
use native.Mathlib.Numerals.{add-one}
use native.Mathlib.Omega.{arith}
use borrow.Author.Tests.{eq-eqb, ne_eqb, ltb-false}
use lib.Dec.{eqb}
use lib.ListN.{length, drop, get_or, drop_of_length-le}
use lib.Seq.{drop-cons}
use Rattle.rules.specs.Lists.{all, run}
use Rattle.commit.specs.Grammar.{name_byte, hex_digit}
use Rattle.rules.proofs.Lists.{run_within}
use Rattle.commit.specs.Reader.{identifier}
use Rattle.header.specs.Front.{ends_name}

-- ---- runs

pub run_on : (p : ℕ → Bool) (s : List ℕ) (i : ℕ) → i < length s → p (get_or s i 0) ≡ true → length (run p (drop i s)) ≡ suc (length (run p (drop (i + 1) s)))
run_on p s i h e = rw (add-one i, drop-cons s i 0, e)

-- ---- tests of all bytes

pub all_over : (p : ℕ → Bool) (s : List ℕ) (i : ℕ) → length s ≤ i → all p (drop i s) ≡ true
all_over p s i h = rw (drop_of_length-le s h)

-- ---- bytes and identifiers

pub id_long : (size : ℕ) (s : List ℕ) → (length s ≡ size → ⊥) → identifier size s ≡ false
unfolding identifier
id_long size s n = rw (ne_eqb (length s) size n)

pub id_is : (size : ℕ) (s : List ℕ) (b : Bool) → length s ≡ size → all hex_digit s ≡ b → identifier size s ≡ b
unfolding identifier
id_is size s b e d = rw (eq-eqb (length s) size e, d)

-- ---- a name at the front

name_front : (c : ℕ) (xs : List ℕ) → length (run name_byte (c ∷ xs)) ≡ cond (ends_name c) 0 (1 + length (run name_byte xs))
unfolding name_byte
name_front c xs = go (eqb c 10) (eqb c 32)
  where
    go : (a b : Bool) → length (if not a && not b then c ∷ run name_byte xs else []) ≡ cond (a || b) 0 (1 + length (run name_byte xs))
    go true b = refl
    go false true = refl
    go false false = omega arith

name_long : (xs : List ℕ) → length (run name_byte xs) ≡ position_or_len ends_name xs
name_long = is_position_or_len (λ xs. length (run name_byte xs)) ends_name refl name_front

name_found : (b : Bool) (k n : ℕ) → cond b (Some k) None ≡ Some n → k ≡ n
name_found true k n e = cc
name_found false k n e = cc

name_lost : (b : Bool) (k : ℕ) → cond b (Some k) None ≡ None → b ≡ false
name_lost true k e = cc
name_lost false k e = refl

pub name_stops : (xs : List ℕ) (n : ℕ) → position ends_name xs ≡ Some n → (n ≤ length xs) × (length (run name_byte xs) ≡ n)
name_stops xs n e =
    let f = name_long xs ∙ name_found _ _ n e in
    (omega (arith, run_within name_byte xs, f), f)

pub name_over : (xs : List ℕ) → position ends_name xs ≡ None → length (run name_byte xs) ≡ length xs
name_over xs e = omega (arith, name_long xs, run_within name_byte xs, ltb-false (position_or_len ends_name xs) (length xs) (name_lost _ _ e))
