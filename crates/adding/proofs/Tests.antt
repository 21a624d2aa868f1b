-- The tests on a token and on a value: a run that is as long as its bytes is all of them, and so is a trim. Assumes nothing.
use Rattle.std.specs.Prelude.{if◌then◌else◌}
use mathlib.Core.Bool.{Bool, true, false, ◌&&◌}
use mathlib.Core.List.{List, [], ◌∷◌}
use mathlib.Core.Path.{◌≡◌, refl, ◌∙◌}
use Prim.Native.Nat.{ℕ, suc, ◌+◌, ◌-◌}
use native.Mathlib.Omega.{arith}
use borrow.Author.Tests.{eq-eqb, ne_eqb}
use lib.Dec.{eqb, eqb→eq, eqb_refl}
use lib.ListN.{length, drop}
use lib.Seq.{take-length}
use Rattle.rules.specs.Bytes.{token_byte}
use Rattle.rules.specs.Lines.{inner}
use Rattle.rules.specs.Lists.{all, equal, run}
use Rattle.rules.specs.Trailer.{token_in}
use Rattle.rules.specs.White.{trim, trim_at}
use Rattle.rules.proofs.Lists.{equal_is, same_test}
use Rattle.rules.proofs.White.{equal_self, trim_fits, trim_part}
use Rattle.appending.specs.Added.{good_token, good_value}

-- ---- runs

eqb_suc : (a b : ℕ) → eqb (suc a) (suc b) ≡ eqb a b
eqb_suc a b = same_test (eqb (suc a) (suc b)) (eqb a b) (λ t. rw (suc_same (eqb→eq (suc a) (suc b) t)) (eqb_refl b)) (λ t. rw (eqb→eq a b t) (eqb_refl (suc b)))
  where
    suc_same : suc a ≡ suc b → a ≡ b
    suc_same e = omega arith

run_whole : (p : ℕ → Bool) (s : List ℕ) → eqb (length (run p s)) (length s) ≡ all p s
run_whole p [] = refl
run_whole p (x ∷ s) = by (p x) (run_whole p s)
  where
    by : (b : Bool) → eqb (length (run p s)) (length s) ≡ all p s
        → eqb (length (if b then x ∷ run p s else [])) (length (x ∷ s)) ≡ b && all p s
    by true h = eqb_suc (length (run p s)) (length s) ∙ h
    by false h = ne_eqb 0 (suc (length s)) (λ z. omega arith)

-- ---- the token

pub no_token : (s : List ℕ) → eqb (length s) 0 ≡ true → false ≡ good_token s
unfolding good_token
no_token [] e = refl
no_token (x ∷ s) e = absurd (let z : suc (length s) ≡ 0 = eqb→eq (suc (length s)) 0 (rw e tt) in omega arith)

pub token_is : (s : List ℕ) (n : ℕ) → eqb (length s) 0 ≡ false → n ≡ length (token_in s) → eqb n (length s) ≡ good_token s
unfolding good_token token_in
token_is [] n z e = absurd (cc)
token_is (x ∷ s) n z e = rw e (run_whole token_byte (x ∷ s))

-- ---- the value

-- what is as long as its trim is its own trim
same_by_length : (a b : List ℕ) → (length a ≡ length b → a ≡ b) → eqb (length a) (length b) ≡ equal a b
same_by_length a b f =
    same_test (eqb (length a) (length b)) (equal a b) (λ t. rw (f (eqb→eq (length a) (length b) t)) (equal_self b))
    (λ t. rw (equal_is a b t) (eqb_refl (length b)))

untrimmed : (v : List ℕ) → length (trim v) ≡ length v → trim v ≡ v
untrimmed v e =
    let front : trim_at v ≡ 0 = omega (arith, trim_fits v) in
    trim_part v ∙ (rw (front, e) (take-length v))

pub has_lf : (v : List ℕ) (n : ℕ) → n ≡ 0 + length (run inner (drop 0 v)) → (n ≡ length v → ⊥) → good_value v ≡ false
unfolding good_value
has_lf v n e z =
    let some : eqb (length (run inner v)) (length v) ≡ false = ne_eqb (length (run inner v)) (length v) (λ h. z (omega arith)) in
    rw (← run_whole inner v, some)

pub value_is : (v : List ℕ) (n start end : ℕ) → n ≡ 0 + length (run inner (drop 0 v)) → n ≡ length v
    → (start ≡ trim_at v) × (end ≡ trim_at v + length (trim v)) → eqb (end - start) (length v) ≡ good_value v
unfolding good_value
value_is v n start end e h p =
    let none : eqb (length (run inner v)) (length v) ≡ true = eq-eqb (length (run inner v)) (length v) (omega arith) in
    let size : end - start ≡ length (trim v) = omega arith in
    rw (← run_whole inner v, none, size) (same_by_length (trim v) v (untrimmed v))
