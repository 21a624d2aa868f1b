-- An answer about a bundle is known by its number and its values: a statement `says r ≡ ..` decides it. Assumes nothing.
use Rattle.std.specs.Prelude.{Option, None, Some, Result, Ok, Err, if◌then◌else◌}
use mathlib.Core.Bool.{Bool, true, false, not, ◌||◌}
use mathlib.Core.List.{List, [], ◌∷◌}
use mathlib.Core.Path.{◌≡◌, refl}
use Prim.Native.Nat.{ℕ, zero, suc}
use lib.ListN.{length}
use Rattle.rules.proofs.Answers.{Decides, reread, said_decides}
use Rattle.rules.specs.Answers.{limited, over_limit, says}
use Rattle.rules.specs.declared.Part.{Part}
use Rattle.rules.specs.declared.TooLong.{TooLong}
use Rattle.bundle.proofs.Bundle.{messages_count}
use Rattle.bundle.specs.Answers.{bundle_refused, count_answer, count_values, counted_says, message_says, message_values, of_bundle}
use Rattle.bundle.specs.Bundle.{count_of, is_bundle, messages_in}
use Rattle.bundle.specs.declared.BundleError.{BundleError}

-- an error's number is one more than this
abbrev pub bundle_error : ℕ → List ℕ → BundleError
bundle_error zero values = BundleError.TooLong
bundle_error (suc n) values = BundleError.NotABundle

pub error_back : {A : Type 0} (read : List ℕ → A) (e : BundleError) → reread read bundle_error (bundle_refused e) ≡ Err e
error_back read BundleError.TooLong = refl
error_back read BundleError.NotABundle = refl

abbrev count : List ℕ → ℕ
count [] = 0
count (n ∷ rest) = n

pub bundle_counted_decides : Decides counted_says
bundle_counted_decides = said_decides count_values bundle_refused count bundle_error (λ n. refl) (error_back count)

abbrev part : ℕ → ℕ → Part
part start end = record { start = start; end = end }

abbrev message : List ℕ → Option Part
message (start ∷ end ∷ rest) = Some (part start end)
message (start ∷ []) = None
message [] = None

message_back : (p : Option Part) → message (message_values p) ≡ p
message_back (Some p) = refl
message_back None = refl

pub message_found_decides : Decides message_says
message_found_decides = said_decides message_values bundle_refused message bundle_error message_back (error_back message)

-- ---- the two calls

-- a refusal doesn't depend on the answer that it stands for
pub refused_alike : (b : List ℕ) (e : BundleError) (xs ys : List ℕ) → bundle_refused e ≡ of_bundle b (says 0 xs) → bundle_refused e ≡ of_bundle b (says 0 ys)
refused_alike b e xs ys = by (over_limit b) (is_bundle b) e
  where
    by : (long good : Bool) (e : BundleError) → bundle_refused e ≡ (if long || false then says 1 [] else if not good then says 12 [] else says 0 xs)
        → bundle_refused e ≡ (if long || false then says 1 [] else if not good then says 12 [] else says 0 ys)
    by true good e p = p
    by false false e p = p
    by false true BundleError.TooLong p = absurd (cc)
    by false true BundleError.NotABundle p = absurd (cc)

-- the limit's test has let the bytes pass
pub within : (b : List ℕ) → limited b ≡ Ok tt → over_limit b ≡ false
within b = by (over_limit b)
  where
    by : (long : Bool) → ◌≡◌ {A = Result (Unit {0}) TooLong} (if long then Err (record {}) else Ok tt) (Ok tt) → long ≡ false
    by true e = absurd (cc)
    by false e = refl

-- the number of messages, once both tests have
pub counted : (b : List ℕ) {n : ℕ} → limited b ≡ Ok tt → is_bundle b ≡ true → n ≡ count_of b → counted_says (Ok n) ≡ count_answer b
counted b l g e = rw (within b l, g, messages_count b, e)

-- what an answered count says of the bytes
pub record Counted (b : List ℕ) (n : ℕ) : Type 0 where
  pub short : over_limit b ≡ false
  pub good : is_bundle b ≡ true
  pub count : n ≡ count_of b

pub of_count : (b : List ℕ) (n : ℕ) → counted_says (Ok n) ≡ count_answer b → Counted b n
of_count b n = by (over_limit b) (is_bundle b) refl refl
  where
    by : (long good : Bool) → over_limit b ≡ long → is_bundle b ≡ good
        → says 0 (n ∷ []) ≡ (if long || false then says 1 [] else if not good then says 12 [] else says 0 (length (messages_in b) ∷ [])) → Counted b n
    by true good l g p = absurd (cc)
    by false false l g p = absurd (cc)
    by false true l g p = record { short = l; good = g; count = cc (messages_count b) }
