-- A buffer of 98,319 bytes has room for the listing of every message that the lister reads, so the call writes it. Assumes nothing.
use Rattle.std.specs.Prelude.{Result, Ok}
use mathlib.Core.List.{List, ◌++◌}
use mathlib.Core.Path.{◌≡◌, sym, ap, ◌∙◌}
use Prim.Native.Nat.{ℕ, ◌≤◌}
use native.Mathlib.Omega.{arith}
use lib.ListN.{length, take, drop, length-append}
use lib.Seq.{take_at}
use Rattle.screen.proofs.Answers.{is_written, written_front}
use Rattle.screen.proofs.Lines.{listing_short}
use Rattle.screen.specs.Answers.{listing_answer, listing_buffer, written_says}
use Rattle.screen.specs.Listing.{listing}

module _ (m d : List ℕ) (h : length m ≤ 32_768) (k : 98_319 ≤ length d) where
  pub fits : length (listing m) ≤ length d
  fits = omega (arith, listing_short m h)

  pub in_front : (n : ℕ) (o : List ℕ) → written_says (Ok n) ≡ listing_answer m (length d) → o ≡ listing_buffer m d
      → ((n ≤ length o) × (n ≡ length (take n o))) × (take n o ≡ listing m)
  in_front n o e f =
      let size : n ≡ length (listing m) = lengths (is_written m d (omega arith) fits (Ok n) e) in
      let whole : o ≡ listing m ++ drop (length (listing m)) d = written_front m d (omega arith) fits o f in
      let front : take n o ≡ listing m = rw whole (take_at (listing m) (drop (length (listing m)) d) n (sym size)) in
      ((omega (arith, ap length whole, length-append (listing m) (drop (length (listing m)) d), size), size ∙ sym (ap length front)), front)
    where
      lengths : {E : Type 0} {a b : ℕ} → ◌≡◌ {A = Result ℕ E} (Ok a) (Ok b) → a ≡ b
      lengths p = cc
