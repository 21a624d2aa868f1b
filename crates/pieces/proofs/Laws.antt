-- What the reader does from a place on, over atoms, dot-atoms and quoted strings. Assumes nothing.
use Rattle.std.specs.Prelude.{cond, if◌then◌else◌, Ok, Err}
use Rattle.std.specs.List.{prefix_len}
use mathlib.Core.Bool.{Bool, true, false, not}
use mathlib.Core.List.{List, [], ◌∷◌}
use mathlib.Core.Path.{◌≡◌, refl, sym, ap, ◌∙◌}
use Prim.Native.Nat.{ℕ, suc, ◌+◌, ◌≤◌, ◌<◌}
use native.Mathlib.Numerals.{add-one}
use native.Mathlib.Omega.{arith}
use borrow.Author.Tests.{ne_eqb}
use lib.Dec.{T, eqb}
use lib.ListN.{length, drop, get_or, length-drop, drop_of_length-le}
use lib.Seq.{drop-cons, drop-drop}
use Rattle.rules.specs.Lists.{Stops, run}
use Rattle.rules.proofs.Lists.{nor, or_left}
use Rattle.mailbox.specs.Grammar.{white_byte, atext, quote_text}
use Rattle.mailbox.specs.Reader.{Half, State, home, names, some, quote, quote_taken, text as in-text, dotted, dead, step}
use Rattle.mailbox.specs.Grammar.{deepest}
use Rattle.mailbox.proofs.Tests.{neither}
use Rattle.mailbox.proofs.Accepts.{text_stays, dotted_text, is_dot}
use Rattle.mailbox.specs.declared.MailboxError.{MailboxError}
use Rattle.comment.specs.Ends.{Watch, until, text_byte, Text, PassesText, TextEnd}
use Rattle.comment.proofs.Laws.{turn, turn_at, dies_at, end_at}
use Rattle.pieces.specs.Ends.{atom_end, dot_byte, PassesDots, DotEnd, QuoteEnd}

-- ---- run_end

pub run_length : (p : ℕ → Bool) (t : List ℕ) → prefix_len p t ≡ length (run p t)
run_length p [] = refl
run_length p (c ∷ t) = go (p c) (run_length p t)
  where
    go : (b : Bool) → prefix_len p t ≡ length (run p t) → cond b (1 + prefix_len p t) 0 ≡ length (if b then c ∷ run p t else [])
    go true e = omega arith
    go false e = refl

-- what the reader does over the bytes of an atom, in a state in which they stay
record Ran (t : List ℕ) (n : ℕ) : Type 0 where
  reads : (w : Watch) (into : State) (at : ℕ) → ((k c : ℕ) → T (atext c) → step deepest k into c ≡ into)
      → ((c : ℕ) (u : List ℕ) → T (atext c) → w.over into (c ∷ u) ≡ false) → until w at into t ≡ until w (at + n) into (drop n t)
  stops : Stops atext (drop n t)
  fits : n ≤ length t

none_ran : (t : List ℕ) → Stops atext t → Ran t 0
none_ran t n = record { reads = λ w into at s o. ap (λ (k : ℕ). until w k into t) (let e : at ≡ at + 0 = omega arith in e); stops = n; fits = omega arith }

one_ran : (c : ℕ) (t : List ℕ) (n : ℕ) → T (atext c) → Ran t n → Ran (c ∷ t) (suc n)
one_ran c t n y x = record {
  reads = λ w into at s o.
      turn w at into c t into (o c t y) (s at c y) ∙ x.reads w into (suc at) s o
      ∙ ap (λ (k : ℕ). until w k into (drop n t)) (let e : suc at + n ≡ at + suc n = omega arith in e);
  stops = x.stops;
  fits = omega (arith, x.fits);
}

ran : (t : List ℕ) → Ran t (length (run atext t))
ran [] = none_ran [] tt
ran (c ∷ t) = go (atext c) refl (ran t)
  where
    go : (b : Bool) → b ≡ atext c → Ran t (length (run atext t)) → Ran (c ∷ t) (length (if b then c ∷ run atext t else []))
    go true e x = one_ran c t (length (run atext t)) (rw (← e) tt) x
    go false e x = none_ran (c ∷ t) (rw (← e) tt)

-- the same at a place in a value
pub record AtomEnd (s : List ℕ) (at j : ℕ) : Type 0 where
  pub reads : (w : Watch) (into : State) → ((k c : ℕ) → T (atext c) → step deepest k into c ≡ into)
      → ((c : ℕ) (u : List ℕ) → T (atext c) → w.over into (c ∷ u) ≡ false) → until w at into (drop at s) ≡ until w j into (drop j s)
  pub stops : Stops atext (drop j s)
  pub later : at ≤ j
  pub within : j ≤ length s

pub atom_end_lem : (s : List ℕ) (at j : ℕ) → at ≤ length s → j ≡ atom_end s at → AtomEnd s at j
atom_end_lem s at j l e =
    let x = ran (drop at s) in
    let n = length (run atext (drop at s)) in
    let d : drop n (drop at s) ≡ drop j s = drop-drop n at s ∙ ap (λ (k : ℕ). drop k s) (sym e) in
    record {
      reads = λ w into y o. x.reads w into at y o ∙ ap (λ (k : ℕ). until w k into (drop n (drop at s))) (sym e) ∙ ap (λ (u : List ℕ). until w j into u) d;
      stops = rw d at x.stops;
      later = omega arith;
      within = omega (arith, x.fits, length-drop at s);
    }

-- ---- dot_atom_end

-- the reading from `at` on is the one from i on, before an atom; or in an atom
pub record SameDots (s : List ℕ) (at i : ℕ) : Type 0 where
  pub reads : (w : Watch) (half : Half) → PassesDots w half at → until w at (dotted half at) (drop at s) ≡ until w i (dotted half at) (drop i s)

pub record InDots (s : List ℕ) (at j : ℕ) : Type 0 where
  pub reads : (w : Watch) (half : Half) → PassesDots w half at → until w at (dotted half at) (drop at s) ≡ until w j (in-text half at) (drop j s)

is_T : (b : Bool) → b ≡ true → T b
is_T b e = rw e tt

dotted_dies : (half : Half) (from i c : ℕ) → atext c ≡ false → step deepest i (dotted half from) c ≡ dead 14 i
dotted_dies half from i c e = rw e

module _ {s : List ℕ} {at i : ℕ} (f : SameDots s at i) (m : at ≤ i) where
  pub dot_dies : i < length s → atext (get_or s i 0) ≡ false → DotEnd s at (Err (MailboxError.NotAMailbox i))
  dot_dies l e = record {
    reads = λ w half q. f.reads w half q ∙ dies_at w s i (dotted half at) 14 i l q.0 (dotted_dies half at i (get_or s i 0) e);
    stops = tt;
    later = m;
    within = omega arith;
  }

pub dot_text : {s : List ℕ} {at i j : ℕ} → SameDots s at i → i < length s → atext (get_or s i 0) ≡ true → AtomEnd s (i + 1) j → InDots s at j
dot_text {s} {at} {i} f l e x = record {
  reads = λ w half q.
      f.reads w half q
      ∙ turn_at w s i (dotted half at) (in-text half at) l q.0 (dotted_text deepest half at i (get_or s i 0) (is_T (atext (get_or s i 0)) e))
      ∙ (rw (add-one i) at (x.reads w (in-text half at) (text_stays deepest half at) (λ c u t. q.1 c u (or_left (atext c) (eqb c 46) t))));
}

no_dot_byte : (t : List ℕ) → Stops atext t → Stops is_dot t → Stops dot_byte t
no_dot_byte [] a d = tt
no_dot_byte (c ∷ t) a d = nor (atext c) (eqb c 46) a d

pub dot_ends : {s : List ℕ} {at i j : ℕ} → at ≤ i → InDots s at j → AtomEnd s (i + 1) j → Stops is_dot (drop j s) → DotEnd s at (Ok j)
dot_ends {s} {j = j} m f x d = record { reads = f.reads; stops = no_dot_byte (drop j s) x.stops d; later = omega (arith, x.later); within = x.within }

pub dot_at_end : (s : List ℕ) (j : ℕ) → length s ≤ j → Stops is_dot (drop j s)
dot_at_end s j o = rw (drop_of_length-le s o) tt

pub no_dot : (s : List ℕ) (j : ℕ) → j < length s → (get_or s j 0 ≡ 46 → ⊥) → Stops is_dot (drop j s)
no_dot s j l n = rw (drop-cons s j 0, ne_eqb _ _ n) tt

pub dot_again : {s : List ℕ} {at j : ℕ} → InDots s at j → j < length s → get_or s j 0 ≡ 46 → SameDots s at (j + 1)
unfolding atext
dot_again {s} {at} {j} f l e = record {
  reads = λ w half q.
      f.reads w half q ∙ rw (add-one j, drop-cons s j 0, e) (turn w j (in-text half at) 46 (drop (suc j) s) (dotted half at) (q.1 46 (drop (suc j) s) tt) refl);
}

-- ---- quote_end

quote_dies : (from i c : ℕ) → T (not (text_byte quote_text c)) → (c ≡ 34 → ⊥) → step deepest i (quote from) c ≡ dead 14 i
quote_dies from i c n a = rw ((neither (quote_text c) (eqb c 92) n).0, ne_eqb _ _ a, (neither (quote_text c) (eqb c 92) n).1)

in_quotes : (w : Watch) (from : ℕ) → ((t : List ℕ) → (w.over (quote from) t ≡ false) × (w.over (quote_taken from) t ≡ false))
    → PassesText w quote_text (quote from) (quote_taken from)
in_quotes w from o = ((λ c t y. (o (c ∷ t)).0), λ t. (o t).1)

pub quote_refused : {s : List ℕ} {at : ℕ} {e : MailboxError} → TextEnd quote_text s (suc at) (Err e) → QuoteEnd s at (Err e)
quote_refused x = record { reads = λ w from o. x.reads w (quote from) (quote_taken from) Text.quotes (in_quotes w from o); later = x.later; within = x.within }

-- behind the text, which ends at p
module _ {s : List ℕ} (at : ℕ) {p : ℕ} (x : TextEnd quote_text s (suc at) (Ok p)) where
  passed : (w : Watch) (from : ℕ) → ((t : List ℕ) → (w.over (quote from) t ≡ false) × (w.over (quote_taken from) t ≡ false))
      → until w (suc at) (quote from) (drop (suc at) s) ≡ until w p (quote from) (drop p s)
  passed w from o = x.reads w (quote from) (quote_taken from) Text.quotes (in_quotes w from o)

  pub quote_open : p ≡ length s → QuoteEnd s at (Err (MailboxError.NotAMailbox p))
  quote_open l = record {
    reads = λ w from o. passed w from o ∙ end_at w s p (quote from) (omega arith) (λ t. (o t).0);
    later = x.later;
    within = x.within;
  }

  pub quote_other : p < length s → (get_or s p 0 ≡ 34 → ⊥) → QuoteEnd s at (Err (MailboxError.NotAMailbox p))
  quote_other l a =
      let n : T (not (text_byte quote_text (get_or s p 0))) = rw (drop-cons s p 0) at x.stops in
      record {
        reads = λ w from o. passed w from o ∙ dies_at w s p (quote from) 14 p l (λ t. (o t).0) (quote_dies from p (get_or s p 0) n a);
        later = x.later;
        within = x.within;
      }

  pub quote_closes : p < length s → get_or s p 0 ≡ 34 → QuoteEnd s at (Ok (p + 1))
  unfolding quote_text white_byte
  quote_closes l c = record {
    reads = λ w from o. passed w from o ∙ rw (add-one p) (turn_at w s p (quote from) (home (names (some from (suc p)))) l (λ t. (o t).0) (rw c));
    later = omega (arith, x.later);
    within = omega arith;
  }
