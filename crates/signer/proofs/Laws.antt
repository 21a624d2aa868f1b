-- What the reader does from a place on, step by step of the functions: over the words up to the `<`, over each half of the address,
-- and over what is behind the `>`. Assumes nothing.
use Rattle.std.specs.Prelude.{cond, ◌≢◌, Ok, Err}
use mathlib.Core.Bool.{Bool, true, false, not, ◌||◌}
use mathlib.Core.List.{List, [], ◌∷◌}
use mathlib.Core.Path.{◌≡◌, refl, sym, ap, ◌∙◌}
use Prim.Native.Nat.{ℕ, suc, ◌+◌, ◌≤◌, ◌<◌}
use native.Mathlib.Numerals.{add-one}
use native.Mathlib.Omega.{arith}
use borrow.Author.Tests.{ne_eqb}
use lib.Dec.{T, eqb, eqb→eq}
use lib.ListN.{length, drop, get_or}
use lib.Seq.{drop-cons}
use Rattle.rules.specs.Lists.{Stops, run}
use Rattle.rules.proofs.Lists.{is_false}
use Rattle.mailbox.specs.Grammar.{white_byte, atext, Answer, accepted, refused, ranges, deepest}
use Rattle.mailbox.specs.Place as place_of
use Rattle.mailbox.specs.Reader.{Half, Home, State, Named, none as none_named, some, home, names, opened, behind, closed, dead, atom, quote, quote_taken, inside, inside_taken, text as in-text, dotted, from_of, local, domain}
use Rattle.mailbox.specs.Reader.{sign_of, next, begin, step, finish, read, start, mailbox}
use Rattle.mailbox.proofs.Tests.{neither}
use Rattle.mailbox.proofs.Accepts.{atom_stays, names_text}
use Rattle.mailbox.proofs.Refusals.{refuses}
use Rattle.mailbox.specs.Answers.{answer_says, mailbox_error_says}
use Rattle.mailbox.specs.declared.MailboxError.{MailboxError}
use Rattle.comment.specs.Ends.{End, place, refusal, Watch, answered, until, onward, gap_byte, Passes, GapEnd}
use Rattle.comment.proofs.Laws.{turn, turn_at, dies_at, end_at}
use Rattle.pieces.specs.Ends.{atom_end, dot_byte, DotEnd, QuoteEnd, WordEnd}
use Rattle.pieces.proofs.Laws.{AtomEnd, atom_end_lem}
use Rattle.signer.specs.Ends.{home_stage, half_stage, Quiet, NamesEnd, HalfEnd}
use Rattle.signer.specs.declared.Passed.{Passed}

abbrev pub passed : ℕ → ℕ → ℕ → Passed
passed at from to = record { at = at; part = record { start = from; end = to } }

-- ---- a watched reading

passes : (w : Watch) (h : Home) → Quiet w (home_stage h) → Passes w h
passes w h q = (λ d k t. (q (inside h d k) t refl, q (inside_taken h d k) t refl), λ c t g. q (home h) (c ∷ t) refl)

-- the same two states before what neither is changed by
same_state : (w : Watch) (at : ℕ) (x y : State) (t : List ℕ) → ((u : List ℕ) → w.over x u ≡ false) → ((u : List ℕ) → w.over y u ≡ false)
    → finish at x ≡ finish at y → ((c : ℕ) (u : List ℕ) → t ≡ c ∷ u → step deepest at x c ≡ step deepest at y c) → until w at x t ≡ until w at y t
same_state w at x y [] o p f g = rw (o [], p [], f)
same_state w at x y (c ∷ t) o p f g =
    turn w at x c t (step deepest at y c) (o (c ∷ t)) (g c t refl) ∙ sym (turn w at y c t (step deepest at y c) (p (c ∷ t)) refl)

first_of : (p : ℕ → Bool) (t : List ℕ) → Stops p t → (c : ℕ) (u : List ℕ) → t ≡ c ∷ u → T (not (p c))
first_of p t n c u e = rw e at n

module _ (w : Watch) where
  -- where no white space and no comment stands, a home's byte begins something
  begins : (i c : ℕ) (h : Home) → T (not (gap_byte c)) → step deepest i (home h) c ≡ begin i h c
  begins i c h n = rw ((neither (white_byte c) (eqb c 40) n).0, (neither (white_byte c) (eqb c 40) n).1)

  begins_at : (s : List ℕ) (i : ℕ) (h : Home) (to : State) → Quiet w (home_stage h) → i < length s → Stops gap_byte (drop i s) → begin i h (get_or s i 0) ≡ to
      → until w i (home h) (drop i s) ≡ until w (suc i) to (drop (suc i) s)
  begins_at s i h to q l n e =
      let m : T (not (gap_byte (get_or s i 0))) = rw (drop-cons s i 0) at n in
      turn_at w s i (home h) to l (λ t. q (home h) t refl) (begins i (get_or s i 0) h m ∙ e)

  stuck_at : (s : List ℕ) (i : ℕ) (h : Home) → Quiet w (home_stage h) → i < length s → Stops gap_byte (drop i s) → begin i h (get_or s i 0) ≡ dead 14 i
      → until w i (home h) (drop i s) ≡ answered (refused 14 i)
  stuck_at s i h q l n e =
      let m : T (not (gap_byte (get_or s i 0))) = rw (drop-cons s i 0) at n in
      dies_at w s i (home h) 14 i l (λ t. q (home h) t refl) (begins i (get_or s i 0) h m ∙ e)

-- ---- a word

abbrev word_byte : ℕ → Bool
word_byte c = atext c || eqb c 34

record Word (s : List ℕ) (i : ℕ) (e : End) : Type 0 where
  reads : e ≢ Ok i → (w : Watch) (v : Named) → Quiet w 0
      → until w i (home (names v)) (drop i s) ≡ onward w s (home (names (some (from_of v i) (place e)))) e
  stops : e ≡ Ok i → Stops word_byte (drop i s)
  later : i ≤ place e
  within : place e ≤ length s

in_quotes : (s : List ℕ) (i : ℕ) (e : End) → i < length s → get_or s i 0 ≡ 34 → QuoteEnd s i e → Word s i e
unfolding white_byte atext
in_quotes s i e l c x = record {
  reads = λ m w v q.
      turn_at w s i (home (names v)) (quote (from_of v i)) l (λ t. q (home (names v)) t refl) (rw c)
      ∙ x.reads w (from_of v i) (λ t. (q (quote (from_of v i)) t refl, q (quote_taken (from_of v i)) t refl));
  stops = λ z. absurd (omega (arith, x.later, ap place z));
  later = omega (arith, x.later);
  within = x.within;
}

atom_leaves : (w : Watch) (from at : ℕ) (t : List ℕ) → Quiet w 0 → Stops atext t → until w at (atom from) t ≡ until w at (home (names (some from at))) t
atom_leaves w from at t q n =
    same_state w at (atom from) (home (names (some from at))) t (λ u. q (atom from) u refl) (λ u. q (home (names (some from at))) u refl) refl
    (λ c u e. rw (is_false (atext c) (first_of atext t n c u e)))

atom_word : (s : List ℕ) (i : ℕ) → i < length s → T (atext (get_or s i 0)) → AtomEnd s (suc i) (atom_end s i) → Word s i (Ok (atom_end s i))
atom_word s i l y x = record {
  reads = λ m w v q.
      turn_at w s i (home (names v)) (atom (from_of v i)) l (λ t. q (home (names v)) t refl) (names_text deepest v i (get_or s i 0) y)
      ∙ x.reads w (atom (from_of v i)) (atom_stays deepest (from_of v i)) (λ c u t. q (atom (from_of v i)) (c ∷ u) refl)
      ∙ atom_leaves w (from_of v i) (atom_end s i) (drop (atom_end s i) s) q x.stops;
  stops = λ z. absurd (omega (arith, x.later, ap place z));
  later = omega (arith, x.later);
  within = x.within;
}

-- behind its first byte an atom runs as far as it did from it
atom_next : (s : List ℕ) (i : ℕ) → i < length s → atext (get_or s i 0) ≡ true → atom_end s i ≡ atom_end s (suc i)
atom_next s i l e =
    let n : length (run atext (drop i s)) ≡ suc (length (run atext (drop (suc i) s))) = rw (drop-cons s i 0, e) in
    omega (arith, n)

atom_none : (s : List ℕ) (i : ℕ) → i < length s → atext (get_or s i 0) ≡ false → atom_end s i ≡ i
atom_none s i l e =
    let n : length (run atext (drop i s)) ≡ 0 = rw (drop-cons s i 0, e) in
    omega (arith, n)

no_word : (s : List ℕ) (i : ℕ) → i < length s → atext (get_or s i 0) ≡ false → eqb (get_or s i 0) 34 ≡ false → Word s i (Ok i)
no_word s i l e n = record {
  reads = λ m w v q. absurd (m refl);
  stops = λ z. rw (drop-cons s i 0, e, n) tt;
  later = omega arith;
  within = omega arith;
}

word : (s : List ℕ) (i : ℕ) (e : End) → i < length s → WordEnd s i e → Word s i e
word s i e l x = go (eqb (get_or s i 0) 34) (atext (get_or s i 0)) refl refl x
  where
    go : (b d : Bool) → eqb (get_or s i 0) 34 ≡ b → atext (get_or s i 0) ≡ d → cond b (QuoteEnd s i e) (e ≡ Ok (atom_end s i)) → Word s i e
    go true d f g y = in_quotes s i e l (eqb→eq (get_or s i 0) 34 (rw f tt)) y
    go false true f g y = rw y (atom_word s i l (rw g tt) (atom_end_lem s (suc i) (atom_end s i) (omega arith) (atom_next s i l g)))
    go false false f g y = rw (y, atom_none s i l g) (no_word s i l g f)

-- ---- names_end

-- the whole reading is the one from i on, behind words from `from` to `to`
pub record SameNames (s : List ℕ) (from to i : ℕ) : Type 0 where
  pub reads : (w : Watch) → Quiet w 0 → until w 0 start s ≡ until w i (home (names (some from to))) (drop i s)

-- where a gap ends, no words so far are words that end where they begin
names_begin : (w : Watch) (i : ℕ) (t : List ℕ) → Quiet w 0 → Stops gap_byte t → until w i (home (names none_named)) t ≡ until w i (home (names (some i i))) t
names_begin w i t q n =
    same_state w i (home (names none_named)) (home (names (some i i))) t (λ u. q (home (names none_named)) u refl) (λ u. q (home (names (some i i))) u refl) refl
    (λ c u e. begins w i c (names none_named) (first_of gap_byte t n c u e) ∙ sym (begins w i c (names (some i i)) (first_of gap_byte t n c u e)))

names_die : (from to i c : ℕ) → T (not (word_byte c)) → (c ≡ 60 → ⊥) → begin i (names (some from to)) c ≡ dead 14 i
names_die from to i c n a = rw ((neither (atext c) (eqb c 34) n).0, (neither (atext c) (eqb c 34) n).1, ne_eqb _ _ a)

module _ {s : List ℕ} {from to i : ℕ} (f : SameNames s from to i) where
  module _ (l : i < length s) where
    pub word_refused : {e : MailboxError} → WordEnd s i (Err e) → NamesEnd s (Err e)
    word_refused {e} x =
        let y = word s i (Err e) l x in
        record { reads = λ w q. f.reads w q ∙ y.reads (λ z. cc) w (some from to) q; within = y.within }

    pub no_less : {w : ℕ} → Stops gap_byte (drop i s) → WordEnd s i (Ok w) → w ≡ i → (get_or s i 0 ≡ 60 → ⊥) → NamesEnd s (Err (MailboxError.NotAMailbox i))
    no_less {w} n x z a =
        let y = word s i (Ok w) l x in
        let m : T (not (word_byte (get_or s i 0))) = rw (drop-cons s i 0) at (y.stops (ap Ok z)) in
        record { reads = λ w q. f.reads w q ∙ stuck_at w s i (names (some from to)) q l n (names_die from to i (get_or s i 0) m a); within = omega arith }

    -- behind a word
    pub word_passed : {k : ℕ} → WordEnd s i (Ok k) → (k ≡ i → ⊥) → SameNames s from k k × (i < k) × (k ≤ length s)
    word_passed {k} x m =
        let y = word s i (Ok k) l x in
        (record { reads = λ w q. f.reads w q ∙ y.reads (λ z. m (ap place z)) w (some from to) q }, omega (arith, y.later), y.within)

module _ {s : List ℕ} {from to : ℕ} (f : SameNames s from to to) where
  pub gap_refused : {e : MailboxError} → GapEnd s to (Err e) → NamesEnd s (Err e)
  gap_refused x = record { reads = λ w q. f.reads w q ∙ x.reads w (names (some from to)) (passes w (names (some from to)) q); within = x.within }

  pub gap_passed : {i : ℕ} → GapEnd s to (Ok i) → SameNames s from to i
  gap_passed x = record { reads = λ w q. f.reads w q ∙ x.reads w (names (some from to)) (passes w (names (some from to)) q) }

-- ---- half_end

-- the reading from `at` on, behind the sign that opens a half, is the one from i on, before its dot-atom; or behind it
pub record BeforeDots (s : List ℕ) (at i : ℕ) : Type 0 where
  pub reads : (w : Watch) (half : Half) → Quiet w (half_stage half) → until w at (home (opened half)) (drop at s) ≡ until w i (dotted half i) (drop i s)

pub record BehindDots (s : List ℕ) (at from to i : ℕ) : Type 0 where
  pub reads : (w : Watch) (half : Half) → Quiet w (half_stage half) → until w at (home (opened half)) (drop at s) ≡ until w i (home (behind half from to)) (drop i s)

opened_dotted : (w : Watch) (half : Half) (i : ℕ) (t : List ℕ) → Quiet w (half_stage half) → Stops gap_byte t → until w i (home (opened half)) t ≡ until w i (dotted half i) t
opened_dotted w half i t q n =
    same_state w i (home (opened half)) (dotted half i) t (λ u. q (home (opened half)) u refl) (λ u. q (dotted half i) u refl) refl
    (λ c u e. begins w i c (opened half) (first_of gap_byte t n c u e))

text_leaves : (w : Watch) (half : Half) (from at : ℕ) (t : List ℕ) → Quiet w (half_stage half) → Stops dot_byte t → until w at (in-text half from) t ≡ until w at (home (behind half from at)) t
text_leaves w half from at t q n =
    same_state w at (in-text half from) (home (behind half from at)) t (λ u. q (in-text half from) u refl) (λ u. q (home (behind half from at)) u refl) refl
    (λ c u e. rw ((neither (atext c) (eqb c 46) (first_of dot_byte t n c u e)).0, (neither (atext c) (eqb c 46) (first_of dot_byte t n c u e)).1))

pub half_dots : {s : List ℕ} {at i : ℕ} → GapEnd s at (Ok i) → BeforeDots s at i
half_dots {s} {i = i} x = record {
  reads = λ w half q. x.reads w (opened half) (passes w (opened half) q) ∙ opened_dotted w half i (drop i s) q x.stops;
}

module _ {s : List ℕ} {at i : ℕ} (f : BeforeDots s at i) where
  dots_read : (d : End) → DotEnd s i d → (w : Watch) (half : Half) → Quiet w (half_stage half) → until w at (home (opened half)) (drop at s) ≡ onward w s (in-text half i) d
  dots_read d x w half q = f.reads w half q ∙ x.reads w half ((λ t. q (dotted half i) t refl), λ c t y. q (in-text half i) (c ∷ t) refl)

  pub half_dots_refused : {sign : ℕ} {e : MailboxError} → DotEnd s i (Err e) → HalfEnd s at sign (Err e)
  half_dots_refused {e = e} x = record { reads = λ w half k q. dots_read (Err e) x w half q; gap = tt; dots = tt; within = x.within }

  pub half_behind : {to : ℕ} → DotEnd s i (Ok to) → BehindDots s at i to to
  half_behind {to} x = record { reads = λ w half q. dots_read (Ok to) x w half q ∙ text_leaves w half i to (drop to s) q x.stops }

module _ {s : List ℕ} {at from to : ℕ} (f : BehindDots s at from to to) where
  pub half_second_refused : {sign : ℕ} {e : MailboxError} → GapEnd s to (Err e) → HalfEnd s at sign (Err e)
  half_second_refused x = record {
    reads = λ w half e q. f.reads w half q ∙ x.reads w (behind half from to) (passes w (behind half from to) q);
    gap = tt;
    dots = tt;
    within = x.within;
  }

  pub half_second : {i : ℕ} → GapEnd s to (Ok i) → BehindDots s at from to i
  half_second x = record { reads = λ w half q. f.reads w half q ∙ x.reads w (behind half from to) (passes w (behind half from to) q) }

no_sign : (half : Half) (sign from to i c : ℕ) → sign_of half ≡ sign → (c ≡ sign → ⊥) → begin i (behind half from to) c ≡ dead 14 i
no_sign half sign from to i c e n = rw (e, ne_eqb _ _ n)

the_sign : (half : Half) (from to i : ℕ) → step deepest i (home (behind half from to)) (sign_of half) ≡ home (next half from to)
unfolding white_byte
the_sign (local n m) from to i = refl
the_sign (domain n m k) from to i = refl

module _ {s : List ℕ} {at sign from to i : ℕ} (f : BehindDots s at from to i) where
  pub half_over : i ≡ length s → HalfEnd s at sign (Err (MailboxError.NotAMailbox i))
  half_over o = record {
    reads = λ w half e q. f.reads w half q ∙ end_at w s i (home (behind half from to)) (omega arith) (λ t. q (home (behind half from to)) t refl);
    gap = tt;
    dots = tt;
    within = omega arith;
  }

  pub half_other : i < length s → Stops gap_byte (drop i s) → (get_or s i 0 ≡ sign → ⊥) → HalfEnd s at sign (Err (MailboxError.NotAMailbox i))
  half_other l n a = record {
    reads = λ w half e q. f.reads w half q ∙ stuck_at w s i (behind half from to) q l n (no_sign half sign from to i (get_or s i 0) e a);
    gap = tt;
    dots = tt;
    within = omega arith;
  }

  pub half_sign : GapEnd s at (Ok from) → DotEnd s from (Ok to) → i < length s → get_or s i 0 ≡ sign → HalfEnd s at sign (Ok (passed (i + 1) from to))
  half_sign x y l a = record {
    reads = λ w half e q.
        f.reads w half q
        ∙ rw (add-one i) (turn_at w s i (home (behind half from to)) (home (next half from to)) l (λ t. q (home (behind half from to)) t refl)
        (ap (λ (c : ℕ). step deepest i (home (behind half from to)) c) (a ∙ sym e) ∙ the_sign half from to i));
    gap = x;
    dots = y;
    within = omega arith;
  }

-- ---- read_mailbox: the reading that nobody stops

abbrev never : Watch
never = record { over = λ st t. false; alive = λ n k t. refl }

quiet : (n : ℕ) → Quiet never n
quiet n st t e = refl

unwatched : (s : List ℕ) (at : ℕ) (st : State) → until never at st s ≡ answered (read deepest at st s)
unwatched [] at st = refl
unwatched (c ∷ s) at st = unwatched s (suc at) (step deepest at st c)

answers : (a b : Answer) → answered a ≡ answered b → a ≡ b
answers a b e = cc

-- the whole reading is the one from i on
pub record SameWhole (s : List ℕ) (h : Home) (i : ℕ) : Type 0 where
  pub reads : until never 0 start s ≡ until never i (home h) (drop i s)

told : (s : List ℕ) (a : Answer) → until never 0 start s ≡ answered a → mailbox s ≡ a
unfolding mailbox
told s a e = answers (read deepest 0 start s) a (sym (unwatched s 0 start) ∙ e)

pub names_found : {s : List ℕ} {p : Passed} → NamesEnd s (Ok p) → SameWhole s (opened (local p.part.start p.part.end)) p.at
names_found x = record { reads = x.reads never (quiet 0) }

pub names_not : {s : List ℕ} {e : MailboxError} → NamesEnd s (Err e) → mailbox s ≡ refusal e
names_not x = told _ _ (x.reads never (quiet 0))

module _ {s : List ℕ} {half : Half} {at : ℕ} (f : SameWhole s (opened half) at) where
  pub half_found : {p : Passed} → HalfEnd s at (sign_of half) (Ok p) → SameWhole s (next half p.part.start p.part.end) p.at
  half_found x = record { reads = f.reads ∙ x.reads never half refl (quiet (half_stage half)) }

  pub half_not : {e : MailboxError} → HalfEnd s at (sign_of half) (Err e) → mailbox s ≡ refusal e
  half_not x = told _ _ (f.reads ∙ x.reads never half refl (quiet (half_stage half)))

module _ {s : List ℕ} {n m k t at : ℕ} (f : SameWhole s (closed (ranges n m k t)) at) where
  after : (g : End) → GapEnd s at g → until never 0 start s ≡ onward never s (home (closed (ranges n m k t))) g
  after g x = f.reads ∙ x.reads never (closed (ranges n m k t)) (passes never (closed (ranges n m k t)) (quiet 3))

  pub after_not : {e : MailboxError} → GapEnd s at (Err e) → mailbox s ≡ refusal e
  after_not {e} x = told _ _ (after (Err e) x)

  pub more_behind : {i : ℕ} → GapEnd s at (Ok i) → i < length s → mailbox s ≡ refused 14 i
  more_behind {i} x l = told _ _ (after (Ok i) x ∙ stuck_at never s i (closed (ranges n m k t)) (quiet 3) l x.stops refl)

  pub nothing_behind : {i : ℕ} → GapEnd s at (Ok i) → length s ≤ i → mailbox s ≡ accepted (ranges n m k t)
  nothing_behind {i} x l = told _ _ (after (Ok i) x ∙ end_at never s i (home (closed (ranges n m k t))) l (λ u. refl))

-- a refusal's number is 14 or 15
by_number : {deep n : ℕ} {b a : List ℕ} → place_of.Number deep b a n → n ≢ 1
by_number (place_of.Number.fifteen x) e = absurd (omega arith)
by_number (place_of.Number.fourteen x) e = absurd (omega arith)

never_too_long : (s : List ℕ) (k : ℕ) → mailbox s ≡ refused 1 k → ⊥
unfolding mailbox
never_too_long s k e = by_number (refuses deepest s 1 k e).number_is refl

-- so what is said of an error is what is said of its answer
pub error_says : (s : List ℕ) (e : MailboxError) → mailbox s ≡ refusal e → mailbox_error_says e ≡ answer_says (mailbox s)
error_says s MailboxError.TooLong r = absurd (never_too_long s 0 r)
error_says s (MailboxError.NotAMailbox at) r = sym (ap answer_says r)
error_says s (MailboxError.NinthComment at) r = sym (ap answer_says r)
