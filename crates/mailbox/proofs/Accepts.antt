-- What the grammar derives is read, with the same ranges (accepts). One law for each piece: a state, behind the piece's bytes,
-- is a state. Places are taken with an equation, so that nothing is transported. Assumes nothing.
use mathlib.Core.Bool.{Bool, not}
use mathlib.Core.List.{List, [], ◌∷◌, ◌++◌, append_assoc, append-nil}
use mathlib.Core.Path.{◌≡◌, refl, sym, ap, ◌∙◌}
use Prim.Native.Nat.{ℕ, suc, ◌+◌}
use native.Mathlib.Omega.{arith}
use lib.Dec.{T, eqb}
use lib.ListN.{length, length-append}
use Rattle.rules.specs.Lists.{Stops}
use Rattle.mailbox.specs.Grammar.{white_byte, atext, quote_text, comment_text, takes, Inside, Gap, Atom, DotAtom, Quoted, Word, Words, Names, Ranges, ranges, Mailbox, Answer, accepted}
use Rattle.mailbox.specs.Reader.{Named, Half, Home, State, home, atom, quote, quote_taken, text, dotted, inside, inside_taken, names, opened, behind, closed}
use Rattle.mailbox.specs.Reader.{local, domain, none, some, from_of, sign_of, next, step, read, start}
use Rattle.rules.proofs.Lists.{is_true, is_false}
use Rattle.mailbox.proofs.Tests.{differs, atext_not_white, white_not_atext}

module _ (deep : ℕ) where
  moved : (at k : ℕ) (st : State) (s : List ℕ) → k ≡ at → read deep at st s ≡ read deep k st s
  moved at k st s e = rw e

  -- one byte
  turn : (at : ℕ) (st : State) (c : ℕ) (s : List ℕ) (to : State) (a : Answer) → step deep at st c ≡ to → read deep (suc at) to s ≡ a
      → read deep at st (c ∷ s) ≡ a
  turn at st c s to a e r = ap (λ (x : State). read deep (suc at) x s) e ∙ r

  -- ---- white space and comments

  pub inside_text : (h : Home) (d k at c : ℕ) → T (comment_text c) → step deep at (inside h d k) c ≡ inside h d k
  inside_text h d k at c t = rw (is_true (comment_text c) t)

  pub inside_takes : (h : Home) (d k at c : ℕ) → T (takes c) → step deep at (inside_taken h d k) c ≡ inside h d k
  inside_takes h d k at c t = rw (is_true (takes c) t)

  pub inside_reads : {d : ℕ} {t : List ℕ} → Inside d t → (h : Home) (k at to : ℕ) (s : List ℕ) → to ≡ at + length t
      → read deep at (inside h d k) (t ++ s) ≡ read deep to (inside h d k) s
  unfolding comment_text white_byte
  inside_reads {d} Inside.empty h k at to s e = moved at to (inside h d k) s (omega arith)
  inside_reads {d} (Inside.text {c = c} {s = u} t i) h k at to s e =
      turn at (inside h d k) c (u ++ s) (inside h d k) (read deep to (inside h d k) s) (inside_text h d k at c t)
      (inside_reads i h k (suc at) to s (omega arith))
  inside_reads {d} (Inside.taken {c = c} {s = u} t i) h k at to s e =
      turn (suc at) (inside_taken h d k) c (u ++ s) (inside h d k) (read deep to (inside h d k) s) (inside_takes h d k (suc at) c t)
      (inside_reads i h k (suc (suc at)) to s (omega arith))
  inside_reads (Inside.comment {t = t} {s = u} i j) h k at to s e =
      rw (append_assoc t (41 ∷ u) s)
      (inside_reads i h (suc k) (suc at) (suc at + length t) (41 ∷ (u ++ s)) refl
      ∙ inside_reads j h k (suc (suc at + length t)) to s (omega (arith, length-append t (41 ∷ u))))

  white_stays : (h : Home) (at c : ℕ) → T (white_byte c) → step deep at (home h) c ≡ home h
  white_stays h at c t = rw (is_true (white_byte c) t)

pub gap_reads : (deep : ℕ) {g : List ℕ} → Gap deep g → (h : Home) (at to : ℕ) (s : List ℕ) → to ≡ at + length g
    → read deep at (home h) (g ++ s) ≡ read deep to (home h) s
unfolding comment_text white_byte
gap_reads deep Gap.empty h at to s e = moved deep at to (home h) s (omega arith)
gap_reads deep (Gap.white {c = c} {s = u} t g) h at to s e =
    turn deep at (home h) c (u ++ s) (home h) (read deep to (home h) s) (white_stays deep h at c t)
    (gap_reads deep g h (suc at) to s (omega arith))
gap_reads deep (Gap.comment {d = d} {t = t} {s = u} i g) h at to s e =
    rw (append_assoc t (41 ∷ u) s)
    (inside_reads (suc d) i h 0 (suc at) (suc at + length t) (41 ∷ (u ++ s)) refl
    ∙ gap_reads (suc d) g h (suc (suc at + length t)) to s (omega (arith, length-append t (41 ∷ u))))

-- ---- dot-atoms

-- what may follow a piece: white space, a comment, or the sign that comes next
pub gap_stops : {deep : ℕ} {g : List ℕ} → Gap deep g → (p : ℕ → Bool) (c : ℕ) (s : List ℕ) → ((b : ℕ) → T (white_byte b) → T (not (p b)))
    → T (not (p 40)) → T (not (p c)) → Stops p (g ++ c ∷ s)
gap_stops Gap.empty p c s w o n = n
gap_stops (Gap.white {c = b} t g) p c s w o n = w b t
gap_stops (Gap.comment i g) p c s w o n = o

abbrev pub is_dot : ℕ → Bool
is_dot c = eqb c 46

white_byte_not_dot : (c : ℕ) → T (white_byte c) → T (not (is_dot c))
unfolding white_byte
white_byte_not_dot c t = rw (differs white_byte c 46 t tt) tt

module _ (deep : ℕ) where
  -- an atom, from a state that its first byte leads out of, to one in which its bytes stay
  atom_reads : {a : List ℕ} → Atom a → (st into : State) (at to : ℕ) (s : List ℕ) → to ≡ at + length a
      → ((c : ℕ) → T (atext c) → step deep at st c ≡ into) → ((k c : ℕ) → T (atext c) → step deep k into c ≡ into)
      → read deep at st (a ++ s) ≡ read deep to into s
  atom_reads (Atom.last {c = c} t) st into at to s e enters stays =
      turn deep at st c s into (read deep to into s) (enters c t) (moved deep (suc at) to into s (omega arith))
  atom_reads (Atom.more {c = c} {s = u} t a) st into at to s e enters stays =
      turn deep at st c (u ++ s) into (read deep to into s) (enters c t)
      (atom_reads a into into (suc at) to s (omega arith) (stays (suc at)) stays)

  pub text_stays : (half : Half) (from at c : ℕ) → T (atext c) → step deep at (text half from) c ≡ text half from
  text_stays half from at c t = rw (is_true (atext c) t)

  pub dotted_text : (half : Half) (from at c : ℕ) → T (atext c) → step deep at (dotted half from) c ≡ text half from
  dotted_text half from at c t = rw (is_true (atext c) t)

  opened_text : (half : Half) (at c : ℕ) → T (atext c) → step deep at (home (opened half)) c ≡ text half at
  unfolding atext
  opened_text half at c t = rw (atext_not_white c t, differs atext c 40 t tt, is_true (atext c) t)

  pub text_leaves : (half : Half) (from at : ℕ) (s : List ℕ) → Stops atext s → Stops is_dot s
      → read deep at (text half from) s ≡ read deep at (home (behind half from at)) s
  text_leaves half from at [] n d = refl
  text_leaves half from at (c ∷ s) n d = ap (λ (x : State). read deep (suc at) x s) (rw (is_false (atext c) n, is_false (is_dot c) d))

  dots_read : {a : List ℕ} → DotAtom a → (st : State) (half : Half) (from at to : ℕ) (s : List ℕ) → to ≡ at + length a
      → ((c : ℕ) → T (atext c) → step deep at st c ≡ text half from)
      → read deep at st (a ++ s) ≡ read deep to (text half from) s
  unfolding atext
  dots_read (DotAtom.atom a) st half from at to s e enters = atom_reads a st (text half from) at to s e enters (text_stays half from)
  dots_read (DotAtom.dot {a = a} {b = b} x y) st half from at to s e enters =
      rw (append_assoc a (46 ∷ b) s)
      (atom_reads x st (text half from) at (at + length a) (46 ∷ (b ++ s)) refl enters (text_stays half from)
      ∙ dots_read y (dotted half from) half from (suc (at + length a)) to s (omega (arith, length-append a (46 ∷ b)))
      (dotted_text half from (suc (at + length a))))

  pub sign_reads : (half : Half) (from to at : ℕ) (s : List ℕ)
      → read deep at (home (behind half from to)) (sign_of half ∷ s) ≡ read deep (suc at) (home (next half from to)) s
  unfolding white_byte
  sign_reads (local n m) from to at s = refl
  sign_reads (domain n m k) from to at s = refl

  sign_stops : (half : Half) → T (not (atext (sign_of half))) × T (not (is_dot (sign_of half)))
  unfolding atext
  sign_stops (local n m) = (tt, tt)
  sign_stops (domain n m k) = (tt, tt)

  -- a dot-atom, the gap behind it and the sign behind that
  pub half_reads : {a g : List ℕ} → DotAtom a → Gap deep g → (half : Half) (at to k : ℕ) (s : List ℕ) → to ≡ at + length a
      → k ≡ suc (to + length g) → read deep at (home (opened half)) (a ++ (g ++ sign_of half ∷ s)) ≡ read deep k (home (next half at to)) s
  unfolding atext
  half_reads {a} {g} x y half at to k s e f =
      dots_read x (home (opened half)) half at at to (g ++ sign_of half ∷ s) e (opened_text half at)
      ∙ text_leaves half at to (g ++ sign_of half ∷ s)
      (gap_stops y atext (sign_of half) s white_not_atext tt (sign_stops half).0) (gap_stops y is_dot (sign_of half) s white_byte_not_dot tt (sign_stops half).1)
      ∙ gap_reads deep y (behind half at to) to (to + length g) (sign_of half ∷ s) refl
      ∙ sign_reads half at to (to + length g) s
      ∙ moved deep (suc (to + length g)) k (home (next half at to)) s f

  -- ---- words

  pub atom_stays : (from at c : ℕ) → T (atext c) → step deep at (atom from) c ≡ atom from
  atom_stays from at c t = rw (is_true (atext c) t)

  pub names_text : (v : Named) (at c : ℕ) → T (atext c) → step deep at (home (names v)) c ≡ atom (from_of v at)
  unfolding atext
  names_text v at c t = rw (atext_not_white c t, differs atext c 40 t tt, is_true (atext c) t)

  pub atom_leaves : (from at : ℕ) (s : List ℕ) → Stops atext s → read deep at (atom from) s ≡ read deep at (home (names (some from at))) s
  atom_leaves from at [] n = refl
  atom_leaves from at (c ∷ s) n = ap (λ (x : State). read deep (suc at) x s) (rw (is_false (atext c) n))

  pub quote_text_lem : (from at c : ℕ) → T (quote_text c) → step deep at (quote from) c ≡ quote from
  quote_text_lem from at c t = rw (is_true (quote_text c) t)

  pub quote_takes : (from at c : ℕ) → T (takes c) → step deep at (quote_taken from) c ≡ quote from
  quote_takes from at c t = rw (is_true (takes c) t)

  quoted_reads : {q : List ℕ} → Quoted q → (from at to : ℕ) (s : List ℕ) → to ≡ at + length q
      → read deep at (quote from) (q ++ s) ≡ read deep to (quote from) s
  unfolding quote_text white_byte
  quoted_reads Quoted.empty from at to s e = moved deep at to (quote from) s (omega arith)
  quoted_reads (Quoted.text {c = c} {s = u} t q) from at to s e =
      turn deep at (quote from) c (u ++ s) (quote from) (read deep to (quote from) s) (quote_text_lem from at c t)
      (quoted_reads q from (suc at) to s (omega arith))
  quoted_reads (Quoted.taken {c = c} {s = u} t q) from at to s e =
      turn deep (suc at) (quote_taken from) c (u ++ s) (quote from) (read deep to (quote from) s) (quote_takes from (suc at) c t)
      (quoted_reads q from (suc (suc at)) to s (omega arith))

  word_reads : {w s : List ℕ} → Word w s → (v : Named) (at to : ℕ) → to ≡ at + length w
      → read deep at (home (names v)) (w ++ s) ≡ read deep to (home (names (some (from_of v at) to))) s
  unfolding quote_text white_byte atext
  word_reads {s = s} (Word.atom a n) v at to e =
      atom_reads a (home (names v)) (atom (from_of v at)) at to s e (names_text v at) (atom_stays (from_of v at))
      ∙ atom_leaves (from_of v at) to s n
  word_reads {s = s} (Word.quoted {q = q} x) v at to e =
      rw (append_assoc q (34 ∷ []) s)
      (quoted_reads x (from_of v at) (suc at) (suc at + length q) (34 ∷ s) refl
      ∙ ap (λ (n : ℕ). read deep n (home (names (some (from_of v at) n))) s) (omega (arith, e, length-append q (34 ∷ []))))

  words_read : {ws s : List ℕ} → Words deep ws s → (v : Named) (at to : ℕ) → to ≡ at + length ws
      → read deep at (home (names v)) (ws ++ s) ≡ read deep to (home (names (some (from_of v at) to))) s
  words_read (Words.one w) v at to e = word_reads w v at to e
  words_read {s = s} (Words.more {w = w} {gap = g} {ws = ws} x y z) v at to e =
      rw (append_assoc w (g ++ ws) s, append_assoc g ws s)
      (word_reads x v at (at + length w) refl
      ∙ gap_reads deep y (names (some (from_of v at) (at + length w))) (at + length w) (at + length w + length g) (ws ++ s) refl
      ∙ words_read z (some (from_of v at) (at + length w)) (at + length w + length g) to (omega (arith, length-append w (g ++ ws), length-append g ws)))

  names_read : {ws g s : List ℕ} → Names deep ws g (60 ∷ s) → (at to k : ℕ) → to ≡ at + length ws → k ≡ suc (to + length g)
      → read deep at (home (names none)) (ws ++ (g ++ 60 ∷ s)) ≡ read deep k (home (opened (local at to))) s
  unfolding white_byte atext
  names_read {s = s} Names.none at to k e f = let i : to ≡ at = omega arith in let j : k ≡ suc at = omega arith in rw (i, j)
  names_read {s = s} (Names.some {gap = g} ws y) at to k e f =
      words_read ws none at to e
      ∙ gap_reads deep y (names (some at to)) to (to + length g) (60 ∷ s) refl
      ∙ moved deep (suc (to + length g)) k (home (opened (local at to))) s f

-- ---- a mailbox

pub accepts : (deep : ℕ) (s : List ℕ) (r : Ranges) → Mailbox deep s r → read deep 0 start s ≡ accepted r
accepts deep s r m =
    let k₁ = suc (m.end + length m.gap₁) in
    let k₂ = suc (m.from + length m.local + length m.gap₃) in
    let k₃ = k₂ + length m.gap₄ in
    let k₄ = suc (m.to + length m.gap₅) in
    let s₅ = m.domain ++ (m.gap₅ ++ 62 ∷ m.after) in
    let s₄ = m.gap₄ ++ s₅ in
    let s₃ = m.local ++ (m.gap₃ ++ 64 ∷ s₄) in
    let s₂ = m.gap₂ ++ s₃ in
    let found = ranges m.start m.end m.from m.to in
    let ends : read deep k₄ (home (closed found)) m.after ≡ accepted found =
    rw (append-nil m.after) at (gap_reads deep m.after_gap (closed found) k₄ (k₄ + length m.after) [] refl) in
    rw (m.reads, m.answer)
    (gap_reads deep m.before_gap (names none) 0 m.start (m.names ++ (m.gap₁ ++ 60 ∷ s₂)) (omega (arith, m.name_start))
    ∙ names_read deep m.names_words m.start m.end k₁ m.name_end refl
    ∙ gap_reads deep m.second_gap (opened (local m.start m.end)) k₁ m.from s₃ (omega (arith, m.address_start))
    ∙ half_reads deep m.local_dots m.third_gap (local m.start m.end) m.from (m.from + length m.local) k₂ s₄ refl refl
    ∙ gap_reads deep m.fourth_gap (opened (domain m.start m.end m.from)) k₂ k₃ s₅ refl
    ∙ half_reads deep m.domain_dots m.fifth_gap (domain m.start m.end m.from) k₃ m.to k₄ m.after (omega (arith, m.address_end)) refl
    ∙ ends)

same_ranges : (a b : Ranges) → accepted a ≡ accepted b → a ≡ b
same_ranges a b e = cc

-- "in one way only"
pub one_way : (deep : ℕ) (s : List ℕ) (q r : Ranges) → Mailbox deep s q → Mailbox deep s r → q ≡ r
one_way deep s q r a b = same_ranges q r (sym (accepts deep s q a) ∙ accepts deep s r b)
