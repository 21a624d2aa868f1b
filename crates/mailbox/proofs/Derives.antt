-- What is read is derived (derives). `Rest` says of each state which bytes complete it; a byte is put in front of what
-- completes the state behind it (back), so the induction is over the bytes and needs nothing else. Assumes nothing.
use Rattle.std.specs.Prelude.{if◌then◌else◌}
use mathlib.Core.Bool.{Bool, true, false, not}
use mathlib.Core.List.{List, [], ◌∷◌, ◌++◌, append_assoc, append-nil}
use mathlib.Core.Path.{◌≡◌, refl, sym, ap, ◌∙◌}
use Prim.Native.Nat.{ℕ, zero, suc, ◌+◌}
use native.Mathlib.Omega.{arith}
use lib.Dec.{T, eqb, eqb→eq}
use lib.ListN.{length, length-append}
use Rattle.rules.specs.Lists.{Stops}
use Rattle.mailbox.specs.Grammar.{white_byte, atext, quote_text, comment_text, takes, Inside, Gap, Atom, DotAtom, Quoted, Word, Words, Names, Ranges, Mailbox, accepted, refused}
use Rattle.mailbox.specs.Reader.{Named, Half, Home, State, home, atom, quote, quote_taken, text, dotted, inside, inside_taken, dead, names, opened, behind, closed}
use Rattle.mailbox.specs.Reader.{local, some, from_of, to_of, sign_of, next, opening, closing, begin, spaced, step, finish, read, start}

-- a state; or a home, behind its white space and comments
data Spot : Type 0 where
  in_state : State → Spot
  ready : Home → Spot

put : {c : ℕ} {s t : List ℕ} → s ≡ t → c ∷ s ≡ c ∷ t
put e = cc

same : (c k : ℕ) (s : List ℕ) → T (eqb c k) → c ∷ s ≡ k ∷ s
same c k s t = ap (λ (b : ℕ). b ∷ s) (eqb→eq c k t)

module _ (deep : ℕ) (r : Ranges) where
  -- s completes what is read up to the place, and r is then the answer
  data Rest : Spot → ℕ → List ℕ → Type 0 where
    gap : {h : Home} {at : ℕ} {s : List ℕ} (g t : List ℕ) (k : ℕ) → s ≡ g ++ t → Gap deep g → k ≡ at + length g
        → Rest (ready h) k t → Rest (in_state (home h)) at s
    ended : {at : ℕ} {s : List ℕ} → s ≡ [] → Rest (ready (closed r)) at s
    sign : {half : Half} {from to at : ℕ} {s : List ℕ} (t : List ℕ) → s ≡ sign_of half ∷ t
        → Rest (in_state (home (next half from to))) (suc at) t → Rest (ready (behind half from to)) at s
    dots : {half : Half} {at : ℕ} {s : List ℕ} (a t : List ℕ) (k : ℕ) → s ≡ a ++ t → DotAtom a → k ≡ at + length a
        → Rest (in_state (home (behind half at k))) k t → Rest (ready (opened half)) at s
    less : {v : Named} {at : ℕ} {s : List ℕ} (t : List ℕ) → s ≡ 60 ∷ t
        → Rest (in_state (home (opened (local (from_of v at) (to_of v at))))) (suc at) t → Rest (ready (names v)) at s
    word : {v : Named} {at : ℕ} {s : List ℕ} (w t : List ℕ) (k : ℕ) → s ≡ w ++ t → Word w t → k ≡ at + length w
        → Rest (in_state (home (names (some (from_of v at) k)))) k t → Rest (ready (names v)) at s
    in_atom : {from at : ℕ} {s : List ℕ} (a t : List ℕ) (k : ℕ) → s ≡ a ++ t → ((c : ℕ) → T (atext c) → Atom (c ∷ a)) → Stops atext t
        → k ≡ at + length a → Rest (in_state (home (names (some from k)))) k t → Rest (in_state (atom from)) at s
    in_quotes : {from at : ℕ} {s : List ℕ} (q t : List ℕ) (k : ℕ) → s ≡ q ++ 34 ∷ t → Quoted q
        → k ≡ suc (at + length q) → Rest (in_state (home (names (some from k)))) k t → Rest (in_state (quote from)) at s
    in_quote_taken : {from at : ℕ} {s : List ℕ} (c : ℕ) (t : List ℕ) → s ≡ c ∷ t → T (takes c)
        → Rest (in_state (quote from)) (suc at) t → Rest (in_state (quote_taken from)) at s
    in_dots : {half : Half} {from at : ℕ} {s : List ℕ} (a t : List ℕ) (k : ℕ) → s ≡ a ++ t → ((c : ℕ) → T (atext c) → DotAtom (c ∷ a))
        → k ≡ at + length a → Rest (in_state (home (behind half from k))) k t → Rest (in_state (text half from)) at s
    behind_dot : {half : Half} {from at : ℕ} {s : List ℕ} (a t : List ℕ) (k : ℕ) → s ≡ a ++ t → DotAtom a
        → k ≡ at + length a → Rest (in_state (home (behind half from k))) k t → Rest (in_state (dotted half from)) at s
    in_comment : {h : Home} {d n at : ℕ} {s : List ℕ} (i t : List ℕ) (k : ℕ) → s ≡ i ++ 41 ∷ t → Inside d i
        → k ≡ suc (at + length i) → Rest (in_state (closing h d n)) k t → Rest (in_state (inside h d n)) at s
    comment_taken : {h : Home} {d n at : ℕ} {s : List ℕ} (c : ℕ) (t : List ℕ) → s ≡ c ∷ t → T (takes c)
        → Rest (in_state (inside h d n)) (suc at) t → Rest (in_state (inside_taken h d n)) at s

  -- ---- a byte in front

  no_rest : {n p at : ℕ} {s : List ℕ} → Rest (in_state (dead n p)) at s → ⊥
  no_rest = elim [ ]

  either : {Q : Type 0} (at : ℕ) (s : List ℕ) (b : Bool) (x y : State) → (T b → Rest (in_state x) at s → Q)
      → (T (not b) → Rest (in_state y) at s → Q) → Rest (in_state (if b then x else y)) at s → Q
  either at s true x y f g = f tt
  either at s false x y f g = g tt

  not_dead : {Q : Type 0} {n p at : ℕ} {s : List ℕ} {t : Type 0} → t → Rest (in_state (dead n p)) at s → Q
  not_dead t x = absurd (no_rest x)

  -- a byte that begins a piece
  atom_begins : (v : Named) (at c : ℕ) (s : List ℕ) → T (atext c) → Rest (in_state (atom (from_of v at))) (suc at) s → Rest (ready (names v)) at (c ∷ s)
  atom_begins v at c s t (in_atom a u k q f n e x) = word {at = at} (c ∷ a) u k (put q) (Word.atom (f c t) n) (omega arith) x

  quotes_begin : (v : Named) (at c : ℕ) (s : List ℕ) → T (eqb c 34) → Rest (in_state (quote (from_of v at))) (suc at) s → Rest (ready (names v)) at (c ∷ s)
  quotes_begin v at c s t (in_quotes a u k q f e x) =
      word {at = at} (34 ∷ (a ++ 34 ∷ [])) u k (same c 34 s t ∙ put (q ∙ sym (append_assoc a (34 ∷ []) u))) (Word.quoted f) (omega (arith, length-append a (34 ∷ []))) x

  dots_begin : (half : Half) (at c : ℕ) (s : List ℕ) → T (atext c) → Rest (in_state (text half at)) (suc at) s → Rest (ready (opened half)) at (c ∷ s)
  dots_begin half at c s t (in_dots a u k q f e x) = dots {at = at} (c ∷ a) u k (put q) (f c t) (omega arith) x

  begins : (h : Home) (at c : ℕ) (s : List ℕ) → Rest (in_state (begin at h c)) (suc at) s → Rest (ready h) at (c ∷ s)
  begins (names v) at c s = either (suc at) s (atext c) (atom (from_of v at)) _ (atom_begins v at c s)
      (λ n. either (suc at) s (eqb c 34) (quote (from_of v at)) _ (quotes_begin v at c s)
      (λ m. either (suc at) s (eqb c 60) (home (opened (local (from_of v at) (to_of v at)))) _ (λ t x. less s (same c 60 s t) x) not_dead))
  begins (opened half) at c s = either (suc at) s (atext c) (text half at) _ (dots_begin half at c s) not_dead
  begins (behind half from to) at c s = either (suc at) s (eqb c (sign_of half)) (home (next half from to)) _ (λ t x. sign s (same c (sign_of half) s t) x) not_dead
  begins (closed q) at c s = λ x. absurd (no_rest x)

  -- a byte of white space or of a comment; or none of them
  white_front : (h : Home) (at c : ℕ) (s : List ℕ) → T (white_byte c) → Rest (in_state (home h)) (suc at) s → Rest (in_state (home h)) at (c ∷ s)
  white_front h at c s t (gap g u k q f e x) = gap {at = at} (c ∷ g) u k (put q) (Gap.white t f) (omega arith) x

  no_gap : (h : Home) (at : ℕ) (s : List ℕ) → Rest (ready h) at s → Rest (in_state (home h)) at s
  no_gap h at s x = gap {at = at} [] s at refl Gap.empty (omega arith) x

module _ (r : Ranges) where
  comment_front : (d : ℕ) (h : Home) (at c : ℕ) (s i t : List ℕ) (k : ℕ) → T (eqb c 40) → s ≡ i ++ 41 ∷ t → Inside d i → k ≡ suc (suc at + length i)
      → Rest (suc d) r (in_state (home h)) k t → Rest (suc d) r (in_state (home h)) at (c ∷ s)
  comment_front d h at c s i t k o q f e (gap g u l p y j x) =
      gap {at = at} (40 ∷ (i ++ 41 ∷ g)) u l (same c 40 s o ∙ put (q ∙ ap (λ (z : List ℕ). i ++ 41 ∷ z) p ∙ sym (append_assoc i (41 ∷ g) u))) (Gap.comment f y) (omega (arith, length-append i (41 ∷ g))) x

  opening_front : (deep : ℕ) (h : Home) (at c : ℕ) (s : List ℕ) → T (eqb c 40) → Rest deep r (in_state (opening at h deep 0)) (suc at) s
      → Rest deep r (in_state (home h)) at (c ∷ s)
  opening_front zero h at c s t x = absurd (no_rest zero r x)
  opening_front (suc d) h at c s t (in_comment i u k q f e x) = comment_front d h at c s i u k t q f e x

  -- comments inside a comment
  nested : (deep d n : ℕ) (h : Home) (at c : ℕ) (s i t : List ℕ) (k : ℕ) → T (eqb c 40) → s ≡ i ++ 41 ∷ t → Inside d i → k ≡ suc (suc at + length i)
      → Rest deep r (in_state (inside h (suc d) n)) k t → Rest deep r (in_state (inside h (suc d) n)) at (c ∷ s)
  nested deep d n h at c s i t k o q f e (in_comment j u l p y m x) =
      in_comment {at = at} (40 ∷ (i ++ 41 ∷ j)) u l (same c 40 s o ∙ put (q ∙ ap (λ (z : List ℕ). i ++ 41 ∷ z) p ∙ sym (append_assoc i (41 ∷ j) (41 ∷ u))))
      (Inside.comment f y) (omega (arith, length-append i (41 ∷ j))) x

  nested_front : (deep d n : ℕ) (h : Home) (at c : ℕ) (s : List ℕ) → T (eqb c 40) → Rest deep r (in_state (opening at h d (suc n))) (suc at) s
      → Rest deep r (in_state (inside h d n)) at (c ∷ s)
  nested_front deep zero n h at c s t x = absurd (no_rest deep r x)
  nested_front deep (suc d) n h at c s t (in_comment i u k q f e x) = nested deep d n h at c s i u k t q f e x

atom_in_front : {c : ℕ} {a : List ℕ} → T (atext c) → DotAtom a → DotAtom (c ∷ a)
atom_in_front t (DotAtom.atom a) = DotAtom.atom (Atom.more t a)
atom_in_front t (DotAtom.dot a b) = DotAtom.dot (Atom.more t a) b

module _ (deep : ℕ) (r : Ranges) where
  spaced_front : (h : Home) (at c : ℕ) (s : List ℕ) → Rest deep r (in_state (spaced deep at h c)) (suc at) s → Rest deep r (in_state (home h)) at (c ∷ s)
  spaced_front h at c s = either deep r (suc at) s (white_byte c) (home h) _ (white_front deep r h at c s)
      (λ n. either deep r (suc at) s (eqb c 40) (opening at h deep 0) _ (opening_front r deep h at c s)
      (λ m x. no_gap deep r h at (c ∷ s) (begins deep r h at c s x)))

  atom_front : (from at c : ℕ) (s : List ℕ) → T (atext c) → Rest deep r (in_state (atom from)) (suc at) s → Rest deep r (in_state (atom from)) at (c ∷ s)
  atom_front from at c s t (in_atom a u k q f n e x) = in_atom {at = at} (c ∷ a) u k (put q) (λ b v. Atom.more v (f c t)) n (omega arith) x

  atom_ends : (from at c : ℕ) (s : List ℕ) → T (not (atext c)) → Rest deep r (in_state (spaced deep at (names (some from at)) c)) (suc at) s
      → Rest deep r (in_state (atom from)) at (c ∷ s)
  atom_ends from at c s n x = in_atom {at = at} [] (c ∷ s) at refl (λ b v. Atom.last v) n (omega arith) (spaced_front (names (some from at)) at c s x)

  quote_front : (from at c : ℕ) (s : List ℕ) → T (quote_text c) → Rest deep r (in_state (quote from)) (suc at) s → Rest deep r (in_state (quote from)) at (c ∷ s)
  quote_front from at c s t (in_quotes a u k q f e x) = in_quotes {at = at} (c ∷ a) u k (put q) (Quoted.text t f) (omega arith) x

  taken_in_quotes : (from at c b : ℕ) (s u : List ℕ) → T (eqb c 92) → s ≡ b ∷ u → T (takes b) → Rest deep r (in_state (quote from)) (suc (suc at)) u
      → Rest deep r (in_state (quote from)) at (c ∷ s)
  taken_in_quotes from at c b s u o p t (in_quotes a v k q f e x) =
      in_quotes {at = at} (92 ∷ b ∷ a) v k (same c 92 s o ∙ put (p ∙ put q)) (Quoted.taken t f) (omega arith) x

  quote_taken_front : (from at c : ℕ) (s : List ℕ) → T (eqb c 92) → Rest deep r (in_state (quote_taken from)) (suc at) s → Rest deep r (in_state (quote from)) at (c ∷ s)
  quote_taken_front from at c s o (in_quote_taken b u q t x) = taken_in_quotes from at c b s u o q t x

  text_front : (half : Half) (from at c : ℕ) (s : List ℕ) → T (atext c) → Rest deep r (in_state (text half from)) (suc at) s → Rest deep r (in_state (text half from)) at (c ∷ s)
  text_front half from at c s t (in_dots a u k q f e x) = in_dots {at = at} (c ∷ a) u k (put q) (λ b v. atom_in_front v (f c t)) (omega arith) x

  dot_front : (half : Half) (from at c : ℕ) (s : List ℕ) → T (eqb c 46) → Rest deep r (in_state (dotted half from)) (suc at) s → Rest deep r (in_state (text half from)) at (c ∷ s)
  dot_front half from at c s t (behind_dot a u k q f e x) =
      in_dots {at = at} (46 ∷ a) u k (same c 46 s t ∙ put q) (λ b v. DotAtom.dot (Atom.last v) f) (omega arith) x

  dots_end : (half : Half) (from at c : ℕ) (s : List ℕ) → Rest deep r (in_state (spaced deep at (behind half from at) c)) (suc at) s
      → Rest deep r (in_state (text half from)) at (c ∷ s)
  dots_end half from at c s x = in_dots {at = at} [] (c ∷ s) at refl (λ b v. DotAtom.atom (Atom.last v)) (omega arith) (spaced_front (behind half from at) at c s x)

  dotted_front : (half : Half) (from at c : ℕ) (s : List ℕ) → T (atext c) → Rest deep r (in_state (text half from)) (suc at) s → Rest deep r (in_state (dotted half from)) at (c ∷ s)
  dotted_front half from at c s t (in_dots a u k q f e x) = behind_dot {at = at} (c ∷ a) u k (put q) (f c t) (omega arith) x

  comment_text_front : (h : Home) (d n at c : ℕ) (s : List ℕ) → T (comment_text c) → Rest deep r (in_state (inside h d n)) (suc at) s → Rest deep r (in_state (inside h d n)) at (c ∷ s)
  comment_text_front h d n at c s t (in_comment i u k q f e x) = in_comment {at = at} (c ∷ i) u k (put q) (Inside.text t f) (omega arith) x

  taken_in_comment : (h : Home) (d n at c b : ℕ) (s u : List ℕ) → T (eqb c 92) → s ≡ b ∷ u → T (takes b) → Rest deep r (in_state (inside h d n)) (suc (suc at)) u
      → Rest deep r (in_state (inside h d n)) at (c ∷ s)
  taken_in_comment h d n at c b s u o p t (in_comment i v k q f e x) =
      in_comment {at = at} (92 ∷ b ∷ i) v k (same c 92 s o ∙ put (p ∙ put q)) (Inside.taken t f) (omega arith) x

  comment_taken_front : (h : Home) (d n at c : ℕ) (s : List ℕ) → T (eqb c 92) → Rest deep r (in_state (inside_taken h d n)) (suc at) s → Rest deep r (in_state (inside h d n)) at (c ∷ s)
  comment_taken_front h d n at c s o (comment_taken b u q t x) = taken_in_comment h d n at c b s u o q t x

  -- a byte in front of what completes the state behind it
  back : (st : State) (at c : ℕ) (s : List ℕ) → Rest deep r (in_state (step deep at st c)) (suc at) s → Rest deep r (in_state st) at (c ∷ s)
  back (home h) at c s = spaced_front h at c s
  back (atom from) at c s = either deep r (suc at) s (atext c) (atom from) _ (atom_front from at c s) (atom_ends from at c s)
  back (quote from) at c s = either deep r (suc at) s (quote_text c) (quote from) _ (quote_front from at c s)
      (λ n. either deep r (suc at) s (eqb c 34) (home (names (some from (suc at)))) _ (λ t x. in_quotes {at = at} [] s (suc at) (same c 34 s t) Quoted.empty (omega arith) x)
      (λ m. either deep r (suc at) s (eqb c 92) (quote_taken from) _ (quote_taken_front from at c s) (not_dead deep r)))
  back (quote_taken from) at c s = either deep r (suc at) s (takes c) (quote from) _ (λ t x. in_quote_taken c s refl t x) (not_dead deep r)
  back (text half from) at c s = either deep r (suc at) s (atext c) (text half from) _ (text_front half from at c s)
      (λ n. either deep r (suc at) s (eqb c 46) (dotted half from) _ (dot_front half from at c s) (λ m. dots_end half from at c s))
  back (dotted half from) at c s = either deep r (suc at) s (atext c) (text half from) _ (dotted_front half from at c s) (not_dead deep r)
  back (inside h d k) at c s = either deep r (suc at) s (comment_text c) (inside h d k) _ (comment_text_front h d k at c s)
      (λ n. either deep r (suc at) s (eqb c 41) (closing h d k) _ (λ t x. in_comment {at = at} [] s (suc at) (same c 41 s t) Inside.empty (omega arith) x)
      (λ m. either deep r (suc at) s (eqb c 92) (inside_taken h d k) _ (comment_taken_front h d k at c s)
      (λ l. either deep r (suc at) s (eqb c 40) (opening at h d (suc k)) _ (nested_front r deep d k h at c s) (not_dead deep r))))
  back (inside_taken h d k) at c s = either deep r (suc at) s (takes c) (inside h d k) _ (λ t x. comment_taken c s refl t x) (not_dead deep r)
  back (dead n p) at c s = λ x. absurd (no_rest deep r x)

  never : (n p : ℕ) → refused n p ≡ accepted r → ⊥
  never n p e = let z : ◌≡◌ {A = ℕ} 0 1 = cc in absurd (omega arith)

  same_ranges : (a b : Ranges) → accepted a ≡ accepted b → a ≡ b
  same_ranges a b e = cc

  at_end : (st : State) (at : ℕ) → finish at st ≡ accepted r → Rest deep r (in_state st) at []
  at_end (home (names v)) at e = absurd (never 14 at e)
  at_end (home (opened half)) at e = absurd (never 14 at e)
  at_end (home (behind half from to)) at e = absurd (never 14 at e)
  at_end (home (closed q)) at e = rw (same_ranges q r e) (no_gap deep r (closed r) at [] (ended refl))
  at_end (atom from) at e = absurd (never 14 at e)
  at_end (quote from) at e = absurd (never 14 at e)
  at_end (quote_taken from) at e = absurd (never 14 at e)
  at_end (text half from) at e = absurd (never 14 at e)
  at_end (dotted half from) at e = absurd (never 14 at e)
  at_end (inside h d k) at e = absurd (never 14 at e)
  at_end (inside_taken h d k) at e = absurd (never 14 at e)
  at_end (dead n p) at e = absurd (never n p e)

  completed : (s : List ℕ) (st : State) (at : ℕ) → read deep at st s ≡ accepted r → Rest deep r (in_state st) at s
  completed [] st at e = at_end st at e
  completed (c ∷ s) st at e = back st at c s (completed s (step deep at st c) (suc at) e)

  -- ---- what completes the start is a mailbox

  unspaced : {h : Home} {at : ℕ} {s : List ℕ} → Rest deep r (in_state (home h)) at s
      → (g : List ℕ) × (t : List ℕ) × (k : ℕ) × (s ≡ g ++ t) × Gap deep g × (k ≡ at + length g) × Rest deep r (ready h) k t
  unspaced (gap g t k q f e x) = (g, t, k, q, f, e, x)

  half_rest : {half : Half} {at : ℕ} {s : List ℕ} → Rest deep r (ready (opened half)) at s
      → (a : List ℕ) × (g : List ℕ) × (t : List ℕ) × (to : ℕ) × (place : ℕ) × (s ≡ a ++ (g ++ sign_of half ∷ t)) × DotAtom a × Gap deep g
      × (to ≡ at + length a) × (place ≡ suc (to + length g)) × Rest deep r (in_state (home (next half at to))) place t
  half_rest (dots a u to q f e (gap g v k p i j (sign t o x))) =
      (a, g, t, to, suc k, q ∙ ap (λ (z : List ℕ). a ++ z) (p ∙ ap (λ (z : List ℕ). g ++ z) o), f, i, e, omega arith, x)

  closed_rest : {q : Ranges} {at : ℕ} {s : List ℕ} → Rest deep r (ready (closed q)) at s → (s ≡ []) × (q ≡ r)
  closed_rest (ended e) = (e, refl)

  record NamesRest (from to : ℕ) (s : List ℕ) : Type 0 where
    more : List ℕ
    space : List ℕ
    tail : List ℕ
    end : ℕ
    place : ℕ
    reads : s ≡ more ++ (space ++ 60 ∷ tail)
    extends : (w : List ℕ) → Word w s → Words deep (w ++ more) (space ++ 60 ∷ tail)
    spaces : Gap deep space
    end_is : end ≡ to + length more
    place_is : place ≡ suc (end + length space)
    rest : Rest deep r (in_state (home (opened (local from end)))) place tail

  -- one more word in front
  longer : (from to k l : ℕ) (s g u w t : List ℕ) → s ≡ g ++ u → Gap deep g → k ≡ to + length g → u ≡ w ++ t → Word w t → l ≡ k + length w
      → NamesRest from l t → NamesRest from to s
  longer from to k l s g u w t q f e p y i n =
      let rest = n.space ++ 60 ∷ n.tail in
      let all : s ≡ g ++ ((w ++ n.more) ++ rest) =
      q ∙ ap (λ (z : List ℕ). g ++ z) (p ∙ ap (λ (z : List ℕ). w ++ z) n.reads ∙ sym (append_assoc w n.more rest)) in
      record {
        more = g ++ (w ++ n.more);
        space = n.space;
        tail = n.tail;
        end = n.end;
        place = n.place;
        reads = all ∙ sym (append_assoc g (w ++ n.more) rest);
        extends = λ v z. Words.more (rw all at z) f (n.extends w y);
        spaces = n.spaces;
        end_is = omega (arith, n.end_is, length-append g (w ++ n.more), length-append w n.more);
        place_is = n.place_is;
        rest = n.rest;
      }

  names_rest : {from to at : ℕ} {s : List ℕ} → Rest deep r (in_state (home (names (some from to)))) at s → at ≡ to → NamesRest from to s
  names_rest {to = to} (gap g u k q f e (less t p x)) j =
      let all = q ∙ ap (λ (z : List ℕ). g ++ z) p in
      record {
        more = [];
        space = g;
        tail = t;
        end = to;
        place = suc k;
        reads = all;
        extends = λ w y. rw (append-nil w) (Words.one (rw all at y));
        spaces = f;
        end_is = omega arith;
        place_is = omega arith;
        rest = x;
      }
  names_rest {from} {to} {s = s} (gap g u k q f e (word w t l p y i x)) j = longer from to k l s g u w t q f (omega arith) p y i (names_rest x refl)

  laid_out : (s t u v w g₂ a g₃ g₄ b g₅ z : List ℕ) → s ≡ g₂ ++ t → t ≡ a ++ (g₃ ++ 64 ∷ u) → u ≡ g₄ ++ v → v ≡ b ++ (g₅ ++ 62 ∷ w) → w ≡ z
      → s ≡ g₂ ++ (a ++ (g₃ ++ 64 ∷ (g₄ ++ (b ++ (g₅ ++ 62 ∷ z)))))
  laid_out s t u v w g₂ a g₃ g₄ b g₅ z e₁ e₂ e₃ e₄ e₅ = rw (e₁, e₂, e₃, e₄, e₅)

  -- behind the `<`
  whole : (s before ws space tail : List ℕ) (from to place : ℕ) → s ≡ before ++ (ws ++ (space ++ 60 ∷ tail)) → Gap deep before → Names deep ws space (60 ∷ tail)
      → from ≡ length before → to ≡ from + length ws → place ≡ suc (to + length space)
      → Rest deep r (in_state (home (opened (local from to)))) place tail → Mailbox deep s r
  whole s before ws space tail from to place q b n i j k x =
      let (g₂, t₂, k₂, q₂, f₂, e₂, x₂) = unspaced x in
      let (a₃, g₃, t₃, to₃, k₃, q₃, d₃, f₃, e₃, i₃, x₃) = half_rest x₂ in
      let (g₄, t₄, k₄, q₄, f₄, e₄, x₄) = unspaced x₃ in
      let (a₅, g₅, t₅, to₅, k₅, q₅, d₅, f₅, e₅, i₅, x₅) = half_rest x₄ in
      let (g₆, t₆, k₆, q₆, f₆, e₆, x₆) = unspaced x₅ in
      let (e₇, i₇) = closed_rest x₆ in
      let after_is : t₅ ≡ g₆ = q₆ ∙ ap (λ (z : List ℕ). g₆ ++ z) e₇ ∙ append-nil g₆ in
      let tail-is : tail ≡ g₂ ++ (a₃ ++ (g₃ ++ 64 ∷ (g₄ ++ (a₅ ++ (g₅ ++ 62 ∷ g₆))))) =
      laid_out tail t₂ t₃ t₄ t₅ g₂ a₃ g₃ g₄ a₅ g₅ g₆ q₂ q₃ q₄ q₅ after_is in
      record {
        before = before;
        names = ws;
        gap₁ = space;
        gap₂ = g₂;
        local = a₃;
        gap₃ = g₃;
        gap₄ = g₄;
        domain = a₅;
        gap₅ = g₅;
        after = g₆;
        reads = rw tail-is at q;
        before_gap = b;
        names_words = rw tail-is at n;
        second_gap = f₂;
        local_dots = d₃;
        third_gap = f₃;
        fourth_gap = f₄;
        domain_dots = d₅;
        fifth_gap = f₅;
        after_gap = f₆;
        start = from;
        end = to;
        from = k₂;
        to = to₅;
        name_start = i;
        name_end = j;
        address_start = omega arith;
        address_end = omega arith;
        answer = sym i₇;
      }

  from_start : {s : List ℕ} → Rest deep r (in_state start) 0 s → Mailbox deep s r
  from_start {s} (gap b u k q f e (less t p x)) =
      whole s b [] [] t k k (suc k) (q ∙ ap (λ (z : List ℕ). b ++ z) p) f Names.none (omega arith) (omega arith) (omega arith) x
  from_start {s} (gap b u k q f e (word w t l p y i x)) =
      let n = names_rest x refl in
      whole s b (w ++ n.more) n.space n.tail k n.end n.place
      (q ∙ ap (λ (z : List ℕ). b ++ z) (p ∙ ap (λ (z : List ℕ). w ++ z) n.reads ∙ sym (append_assoc w n.more (n.space ++ 60 ∷ n.tail)))) f
      (Names.some (n.extends w y) n.spaces) (omega arith) (omega (arith, n.end_is, length-append w n.more)) n.place_is n.rest

pub derives : (deep : ℕ) (s : List ℕ) (r : Ranges) → read deep 0 start s ≡ accepted r → Mailbox deep s r
derives deep s r e = from_start deep r (completed deep r s start 0 e)
