-- The reader's refusal is the one that the grammar defines, and there is one only (answer_says, answer_only). Every live state
-- can be completed (completes); a state and the one that allows comments one deeper go together (together), up to the bracket
-- at which the first dies of depth. Assumes nothing.
use Rattle.std.specs.Prelude.{if◌then◌else◌}
use mathlib.Core.Bool.{Bool, true, false}
use mathlib.Core.List.{List, [], ◌∷◌, ◌++◌, append_assoc}
use mathlib.Core.Logic.{◌⊎◌, inl, inr}
use mathlib.Core.Path.{◌≡◌, refl, sym, ap, ◌∙◌}
use Prim.Native.Nat.{ℕ, zero, suc, ◌+◌}
use native.Mathlib.Omega.{arith}
use lib.Dec.{T, eqb, eqb→eq}
use lib.ListN.{length}
use Rattle.rules.proofs.Lists.{Earlier, cuts}
use Rattle.mailbox.specs.Grammar.{white_byte, atext, quote_text, comment_text, takes, Ranges, Answer, accepted, refused}
use Rattle.mailbox.specs.Reader.{Home, State, home, atom, quote, quote_taken, text, dotted, inside, inside_taken, dead, names, opened, behind, closed}
use Rattle.mailbox.specs.Reader.{local, domain, some, sign_of, opening, closing, begin, spaced, step, finish, read, start, mailbox}
use Rattle.mailbox.specs.Place as place
use Rattle.mailbox.proofs.Accepts.{accepts}
use Rattle.mailbox.proofs.Derives.{derives}

abbrev pub Live : State → Type 0
Live (home h) = Unit {0}
Live (atom from) = Unit {0}
Live (quote from) = Unit {0}
Live (quote_taken from) = Unit {0}
Live (text half from) = Unit {0}
Live (dotted half from) = Unit {0}
Live (inside h d k) = Unit {0}
Live (inside_taken h d k) = Unit {0}
Live (dead n p) = ⊥

-- the state behind some bytes
abbrev pub state_after : ℕ → ℕ → State → List ℕ → State
state_after deep at st [] = st
state_after deep at st (c ∷ s) = state_after deep (suc at) (step deep at st c) s

-- ---- a live state can be completed

module _ (deep : ℕ) where
  Completed : ℕ → State → Type 0
  Completed at st = (s : List ℕ) × (r : Ranges) × (read deep at st s ≡ accepted r)

  home_completes : (h : Home) (at : ℕ) → Completed at (home h)
  unfolding Completed white_byte atext
  home_completes (closed r) at = ([], _, refl)
  home_completes (behind (local n m) from to) at = (64 ∷ 97 ∷ 62 ∷ [], _, refl)
  home_completes (behind (domain n m k) from to) at = (62 ∷ [], _, refl)
  home_completes (opened (local n m)) at = (97 ∷ 64 ∷ 97 ∷ 62 ∷ [], _, refl)
  home_completes (opened (domain n m k)) at = (97 ∷ 62 ∷ [], _, refl)
  home_completes (names v) at = (60 ∷ 97 ∷ 64 ∷ 97 ∷ 62 ∷ [], _, refl)

  comment_completes : (k d : ℕ) (h : Home) (at : ℕ) → Completed at (inside h d k)
  unfolding Completed comment_text white_byte
  comment_completes zero d h at = let (s, r, e) = home_completes h (suc at) in (41 ∷ s, r, e)
  comment_completes (suc k) d h at = let (s, r, e) = comment_completes k (suc d) h (suc at) in (41 ∷ s, r, e)

  completes : (st : State) (at : ℕ) → Live st → Completed at st
  unfolding Completed white_byte atext quote_text takes
  completes (home h) at l = home_completes h at
  completes (atom from) at l = (60 ∷ 97 ∷ 64 ∷ 97 ∷ 62 ∷ [], _, refl)
  completes (quote from) at l = (34 ∷ 60 ∷ 97 ∷ 64 ∷ 97 ∷ 62 ∷ [], _, refl)
  completes (quote_taken from) at l = (32 ∷ 34 ∷ 60 ∷ 97 ∷ 64 ∷ 97 ∷ 62 ∷ [], _, refl)
  completes (text (local n m) from) at l = (64 ∷ 97 ∷ 62 ∷ [], _, refl)
  completes (text (domain n m k) from) at l = (62 ∷ [], _, refl)
  completes (dotted (local n m) from) at l = (97 ∷ 64 ∷ 97 ∷ 62 ∷ [], _, refl)
  completes (dotted (domain n m k) from) at l = (97 ∷ 62 ∷ [], _, refl)
  completes (inside h d k) at l = comment_completes k d h at
  completes (inside_taken h d k) at l = let (s, r, e) = comment_completes k d h (suc at) in (32 ∷ s, r, e)
  completes (dead n p) at l = absurd l

-- ---- one comment deeper

abbrev pub lift : State → State
lift (home h) = home h
lift (atom from) = atom from
lift (quote from) = quote from
lift (quote_taken from) = quote_taken from
lift (text half from) = text half from
lift (dotted half from) = dotted half from
lift (inside h d k) = inside h (suc d) k
lift (inside_taken h d k) = inside_taken h (suc d) k
lift (dead n p) = dead n p

-- what a byte does to a state and to the deeper one
data Together (at c : ℕ) : State → State → Type 0 where
  on : {st to : State} → Live st → lift st ≡ to → Together at c st to
  stop : {st to : State} → st ≡ dead 14 at → to ≡ dead 14 at → Together at c st to
  ninth : {st to : State} → c ≡ 40 → st ≡ dead 15 at → Live to → Together at c st to

both : (at c : ℕ) (b : Bool) (x y u v : State) → (T b → Together at c x u) → Together at c y v → Together at c (if b then x else y) (if b then u else v)
both at c true x y u v f g = f tt
both at c false x y u v f g = g

opening_together : (at c : ℕ) (h : Home) (d k : ℕ) → T (eqb c 40) → Together at c (opening at h d k) (opening at h (suc d) k)
opening_together at c h zero k t = ninth (eqb→eq c 40 t) refl tt
opening_together at c h (suc d) k t = on tt refl

closing_together : (at c : ℕ) (h : Home) (d k : ℕ) → Together at c (closing h d k) (closing h (suc d) k)
closing_together at c h d zero = on tt refl
closing_together at c h d (suc k) = on tt refl

begin_together : (at c : ℕ) (h : Home) → Together at c (begin at h c) (begin at h c)
begin_together at c (names v) = both at c (atext c) _ _ _ _ (λ t. on tt refl) (both at c (eqb c 34) _ _ _ _ (λ t. on tt refl) (both at c (eqb c 60) _ _ _ _ (λ t. on tt refl) (stop refl refl)))
begin_together at c (opened half) = both at c (atext c) _ _ _ _ (λ t. on tt refl) (stop refl refl)
begin_together at c (behind half from to) = both at c (eqb c (sign_of half)) _ _ _ _ (λ t. on tt refl) (stop refl refl)
begin_together at c (closed r) = stop refl refl

module _ (deep : ℕ) where
  spaced_together : (at c : ℕ) (h : Home) → Together at c (spaced deep at h c) (spaced (suc deep) at h c)
  spaced_together at c h = both at c (white_byte c) _ _ _ _ (λ t. on tt refl) (both at c (eqb c 40) _ _ _ _ (opening_together at c h deep 0) (begin_together at c h))

  together : (st : State) (at c : ℕ) → Live st → Together at c (step deep at st c) (step (suc deep) at (lift st) c)
  together (home h) at c l = spaced_together at c h
  together (atom from) at c l = both at c (atext c) _ _ _ _ (λ t. on tt refl) (spaced_together at c (names (some from at)))
  together (quote from) at c l = both at c (quote_text c) _ _ _ _ (λ t. on tt refl) (both at c (eqb c 34) _ _ _ _ (λ t. on tt refl) (both at c (eqb c 92) _ _ _ _ (λ t. on tt refl) (stop refl refl)))
  together (quote_taken from) at c l = both at c (takes c) _ _ _ _ (λ t. on tt refl) (stop refl refl)
  together (text half from) at c l = both at c (atext c) _ _ _ _ (λ t. on tt refl) (both at c (eqb c 46) _ _ _ _ (λ t. on tt refl) (spaced_together at c (behind half from at)))
  together (dotted half from) at c l = both at c (atext c) _ _ _ _ (λ t. on tt refl) (stop refl refl)
  together (inside h d k) at c l = both at c (comment_text c) _ _ _ _ (λ t. on tt refl) (both at c (eqb c 41) _ _ _ _ (λ t. closing_together at c h d k)
      (both at c (eqb c 92) _ _ _ _ (λ t. on tt refl) (both at c (eqb c 40) _ _ _ _ (opening_together at c h d (suc k)) (stop refl refl))))
  together (inside_taken h d k) at c l = both at c (takes c) _ _ _ _ (λ t. on tt refl) (stop refl refl)
  together (dead n p) at c l = absurd l

  -- ---- how a reading ends in a refusal

  pub dead_stays : (s : List ℕ) (at n p : ℕ) → read deep at (dead n p) s ≡ refused n p
  dead_stays [] at n p = refl
  dead_stays (c ∷ s) at n p = dead_stays s (suc at) n p

  -- in the state `to` at the place k: at the value's end, or at a byte that the deeper reader stops at too, or does not
  pub data Fate (to : State) (k : ℕ) : ℕ → List ℕ → Type 0 where
    at_end : Fate to k 14 []
    stuck : {c : ℕ} {s : List ℕ} → step deep k to c ≡ dead 14 k → step (suc deep) k (lift to) c ≡ dead 14 k → Fate to k 14 (c ∷ s)
    too_deep : {s : List ℕ} → step deep k to 40 ≡ dead 15 k → Live (step (suc deep) k (lift to) 40) → Fate to k 15 (40 ∷ s)

  pub record Fall (at : ℕ) (st : State) (s : List ℕ) (n k : ℕ) : Type 0 where
    pub before : List ℕ
    pub after : List ℕ
    pub to : State
    pub reads : s ≡ before ++ after
    pub place : k ≡ at + length before
    pub state : to ≡ state_after deep at st before
    pub live : Live to
    pub runs : (t : List ℕ) → read deep at st (before ++ t) ≡ read deep k to t
    pub deeper : (t : List ℕ) → read (suc deep) at (lift st) (before ++ t) ≡ read (suc deep) k (lift to) t
    pub fate : Fate to k n after

  here : (at : ℕ) (st : State) (s : List ℕ) (n : ℕ) → Live st → Fate st at n s → Fall at st s n at
  here at st s n l f = record { before = []; after = s; to = st; reads = refl; place = omega arith; state = refl; live = l; runs = λ t. refl; deeper = λ t. refl; fate = f }

  further : (at c : ℕ) (st to : State) (s : List ℕ) (n k : ℕ) → step deep at st c ≡ to → step (suc deep) at (lift st) c ≡ lift to
      → Fall (suc at) to s n k → Fall at st (c ∷ s) n k
  further at c st to s n k e d f =
      record {
        before = c ∷ f.before;
        after = f.after;
        to = f.to;
        reads = ap (λ (z : List ℕ). c ∷ z) f.reads;
        place = omega (arith, f.place);
        state = f.state ∙ ap (λ (x : State). state_after deep (suc at) x f.before) (sym e);
        live = f.live;
        runs = λ t. ap (λ (x : State). read deep (suc at) x (f.before ++ t)) e ∙ f.runs t;
        deeper = λ t. ap (λ (x : State). read (suc deep) (suc at) x (f.before ++ t)) d ∙ f.deeper t;
        fate = f.fate;
      }

  -- the equation of two refusals
  numbers_same : (n p m q : ℕ) → refused n p ≡ refused m q → (n ≡ m) × (p ≡ q)
  numbers_same n p m q e = (cc, cc)

  end_falls : (st : State) (at n k : ℕ) → Live st → finish at st ≡ refused n k → (n ≡ 14) × (k ≡ at)
  end_falls (home (names v)) at n k l e = (cc, cc)
  end_falls (home (opened half)) at n k l e = (cc, cc)
  end_falls (home (behind half from to)) at n k l e = (cc, cc)
  end_falls (home (closed r)) at n k l e = (cc, cc)
  end_falls (atom from) at n k l e = (cc, cc)
  end_falls (quote from) at n k l e = (cc, cc)
  end_falls (quote_taken from) at n k l e = (cc, cc)
  end_falls (text half from) at n k l e = (cc, cc)
  end_falls (dotted half from) at n k l e = (cc, cc)
  end_falls (inside h d i) at n k l e = (cc, cc)
  end_falls (inside_taken h d i) at n k l e = (cc, cc)
  end_falls (dead m p) at n k l e = absurd l

  turns : (at c : ℕ) (st x y : State) (s : List ℕ) (n k : ℕ) → Live st → step deep at st c ≡ x → step (suc deep) at (lift st) c ≡ y → Together at c x y
      → read deep (suc at) x s ≡ refused n k → (Live x → Fall (suc at) x s n k) → Fall at st (c ∷ s) n k
  turns at c st x y s n k l e d (on m i) f rest = further at c st x s n k e (d ∙ sym i) (rest m)
  turns at c st x y s n k l e d (stop i j) f rest =
      let (u, v) = numbers_same 14 at n k (sym (dead_stays s (suc at) 14 at) ∙ rw i at f) in
      rw (← u, ← v) (here at st (c ∷ s) 14 l (stuck (e ∙ i) (d ∙ j)))
  turns at c st x y s n k l e d (ninth i j m) f rest =
      let (u, v) = numbers_same 15 at n k (sym (dead_stays s (suc at) 15 at) ∙ rw j at f) in
      let w : step (suc deep) at (lift st) 40 ≡ y = rw i at d in
      rw (← u, ← v, i) (here at st (40 ∷ s) 15 l (too_deep (rw i at (e ∙ j)) (rw w m)))

  pub falls : (s : List ℕ) (at : ℕ) (st : State) (n k : ℕ) → Live st → read deep at st s ≡ refused n k → Fall at st s n k
  falls [] at st n k l e = let (u, v) = end_falls st at n k l e in rw (u, v) (here at st [] 14 l at_end)
  falls (c ∷ s) at st n k l e =
      turns at c st (step deep at st c) (step (suc deep) at (lift st) c) s n k l refl refl (together st at c l) e
      (λ m. falls s (suc at) (step deep at st c) n k m e)

never : (n p : ℕ) (r : Ranges) → refused n p ≡ accepted r → ⊥
never n p r e = let z : ◌≡◌ {A = ℕ} 0 1 = cc in absurd (omega arith)

-- bytes that lead to a live state go on; bytes that lead to a dead one do not
live_goes_on : (deep : ℕ) (s : List ℕ) (k : ℕ) (to : State) → Live to → ((t : List ℕ) → read deep 0 start (s ++ t) ≡ read deep k to t) → place.GoesOn deep s
unfolding Completed
live_goes_on deep s k to l runs =
    let (t, r, e) = completes deep to k l in
    record { behind = t; ranges = r; mailbox = derives deep (s ++ t) r (runs t ∙ e) }

dead_stops : (deep : ℕ) (s : List ℕ) (k n p : ℕ) → ((t : List ℕ) → read deep 0 start (s ++ t) ≡ read deep k (dead n p) t) → place.GoesOn deep s → ⊥
dead_stops deep s k n p runs g =
    never n p g.ranges (sym (runs g.behind ∙ dead_stays deep g.behind k n p) ∙ accepts deep (s ++ g.behind) g.ranges g.mailbox)

-- one byte further
one_on : (deep : ℕ) (s : List ℕ) (k c : ℕ) (st to : State) → ((t : List ℕ) → read deep 0 start (s ++ t) ≡ read deep k st t) → step deep k st c ≡ to
    → (t : List ℕ) → read deep 0 start ((s ++ c ∷ []) ++ t) ≡ read deep (suc k) to t
one_on deep s k c st to runs e t =
    rw (append_assoc s (c ∷ []) t) (runs (c ∷ t) ∙ ap (λ (x : State). read deep (suc k) x t) e)

stops_there : (deep n k : ℕ) (to : State) (before after : List ℕ) → ((t : List ℕ) → read deep 0 start (before ++ t) ≡ read deep k to t)
    → Fate deep to k n after → place.StopsThere deep before after
stops_there deep n k to before after runs at_end = place.StopsThere.end
stops_there deep n k to before after runs (stuck {c = c} e d) =
    place.StopsThere.byte (dead_stops deep (before ++ c ∷ []) (suc k) 14 k (one_on deep before k c to (dead 14 k) runs e))
stops_there deep n k to before after runs (too_deep e l) =
    place.StopsThere.byte (dead_stops deep (before ++ 40 ∷ []) (suc k) 15 k (one_on deep before k 40 to (dead 15 k) runs e))

no_ninth : (deep k c : ℕ) (to : State) (before after : List ℕ) → ((t : List ℕ) → read (suc deep) 0 start (before ++ t) ≡ read (suc deep) k to t)
    → step (suc deep) k to c ≡ dead 14 k → place.Ninth deep before (c ∷ after) → ⊥
no_ninth deep k c to before after runs e (place.Ninth.ninth g) =
    dead_stops (suc deep) (before ++ 40 ∷ []) (suc k) 14 k (one_on (suc deep) before k 40 to (dead 14 k) runs e) g

none_at_end : {deep : ℕ} {before : List ℕ} → place.Ninth deep before [] → ⊥
none_at_end = elim [ ]

numbered : (deep n k : ℕ) (to : State) (before after : List ℕ) → ((t : List ℕ) → read (suc deep) 0 start (before ++ t) ≡ read (suc deep) k (lift to) t)
    → Fate deep to k n after → place.Number deep before after n
numbered deep n k to before after runs at_end = place.Number.fourteen none_at_end
numbered deep n k to before after runs (stuck {c = c} {s = s} e d) = place.Number.fourteen (no_ninth deep k c (lift to) before s runs d)
numbered deep n k to before after runs (too_deep e l) =
    place.Number.fifteen (place.Ninth.ninth (live_goes_on (suc deep) (before ++ 40 ∷ []) (suc k) (step (suc deep) k (lift to) 40) l
    (one_on (suc deep) before k 40 (lift to) (step (suc deep) k (lift to) 40) runs refl)))

pub refuses : (deep : ℕ) (s : List ℕ) (n k : ℕ) → read deep 0 start s ≡ refused n k → place.Refusal deep s n k
refuses deep s n k e =
    let f = falls deep s 0 start n k tt e in
    record {
      none = λ r m. never n k r (sym e ∙ accepts deep s r m);
      before = f.before;
      after = f.after;
      reads = f.reads;
      place_is = omega (arith, f.place);
      goes_on = live_goes_on deep f.before k f.to f.live f.runs;
      stops = stops_there deep n k f.to f.before f.after f.runs f.fate;
      number_is = numbered deep n k f.to f.before f.after f.deeper f.fate;
    }

-- ---- the answer says what it should

says : (deep : ℕ) (s : List ℕ) (a : Answer) → read deep 0 start s ≡ a → place.Says deep s a
says deep s (accepted r) e = place.Says.mailbox (derives deep s r e)
says deep s (refused n k) e = place.Says.none (refuses deep s n k e)

pub answer_says : (s : List ℕ) → place.Says 8 s (mailbox s)
unfolding mailbox
answer_says s = says 8 s (read 8 0 start s) refl

-- ---- and no other answer does

goes_less : (deep : ℕ) (b : List ℕ) (c : ℕ) (x : List ℕ) → place.GoesOn deep (b ++ c ∷ x) → place.GoesOn deep (b ++ c ∷ [])
goes_less deep b c x g =
    record { behind = x ++ g.behind; ranges = g.ranges; mailbox = rw (append_assoc b (c ∷ []) (x ++ g.behind)) (rw (append_assoc b (c ∷ x) g.behind) at g.mailbox) }

stuck_at : (deep : ℕ) (b : List ℕ) (c : ℕ) (y : List ℕ) → place.StopsThere deep b (c ∷ y) → place.GoesOn deep (b ++ c ∷ []) → ⊥
stuck_at deep b c y (place.StopsThere.byte f) = f

not_earlier : (deep : ℕ) (b a d : List ℕ) → place.StopsThere deep b a → place.GoesOn deep d → Earlier b a d → ⊥
not_earlier deep b a d f g (c, x, y, i, j) = stuck_at deep b c y (rw i at f) (goes_less deep b c x (rw j at g))

number_same : (deep : ℕ) (b a : List ℕ) (n m : ℕ) → place.Number deep b a n → place.Number deep b a m → n ≡ m
number_same deep b a n m (place.Number.fifteen x) (place.Number.fifteen y) = refl
number_same deep b a n m (place.Number.fifteen x) (place.Number.fourteen y) = absurd (y x)
number_same deep b a n m (place.Number.fourteen x) (place.Number.fifteen y) = absurd (x y)
number_same deep b a n m (place.Number.fourteen x) (place.Number.fourteen y) = refl

pub refusal_same : (deep : ℕ) (s : List ℕ) (n k m j : ℕ) → place.Refusal deep s n k → place.Refusal deep s m j → (n ≡ m) × (k ≡ j)
refusal_same deep s n k m j x y = go (cuts x.before x.after y.before y.after (sym x.reads ∙ y.reads))
  where
    go : ((x.before ≡ y.before) × (x.after ≡ y.after)) ⊎ (Earlier x.before x.after y.before ⊎ Earlier y.before y.after x.before) → (n ≡ m) × (k ≡ j)
    go (inl (p, q)) = (number_same deep y.before y.after n m (rw (p, q) at x.number_is) y.number_is, x.place_is ∙ ap length p ∙ sym y.place_is)
    go (inr (inl e)) = absurd (not_earlier deep x.before x.after y.before x.stops y.goes_on e)
    go (inr (inr e)) = absurd (not_earlier deep y.before y.after x.before y.stops x.goes_on e)

only : (deep : ℕ) (s : List ℕ) (a b : Answer) → read deep 0 start s ≡ b → place.Says deep s a → a ≡ b
only deep s a b e (place.Says.mailbox {r = r} m) = sym (accepts deep s r m) ∙ e
only deep s a (accepted r) e (place.Says.none x) = absurd (x.none r (derives deep s r e))
only deep s a (refused m j) e (place.Says.none {number = n} {place = k} x) =
    let (p, q) = refusal_same deep s n k m j x (refuses deep s m j e) in
    cc

pub answer_only : (s : List ℕ) (a : Answer) → place.Says 8 s a → a ≡ mailbox s
unfolding mailbox
answer_only s a x = only 8 s a (read 8 0 start s) refl x
