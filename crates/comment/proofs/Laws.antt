-- What the reader does from a place on: laws of a watched reading, and what each function adds to it. Assumes nothing.
use Rattle.std.specs.Prelude.{cond, ◌≢◌, if◌then◌else◌, Option, Some, None, Ok, Err}
use mathlib.Core.Bool.{Bool, true, false, not}
use mathlib.Core.List.{List, [], ◌∷◌}
use mathlib.Core.Path.{◌≡◌, refl, sym, ap, ◌∙◌}
use Prim.Native.Nat.{ℕ, suc, ◌+◌, ◌-◌, ◌≤◌, ◌<◌}
use native.Mathlib.Numerals.{add-one}
use native.Mathlib.Omega.{arith}
use borrow.Author.Tests.{eq-eqb, ne_eqb}
use lib.Dec.{T, eqb, eqb→eq}
use lib.ListN.{length, drop, get_or, drop_of_length-le}
use lib.Seq.{drop-cons, drop-drop}
use Rattle.rules.specs.Lists.{Stops}
use Rattle.rules.proofs.Lists.{is_true, is_false, or_left, or_right}
use Rattle.mailbox.specs.Grammar.{white_byte, comment_text, quote_text, takes, refused, deepest}
use Rattle.mailbox.specs.Reader.{Home, State, home, dead, inside, inside_taken, opening, closing, step, finish}
use Rattle.mailbox.proofs.Tests.{neither}
use Rattle.mailbox.specs.declared.MailboxError.{MailboxError}
use Rattle.comment.specs.Ends.{End, place, Watch, answered, until, onward, taken, width, text_byte, Text, PassesText, TextEnd, Unseen, CommentEnd, in_comment, gap_byte, Passes, GapStep, GapEnd}

-- ---- a watched reading

module _ (w : Watch) where
  -- over a byte
  pub turn : (at : ℕ) (st : State) (c : ℕ) (s : List ℕ) (to : State) → w.over st (c ∷ s) ≡ false → step deepest at st c ≡ to
      → until w at st (c ∷ s) ≡ until w (suc at) to s
  turn at st c s to o e = rw o (ap (λ (x : State). until w (suc at) x s) e)

  -- a dead state is the answer
  pub dead_ends : (s : List ℕ) (at n k : ℕ) → until w at (dead n k) s ≡ answered (refused n k)
  dead_ends [] at n k = rw (w.alive n k [])
  dead_ends (c ∷ s) at n k = rw (w.alive n k (c ∷ s)) (dead_ends s (suc at) n k)

  -- the same at a place in a value: over the byte there; to death by it; at the value's end
  pub turn_at : (s : List ℕ) (i : ℕ) (st to : State) → i < length s → ((t : List ℕ) → w.over st t ≡ false) → step deepest i st (get_or s i 0) ≡ to
      → until w i st (drop i s) ≡ until w (suc i) to (drop (suc i) s)
  turn_at s i st to l o e = rw (drop-cons s i 0) (turn i st (get_or s i 0) (drop (suc i) s) to (o (get_or s i 0 ∷ drop (suc i) s)) e)

  pub dies_at : (s : List ℕ) (i : ℕ) (st : State) (n k : ℕ) → i < length s → ((t : List ℕ) → w.over st t ≡ false) → step deepest i st (get_or s i 0) ≡ dead n k
      → until w i st (drop i s) ≡ answered (refused n k)
  dies_at s i st n k l o e = turn_at s i st (dead n k) l o e ∙ dead_ends (drop (suc i) s) (suc i) n k

  pub end_at : (s : List ℕ) (i : ℕ) (st : State) → length s ≤ i → ((t : List ℕ) → w.over st t ≡ false) → until w i st (drop i s) ≡ answered (finish i st)
  end_at s i st l o = rw (drop_of_length-le s l, o [])

-- ---- text_width

module _ (text : ℕ → Bool) (s : List ℕ) (i : ℕ) (l : i < length s) where
  pub width_text : text (get_or s i 0) ≡ true → Some 1 ≡ width text (drop i s)
  unfolding width
  width_text e = sym (rw (drop-cons s i 0, e))

  module _ (n : text (get_or s i 0) ≡ false) where
    pub width_none : (get_or s i 0 ≡ 92 → ⊥) → Some 0 ≡ width text (drop i s)
    unfolding width
    width_none m = sym (rw (drop-cons s i 0, n, ne_eqb _ _ m))

    module _ (e : get_or s i 0 ≡ 92) where
      width_slash : width text (drop i s) ≡ taken (drop (i + 1) s)
      unfolding width
      width_slash = rw (add-one i, drop-cons s i 0, n, eq-eqb _ _ e)

      pub width-end : i + 1 ≡ length s → None ≡ width text (drop i s)
      width-end k =
          let o : length s ≤ i + 1 = omega arith in
          sym (width_slash ∙ rw (drop_of_length-le s o))

      pub width-takes : (b : Bool) → i + 1 < length s → takes (get_or s (i + 1) 0) ≡ b → (if b then Some 2 else None) ≡ width text (drop i s)
      width-takes b k t = sym (width_slash ∙ rw (drop-cons s (i + 1) 0, t))

-- what a width means
data View (text : ℕ → Bool) : List ℕ → Option ℕ → Type 0 where
  none : {t : List ℕ} → Stops (text_byte text) t → View text t (Some 0)
  one : {c : ℕ} {t : List ℕ} → T (text c) → View text (c ∷ t) (Some 1)
  two : {c : ℕ} {t : List ℕ} → T (takes c) → View text (92 ∷ c ∷ t) (Some 2)
  at_end : View text (92 ∷ []) None
  lost : {c : ℕ} {t : List ℕ} → T (not (takes c)) → View text (92 ∷ c ∷ t) None

slash_view : (text : ℕ → Bool) (t : List ℕ) → View text (92 ∷ t) (taken t)
slash_view text [] = at_end
slash_view text (c ∷ t) = go (takes c) refl
  where
    go : (b : Bool) → b ≡ takes c → View text (92 ∷ c ∷ t) (if b then Some 2 else None)
    go true e = two {c = c} (rw (← e) tt)
    go false e = lost {c = c} (rw (← e) tt)

view : (text : ℕ → Bool) (t : List ℕ) → View text t (width text t)
unfolding width
view text [] = none tt
view text (c ∷ t) = go (text c) (eqb c 92) refl refl
  where
    go : (b d : Bool) → b ≡ text c → d ≡ eqb c 92 → View text (c ∷ t) (if b then Some 1 else if d then taken t else Some 0)
    go true d e f = one {c = c} (rw (← e) tt)
    go false true e f = let k : c ≡ 92 = eqb→eq c 92 (rw (← f) tt) in rw k (slash_view text t)
    go false false e f = none {t = c ∷ t} (rw (← e, ← f) tt)

-- ---- text_end

text_step : {text : ℕ → Bool} {st behind : State} → Text text st behind → (at c : ℕ) → T (text c) → step deepest at st c ≡ st
text_step Text.quotes at c t = rw (is_true (quote_text c) t)
text_step Text.comment at c t = rw (is_true (comment_text c) t)

slash_step : {text : ℕ → Bool} {st behind : State} → Text text st behind → (at : ℕ) → step deepest at st 92 ≡ behind
unfolding quote_text comment_text white_byte
slash_step Text.quotes at = refl
slash_step Text.comment at = refl

taken_step : {text : ℕ → Bool} {st behind : State} → Text text st behind → (at c : ℕ) → T (takes c) → step deepest at behind c ≡ st
taken_step Text.quotes at c t = rw (is_true (takes c) t)
taken_step Text.comment at c t = rw (is_true (takes c) t)

lost_step : {text : ℕ → Bool} {st behind : State} → Text text st behind → (at c : ℕ) → T (not (takes c)) → step deepest at behind c ≡ dead 14 at
lost_step Text.quotes at c t = rw (is_false (takes c) t)
lost_step Text.comment at c t = rw (is_false (takes c) t)

lost_end : {text : ℕ → Bool} {st behind : State} → Text text st behind → (at : ℕ) → finish at behind ≡ refused 14 at
lost_end Text.quotes at = refl
lost_end Text.comment at = refl

module _ (w : Watch) {text : ℕ → Bool} {st behind : State} (x : Text text st behind) (o : PassesText w text st behind) where
  view_passes : {t : List ℕ} {n : ℕ} → View text t (Some n) → (n ≡ 0 → ⊥) → (at : ℕ) → until w at st t ≡ until w (at + n) st (drop n t)
  view_passes (none s) z at = absurd (z refl)
  view_passes (one {c = c} {t = t} y) z at = rw (add-one at) (turn w at st c t st (o.0 c t (or_left (text c) (eqb c 92) y)) (text_step x at c y))
  view_passes (two {c = c} {t = t} y) z at =
      let e : at + 2 ≡ suc (suc at) = omega arith in
      rw e
      (turn w at st 92 (c ∷ t) behind (o.0 92 (c ∷ t) (or_right (text 92) true tt)) (slash_step x at)
      ∙ turn w (suc at) behind c t st (o.1 (c ∷ t)) (taken_step x (suc at) c y))

  view_lost : {t : List ℕ} → View text t None → (at : ℕ) → until w at st t ≡ answered (refused 14 (at + 1))
  view_lost at_end at =
      rw (add-one at) (turn w at st 92 [] behind (o.0 92 [] (or_right (text 92) true tt)) (slash_step x at) ∙ rw (o.1 [], lost_end x (suc at)))
  view_lost (lost {c = c} {t = t} y) at =
      rw (add-one at)
      (turn w at st 92 (c ∷ t) behind (o.0 92 (c ∷ t) (or_right (text 92) true tt)) (slash_step x at)
      ∙ turn w (suc at) behind c t (dead 14 (suc at)) (o.1 (c ∷ t)) (lost_step x (suc at) c y) ∙ dead_ends w t (suc (suc at)) 14 (suc at))

view_stops : {text : ℕ → Bool} {t : List ℕ} → View text t (Some 0) → Stops (text_byte text) t
view_stops (none s) = s

-- the reading from `at` on is the one from i on
pub record SameText (text : ℕ → Bool) (s : List ℕ) (at i : ℕ) : Type 0 where
  pub reads : (w : Watch) (st behind : State) → Text text st behind → PassesText w text st behind → until w at st (drop at s) ≡ until w i st (drop i s)

module _ {text : ℕ → Bool} {s : List ℕ} {at i : ℕ} (f : SameText text s at i) (m : at ≤ i) (l : i < length s) where
  pub text_passes : {n : ℕ} → Some n ≡ width text (drop i s) → (n ≡ 0 → ⊥) → SameText text s at (i + n)
  text_passes {n} e z =
      let v : View text (drop i s) (Some n) = rw e (view text (drop i s)) in
      record { reads = λ w st behind x o. f.reads w st behind x o ∙ view_passes w x o v z i ∙ ap (λ (u : List ℕ). until w (i + n) st u) (drop-drop n i s) }

  pub text_stops : Some 0 ≡ width text (drop i s) → TextEnd text s at (Ok i)
  text_stops e =
      let v : View text (drop i s) (Some 0) = rw e (view text (drop i s)) in
      record { reads = f.reads; stops = view_stops v; later = m; within = omega arith }

  pub text_lost : None ≡ width text (drop i s) → TextEnd text s at (Err (MailboxError.NotAMailbox (i + 1)))
  text_lost e =
      let v : View text (drop i s) None = rw e (view text (drop i s)) in
      record { reads = λ w st behind x o. f.reads w st behind x o ∙ view_lost w x o v i; stops = tt; later = omega arith; within = omega arith }

pub text_over : {text : ℕ → Bool} {s : List ℕ} {at i : ℕ} → SameText text s at i → at ≤ i → i ≤ length s → length s ≤ i → TextEnd text s at (Ok i)
text_over {s = s} f m l o = record { reads = f.reads; stops = rw (drop_of_length-le s o) tt; later = m; within = l }

-- ---- comment_end

-- the reading from `at` on is the one from i on, inside a comment in which d more may be opened
pub record SameInside (s : List ℕ) (d at i : ℕ) : Type 0 where
  pub reads : (w : Watch) (h : Home) (k : ℕ) → Unseen w h → until w at (inside h d k) (drop at s) ≡ until w i (inside h d k) (drop i s)

in_text : (w : Watch) (h : Home) (d k : ℕ) → Unseen w h → PassesText w comment_text (inside h d k) (inside_taken h d k)
in_text w h d k u = ((λ c t y. (u d k (c ∷ t)).0), λ t. (u d k t).1)

-- behind a text that is refused
pub text_refused : {s : List ℕ} {d at i : ℕ} {e : MailboxError} → SameInside s d at i → at ≤ i → TextEnd comment_text s i (Err e) → CommentEnd s at d (Err e)
text_refused {d = d} f m x = record {
  reads = λ w h k u. f.reads w h k u ∙ x.reads w (inside h d k) (inside_taken h d k) Text.comment (in_text w h d k u);
  later = omega (arith, x.later);
  within = x.within;
}

-- behind a text, which ends at p
module _ {s : List ℕ} {d at i p : ℕ} (f : SameInside s d at i) (m : at ≤ i) (x : TextEnd comment_text s i (Ok p)) where
  passed : (w : Watch) (h : Home) (k : ℕ) → Unseen w h → until w at (inside h d k) (drop at s) ≡ until w p (inside h d k) (drop p s)
  passed w h k u = f.reads w h k u ∙ x.reads w (inside h d k) (inside_taken h d k) Text.comment (in_text w h d k u)

  pub no_bracket : p ≡ length s → CommentEnd s at d (Err (MailboxError.NotAMailbox p))
  no_bracket e = record {
    reads = λ w h k u. passed w h k u ∙ end_at w s p (inside h d k) (omega arith) (λ t. (u d k t).0);
    later = omega (arith, x.later);
    within = x.within;
  }

  pub bracket : p < length s → get_or s p 0 ≡ 41 → CommentEnd s at d (Ok (p + 1))
  unfolding comment_text white_byte
  bracket l e = record {
    reads = λ w h k u. passed w h k u ∙ rw (add-one p) (turn_at w s p (inside h d k) (closing h d k) l (λ t. (u d k t).0) (rw e));
    later = omega (arith, x.later);
    within = omega arith;
  }

  other_dies : (h : Home) (k c : ℕ) → T (not (text_byte comment_text c)) → (c ≡ 41 → ⊥) → (c ≡ 40 → ⊥) → step deepest p (inside h d k) c ≡ dead 14 p
  other_dies h k c n a b = rw ((neither (comment_text c) (eqb c 92) n).0, ne_eqb _ _ a, (neither (comment_text c) (eqb c 92) n).1, ne_eqb _ _ b)

  pub other : p < length s → (get_or s p 0 ≡ 41 → ⊥) → (get_or s p 0 ≡ 40 → ⊥) → CommentEnd s at d (Err (MailboxError.NotAMailbox p))
  other l a b =
      let n : T (not (text_byte comment_text (get_or s p 0))) = rw (drop-cons s p 0) at x.stops in
      record {
        reads = λ w h k u. passed w h k u ∙ dies_at w s p (inside h d k) 14 p l (λ v. (u d k v).0) (other_dies h k (get_or s p 0) n a b);
        later = omega (arith, x.later);
        within = x.within;
      }

  opens : p < length s → get_or s p 0 ≡ 40 → (w : Watch) (h : Home) (k : ℕ) → Unseen w h
      → until w at (inside h d k) (drop at s) ≡ until w (suc p) (opening p h d (suc k)) (drop (suc p) s)
  unfolding comment_text white_byte
  opens l e w h k u = passed w h k u ∙ turn_at w s p (inside h d k) (opening p h d (suc k)) l (λ t. (u d k t).0) (rw e)

  pub too_deep : p < length s → get_or s p 0 ≡ 40 → d ≡ 0 → CommentEnd s at d (Err (MailboxError.NinthComment p))
  too_deep l e z = record {
    reads = λ w h k u. opens l e w h k u ∙ ap (λ (n : ℕ). until w (suc p) (opening p h n (suc k)) (drop (suc p) s)) z ∙ dead_ends w (drop (suc p) s) (suc p) 15 p;
    later = omega (arith, x.later);
    within = x.within;
  }

  module _ {e : End} (l : p < length s) (c : get_or s p 0 ≡ 40) (z : d ≡ suc (d - 1)) (y : CommentEnd s (p + 1) (d - 1) e) where
    inner : (w : Watch) (h : Home) (k : ℕ) → Unseen w h → until w at (inside h d k) (drop at s) ≡ onward w s (inside h d k) e
    inner w h k u =
        opens l c w h k u
        ∙ ap (λ (n : ℕ). until w (suc p) (opening p h n (suc k)) (drop (suc p) s)) z
        ∙ (rw (add-one p) at (y.reads w h (suc k) u)) ∙ ap (λ (n : ℕ). onward w s (inside h n k) e) (sym z)

  module _ (l : p < length s) (c : get_or s p 0 ≡ 40) (z : d ≢ 0) where
    pub inner_refused : {e : MailboxError} → CommentEnd s (p + 1) (d - 1) (Err e) → CommentEnd s at d (Err e)
    inner_refused y = record { reads = inner l c (omega arith) y; later = omega (arith, x.later, y.later); within = y.within }

    pub inner_passed : {q : ℕ} → CommentEnd s (p + 1) (d - 1) (Ok q) → SameInside s d at q
    inner_passed y = record { reads = inner l c (omega arith) y }

-- ---- gap_step and gap_end

-- what a step over white space or a comment does
record Stepped (s : List ℕ) (at : ℕ) (e : End) : Type 0 where
  reads : (w : Watch) (h : Home) → Passes w h → until w at (home h) (drop at s) ≡ onward w s (home h) e
  stops : e ≡ Ok at → Stops gap_byte (drop at s)
  later : at ≤ place e
  within : place e ≤ length s

over_comment : (s : List ℕ) (p : ℕ) (e : End) → p < length s → get_or s p 0 ≡ 40 → CommentEnd s (suc p) in_comment e → Stepped s p e
unfolding white_byte
over_comment s p e l c x = record {
  reads = λ w h q. rw (drop-cons s p 0, c) (turn w p (home h) 40 (drop (suc p) s) (inside h in_comment 0) (q.1 40 (drop (suc p) s) tt) refl ∙ x.reads w h 0 q.0);
  stops = λ i. absurd (omega (arith, x.later, ap place i));
  later = omega (arith, x.later);
  within = x.within;
}

white_step : (h : Home) (p c : ℕ) → white_byte c ≡ true → step deepest p (home h) c ≡ home h
white_step h p c e = rw e

is_gap : (c : ℕ) → white_byte c ≡ true → T (gap_byte c)
is_gap c e = rw e tt

over_white : (s : List ℕ) (p : ℕ) → p < length s → white_byte (get_or s p 0) ≡ true → Stepped s p (Ok (suc p))
over_white s p l b = record {
  reads = λ w h q. rw (drop-cons s p 0) (turn w p (home h) (get_or s p 0) (drop (suc p) s) (home h) (q.1 (get_or s p 0) (drop (suc p) s) (is_gap (get_or s p 0) b)) (white_step h p (get_or s p 0) b));
  stops = λ i. absurd (omega (arith, ap place i));
  later = omega arith;
  within = omega arith;
}

over_none : (s : List ℕ) (p : ℕ) → p < length s → white_byte (get_or s p 0) ≡ false → eqb (get_or s p 0) 40 ≡ false → Stepped s p (Ok p)
over_none s p l b n = record {
  reads = λ w h q. refl;
  stops = λ i. rw (drop-cons s p 0, b, n) tt;
  later = omega arith;
  within = omega arith;
}

steps : (s : List ℕ) (p : ℕ) (e : End) → p < length s → GapStep s p e → Stepped s p e
steps s p e l x = go (eqb (get_or s p 0) 40) (white_byte (get_or s p 0)) refl refl x
  where
    go : (b d : Bool) → eqb (get_or s p 0) 40 ≡ b → white_byte (get_or s p 0) ≡ d
        → cond b (CommentEnd s (suc p) in_comment e) (e ≡ Ok (if d then suc p else p)) → Stepped s p e
    go true d f g y = over_comment s p e l (eqb→eq (get_or s p 0) 40 (rw f tt)) y
    go false true f g y = rw y (over_white s p l g)
    go false false f g y = rw y (over_none s p l g f)

-- the reading from `at` on is the one from i on
pub record SameGap (s : List ℕ) (at i : ℕ) : Type 0 where
  pub reads : (w : Watch) (h : Home) → Passes w h → until w at (home h) (drop at s) ≡ until w i (home h) (drop i s)

module _ {s : List ℕ} {at i : ℕ} (f : SameGap s at i) (m : at ≤ i) (l : i < length s) where
  pub gap_on : {k : ℕ} → GapStep s i (Ok k) → SameGap s at k × (i ≤ k) × (k ≤ length s)
  gap_on {k} x = let y = steps s i (Ok k) l x in (record { reads = λ w h q. f.reads w h q ∙ y.reads w h q }, y.later, y.within)

  pub gap_refused : {e : MailboxError} → GapStep s i (Err e) → GapEnd s at (Err e)
  gap_refused {e} x =
      let y = steps s i (Err e) l x in
      record { reads = λ w h q. f.reads w h q ∙ y.reads w h q; stops = tt; later = omega (arith, y.later); within = y.within }
