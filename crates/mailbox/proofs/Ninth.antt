-- A byte that is refused with 15 stands inside as many open comments as are allowed (ninth_inside_eight): a supplement to
-- `Ninth`, which says it by the grammar alone. Assumes nothing.
use Rattle.std.specs.Prelude.{if◌then◌else◌}
use mathlib.Core.Bool.{Bool, true, false}
use mathlib.Core.List.{List, [], ◌∷◌, ◌++◌, append_assoc, append-nil}
use mathlib.Core.Path.{◌≡◌, refl, sym, ap, ◌∙◌}
use Prim.Native.Nat.{ℕ, zero, suc, ◌+◌}
use native.Mathlib.Omega.{arith}
use lib.Dec.{T, eqb, eqb→eq}
use lib.ListN.{length}
use Rattle.mailbox.specs.Grammar.{white_byte, atext, quote_text, comment_text, takes, Inside, refused}
use Rattle.mailbox.specs.Reader.{Home, State, home, atom, quote, quote_taken, text, dotted, inside, inside_taken, dead, names, opened, behind, closed}
use Rattle.mailbox.specs.Reader.{some, sign_of, opening, closing, begin, spaced, step, read, start}
use Rattle.mailbox.proofs.Refusals.{Live, state_after, Fate, falls}

-- behind u, n comments are open at the end of s, one inside the other, and d more may be opened
pub data Open (deep : ℕ) (u : List ℕ) : ℕ → ℕ → List ℕ → Type 0 where
  none : Open deep u 0 deep u
  more : {n d : ℕ} {s i : List ℕ} → Open deep u n (suc d) s → Inside d i → Open deep u (suc n) d (s ++ 40 ∷ i)

open_count : {deep : ℕ} {u : List ℕ} {n d : ℕ} {s : List ℕ} → Open deep u n d s → n + d ≡ deep
open_count none = omega arith
open_count (more o i) = omega (arith, open_count o)

inside_append : {d : ℕ} {i : List ℕ} → Inside d i → {j : List ℕ} → Inside d j → Inside d (i ++ j)
inside_append Inside.empty y = y
inside_append (Inside.text t x) y = Inside.text t (inside_append x y)
inside_append (Inside.taken t x) y = Inside.taken t (inside_append x y)
inside_append (Inside.comment {t = t} {s = s} x z) {j} y = rw (append_assoc t (41 ∷ s) j) (Inside.comment x (inside_append z y))

-- bytes behind the last open bracket
longer : {deep n d : ℕ} {u s j : List ℕ} → Open deep u (suc n) d s → Inside d j → Open deep u (suc n) d (s ++ j)
longer {j = j} (more {s = s} {i = i} o x) y = rw (append_assoc s (40 ∷ i) j) (more o (inside_append x y))

-- a comment closes
closes : {deep n d : ℕ} {u s : List ℕ} → Open deep u (suc (suc n)) d s → Open deep u (suc n) (suc d) (s ++ 41 ∷ [])
closes (more {s = s} {i = i} o x) = rw (append_assoc s (40 ∷ i) (41 ∷ [])) (longer o (Inside.comment x Inside.empty))

module _ (deep : ℕ) where
  -- what a state says of the bytes that led to it
  abbrev Said : List ℕ → State → Type 0
  Said p (home h) = Unit {0}
  Said p (atom from) = Unit {0}
  Said p (quote from) = Unit {0}
  Said p (quote_taken from) = Unit {0}
  Said p (text half from) = Unit {0}
  Said p (dotted half from) = Unit {0}
  Said p (inside h d k) = (u : List ℕ) × Open deep u (suc k) d p
  Said p (inside_taken h d k) = (u : List ℕ) × (q : List ℕ) × (p ≡ q ++ 92 ∷ []) × Open deep u (suc k) d q
  Said p (dead n k) = Unit {0}

  either : (p : List ℕ) (b : Bool) (x y : State) → (T b → Said p x) → Said p y → Said p (if b then x else y)
  either p true x y f g = f tt
  either p false x y f g = g

  first_opens : (p : List ℕ) (at c : ℕ) (h : Home) (d : ℕ) → d ≡ deep → T (eqb c 40) → Said (p ++ c ∷ []) (opening at h d 0)
  first_opens p at c h zero e t = tt
  first_opens p at c h (suc d) e t = (p, rw (eqb→eq c 40 t) (more {n = 0} {d = d} {s = p} (rw e none) Inside.empty))

  inner_opens : (p : List ℕ) (at c : ℕ) (h : Home) (d k : ℕ) → Said p (inside h d k) → T (eqb c 40) → Said (p ++ c ∷ []) (opening at h d (suc k))
  inner_opens p at c h zero k (u, o) t = tt
  inner_opens p at c h (suc d) k (u, o) t = (u, rw (eqb→eq c 40 t) (more o Inside.empty))

  one_closes : (p : List ℕ) (c : ℕ) (h : Home) (d k : ℕ) → Said p (inside h d k) → T (eqb c 41) → Said (p ++ c ∷ []) (closing h d k)
  one_closes p c h d zero (u, o) t = tt
  one_closes p c h d (suc k) (u, o) t = (u, rw (eqb→eq c 41 t) (closes o))

  begins : (p : List ℕ) (at c : ℕ) (h : Home) → Said p (begin at h c)
  begins p at c (names v) = either p (atext c) _ _ (λ t. tt) (either p (eqb c 34) _ _ (λ t. tt) (either p (eqb c 60) _ _ (λ t. tt) tt))
  begins p at c (opened half) = either p (atext c) _ _ (λ t. tt) tt
  begins p at c (behind half from to) = either p (eqb c (sign_of half)) _ _ (λ t. tt) tt
  begins p at c (closed r) = tt

  spaces : (p : List ℕ) (at c : ℕ) (h : Home) → Said (p ++ c ∷ []) (spaced deep at h c)
  spaces p at c h = either (p ++ c ∷ []) (white_byte c) _ _ (λ t. tt) (either (p ++ c ∷ []) (eqb c 40) _ _ (first_opens p at c h deep refl) (begins (p ++ c ∷ []) at c h))

  keeps : (st : State) (p : List ℕ) (at c : ℕ) → Said p st → Said (p ++ c ∷ []) (step deep at st c)
  keeps (home h) p at c x = spaces p at c h
  keeps (atom from) p at c x = either (p ++ c ∷ []) (atext c) _ _ (λ t. tt) (spaces p at c (names (some from at)))
  keeps (quote from) p at c x = either (p ++ c ∷ []) (quote_text c) _ _ (λ t. tt) (either (p ++ c ∷ []) (eqb c 34) _ _ (λ t. tt) (either (p ++ c ∷ []) (eqb c 92) _ _ (λ t. tt) tt))
  keeps (quote_taken from) p at c x = either (p ++ c ∷ []) (takes c) _ _ (λ t. tt) tt
  keeps (text half from) p at c x = either (p ++ c ∷ []) (atext c) _ _ (λ t. tt) (either (p ++ c ∷ []) (eqb c 46) _ _ (λ t. tt) (spaces p at c (behind half from at)))
  keeps (dotted half from) p at c x = either (p ++ c ∷ []) (atext c) _ _ (λ t. tt) tt
  keeps (inside h d k) p at c x = either (p ++ c ∷ []) (comment_text c) _ _ (λ t. (x.0, longer x.1 (Inside.text t Inside.empty)))
      (either (p ++ c ∷ []) (eqb c 41) _ _ (one_closes p c h d k x)
      (either (p ++ c ∷ []) (eqb c 92) _ _ (λ t. (x.0, p, ap (λ (b : ℕ). p ++ b ∷ []) (eqb→eq c 92 t), x.1))
      (either (p ++ c ∷ []) (eqb c 40) _ _ (inner_opens p at c h d k x) tt)))
  keeps (inside_taken h d k) p at c (u, q, e, o) = either (p ++ c ∷ []) (takes c) _ _
      (λ t. (u, rw (e, append_assoc q (92 ∷ []) (c ∷ [])) (longer o (Inside.taken t Inside.empty)))) tt
  keeps (dead n k) p at c x = tt

  leads : (s p : List ℕ) (at : ℕ) (st : State) → Said p st → Said (p ++ s) (state_after deep at st s)
  leads [] p at st x = rw (append-nil p) x
  leads (c ∷ s) p at st x = rw (append_assoc p (c ∷ []) s) at (leads s (p ++ c ∷ []) (suc at) (step deep at st c) (keeps st p at c x))

-- only inside a comment in which none may be opened is a bracket too deep
Bottom : State → Type 0
Bottom st = (h : Home) × (n : ℕ) × (st ≡ inside h 0 n)

too_deep_there : (d : ℕ) (st : State) (at p : ℕ) → Live st → step (suc d) at st 40 ≡ dead 15 p → Bottom st
unfolding Bottom white_byte atext quote_text comment_text takes
too_deep_there d (home h) at p l e = absurd (let z : ◌≡◌ {A = ℕ} 0 1 = cc in omega arith)
too_deep_there d (atom from) at p l e = absurd (let z : ◌≡◌ {A = ℕ} 0 1 = cc in omega arith)
too_deep_there d (quote from) at p l e = absurd (let z : ◌≡◌ {A = ℕ} 0 1 = cc in omega arith)
too_deep_there d (quote_taken from) at p l e = absurd (let z : ◌≡◌ {A = ℕ} 0 1 = cc in omega arith)
too_deep_there d (text half from) at p l e = absurd (let z : ◌≡◌ {A = ℕ} 0 1 = cc in omega arith)
too_deep_there d (dotted half from) at p l e = absurd (let z : ◌≡◌ {A = ℕ} 0 1 = cc in omega arith)
too_deep_there d (inside h zero k) at p l e = (h, k, refl)
too_deep_there d (inside h (suc c) k) at p l e = absurd (let z : ◌≡◌ {A = ℕ} 0 1 = cc in omega arith)
too_deep_there d (inside_taken h c k) at p l e = absurd (let z : ◌≡◌ {A = ℕ} 0 1 = cc in omega arith)
too_deep_there d (dead n k) at p l e = absurd l

fate_15 : (d : ℕ) (to : State) (k n : ℕ) (s : List ℕ) → n ≡ 15 → Fate (suc d) to k n s → Live to → Bottom to × ((t : List ℕ) × (s ≡ 40 ∷ t))
fate_15 d to k n s z Fate.at_end l = absurd (omega arith)
fate_15 d to k n s z (Fate.stuck e f) l = absurd (omega arith)
fate_15 d to k n s z (Fate.too_deep {s = t} e f) l = (too_deep_there d to k k l e, (t, refl))

pub ninth_inside_eight : (d : ℕ) (s : List ℕ) (k : ℕ) → read (suc d) 0 start s ≡ refused 15 k
    → (u : List ℕ) × (before : List ℕ) × (after : List ℕ) × (s ≡ before ++ 40 ∷ after) × (k ≡ length before) × Open (suc d) u (suc d) 0 before
unfolding Bottom
ninth_inside_eight d s k e =
    let f = falls (suc d) s 0 start 15 k tt e in
    let ((h, n, i), (t, j)) = fate_15 d f.to k 15 f.after refl f.fate f.live in
    let said : Said (suc d) f.before (inside h 0 n) = rw (sym f.state ∙ i) at (leads (suc d) f.before [] 0 start tt) in
    let (u, o) = said in
    let m : suc n ≡ suc d = omega (arith, open_count o) in
    (u, f.before, t, f.reads ∙ ap (λ (z : List ℕ). f.before ++ z) j, omega (arith, f.place), rw m at o)
