-- Refusal 8 is needed: last bytes that are refused tell nothing. In front of them there may stand bytes with which the body has
-- trailers, and others with which it has none (refused_is_open). Assumes nothing.
use mathlib.Core.Bool.{Bool, true, false, true≢false, ◌&&◌, ◌||◌}
use mathlib.Core.List.{List, [], ◌∷◌, ◌++◌, append_assoc}
use mathlib.Core.Path.{◌≡◌, refl, ap, ◌∙◌}
use Prim.Native.Nat.{ℕ, zero, suc, ◌+◌, ◌*◌, ◌≤◌, ◌<◌}
use native.Mathlib.Omega.{arith}
use borrow.Author.Tests.{ne_eqb, le-leb, lt-leb}
use lib.Dec.{T, eqb, leb, ltb}
use lib.ListN.{drop, replicate}
use Rattle.rules.proofs.BodyTrailers.{body_trailers}
use Rattle.rules.specs.Bytes.{bytes, blank_byte, token_byte, gap_byte}
use Rattle.rules.specs.Lines.{Line, lines, text, blank, indented, folds}
use Rattle.rules.specs.Lists.{filled, join}
use Rattle.rules.specs.Paragraph.{recognised, leads, Group, group, grouped, nothing, Body, empty, ended, at_top, under, lead_count, other_count}
use Rattle.rules.specs.Paragraph.{any_recognised, accepts, accepted, parse, signed_off, trailers_of}
use Rattle.rules.specs.Trailer.{named, coloned, trailer_line}
use Rattle.foot.specs.Foot.{foot_enough, settles}
use Rattle.foot.proofs.Settles.{closed, closed_is}

-- ---- what is put in front: n times a line, and a stem, the beginning of a recognised line, with which the torn line goes on

abbrev signed : Line
signed = bytes "Signed-off-by: a\n"

abbrev other : Line
other = bytes "x\n"

abbrev front : Line → ℕ → List ℕ
front c n = join (replicate n c) ++ signed_off

-- c is a whole line, whatever follows
abbrev Complete : Line → Type 0
Complete c = (s : List ℕ) → lines (c ++ s) ≡ c ∷ lines s

repeated_lines : (c : Line) (n : ℕ) (s : List ℕ) → Complete c → lines (join (replicate n c) ++ s) ≡ replicate n c ++ lines s
repeated_lines c zero s w = refl
repeated_lines c (suc n) s w =
    ap lines (append_assoc c (join (replicate n c)) s) ∙ w (join (replicate n c) ++ s) ∙ ap (λ (x : List Line). c ∷ x) (repeated_lines c n s w)

stem_lines : (s : List ℕ) → (l : Line) × (lines (signed_off ++ s) ≡ (signed_off ++ l) ∷ drop 1 (lines s))
stem_lines s = by (lines s) refl
  where
    by : (ls : List Line) → lines s ≡ ls → (l : Line) × (lines (signed_off ++ s) ≡ (signed_off ++ l) ∷ drop 1 ls)
    by [] e = ([], rw e)
    by (l ∷ ls) e = (l, rw e)

-- ---- their tree

-- the paragraph goes up to the body's top and begins with a line that isn't indented; one of its lines is recognised
record Begun (ls : List Line) : Type 0 where
  gs : List Group
  below : List Line
  tree : parse ls ≡ ended nothing (grouped [] gs) below
  one : any_recognised gs ≡ true

stem_blank : (l : Line) → blank (signed_off ++ l) ≡ false
unfolding blank text blank_byte
stem_blank l = refl

stem_folds : (l : Line) → folds (signed_off ++ l) ≡ false
unfolding folds indented blank_byte
stem_folds l = refl

stem_one : (l : Line) (top : List Line) (gs : List Group) → any_recognised (group (signed_off ++ l) top ∷ gs) ≡ true
unfolding recognised
stem_one l top gs = refl

begun : (l : Line) (ls : List Line) → settles ls ≡ false → Begun ((signed_off ++ l) ∷ ls)
begun l ls h = by (parse ls) refl (closed_is ls ∙ h)
  where
    by : (t : Body) → parse ls ≡ t → closed (parse ls) ≡ false → Begun ((signed_off ++ l) ∷ ls)
    by (empty bs) e n = record { gs = group (signed_off ++ l) [] ∷ []; below = bs; tree = rw (e, stem_blank l, stem_folds l); one = stem_one l [] [] }
    by (ended nothing (grouped top gs) bs) e n = record { gs = group (signed_off ++ l) top ∷ gs; below = bs; tree = rw (e, stem_blank l, stem_folds l); one = stem_one l top gs }
    by (ended (at_top b) p bs) e n = absurd (true≢false (rw e at n))
    by (ended (under us m b) p bs) e n = absurd (true≢false (rw e at n))

-- n groups of a line by itself above the others
abbrev above : Line → ℕ → List Group → List Group
above c zero gs = gs
above c (suc n) gs = group c [] ∷ above c n gs

above_tree : (c : Line) (n : ℕ) (ls : List Line) (gs : List Group) (bs : List Line) → blank c ≡ false → folds c ≡ false
    → parse ls ≡ ended nothing (grouped [] gs) bs → parse (replicate n c ++ ls) ≡ ended nothing (grouped [] (above c n gs)) bs
above_tree c zero ls gs bs b f e = e
above_tree c (suc n) ls gs bs b f e = rw (b, above_tree c n ls gs bs b f e, f)

above_one : (c : Line) (n : ℕ) (gs : List Group) → any_recognised gs ≡ true → any_recognised (above c n gs) ≡ true
above_one c zero gs h = h
above_one c (suc n) gs h = by (recognised c) (above_one c n gs h)
  where
    by : (b : Bool) → any_recognised (above c n gs) ≡ true → (b || any_recognised (above c n gs)) ≡ true
    by true h = refl
    by false h = h

-- ---- what they count

signed-leads : (n : ℕ) (gs : List Group) → lead_count (above signed n gs) ≡ n + lead_count gs
unfolding leads recognised
signed-leads zero gs = omega arith
signed-leads (suc n) gs = omega (arith, signed-leads n gs)

signed_others : (n : ℕ) (gs : List Group) → other_count (above signed n gs) ≡ other_count gs
unfolding leads recognised
signed_others zero gs = refl
signed_others (suc n) gs = omega (arith, signed_others n gs)

other-leads : (n : ℕ) (gs : List Group) → lead_count (above other n gs) ≡ lead_count gs
unfolding leads recognised trailer_line named coloned token_byte gap_byte
other-leads zero gs = refl
other-leads (suc n) gs = omega (arith, other-leads n gs)

other_others : (n : ℕ) (gs : List Group) → other_count (above other n gs) ≡ n + other_count gs
unfolding leads recognised trailer_line named coloned token_byte gap_byte
other_others zero gs = omega arith
other_others (suc n) gs = omega (arith, other_others n gs)

few_accepted : (t n : ℕ) → n ≤ 3 * t → accepts t n true ≡ true
few_accepted t n h = by (ltb 0 t && eqb n 0)
  where
    by : (b : Bool) → (b || leb n (3 * t)) ≡ true
    by true = refl
    by false = le-leb n (3 * t) h

many_refused : (t n : ℕ) → 3 * t < n → accepts t n true ≡ false
many_refused t n h = rw (ne_eqb n 0 (λ e. omega arith), lt-leb n (3 * t) h) (by (ltb 0 t))
  where
    by : (b : Bool) → (b && false || false) ≡ false
    by true = refl
    by false = refl

-- ---- the trailers of the bodies that end in the refused bytes

module _ (tail : List ℕ) (h : foot_enough tail false ≡ false) where
  open_below : settles (drop 1 (lines tail)) ≡ false
  unfolding foot_enough
  open_below = h

  bottom : Begun ((signed_off ++ (stem_lines tail).0) ∷ drop 1 (lines tail))
  bottom = begun (stem_lines tail).0 (drop 1 (lines tail)) open_below

  front_tree : (c : Line) (n : ℕ) → Complete c → blank c ≡ false → folds c ≡ false
      → parse (lines (front c n ++ tail)) ≡ ended nothing (grouped [] (above c n bottom.gs)) bottom.below
  front_tree c n w b f =
      let joined : front c n ++ tail ≡ join (replicate n c) ++ (signed_off ++ tail) = append_assoc (join (replicate n c)) signed_off tail in
      let read : lines (front c n ++ tail) ≡ replicate n c ++ ((signed_off ++ (stem_lines tail).0) ∷ drop 1 (lines tail)) =
      ap lines joined ∙ repeated_lines c n (signed_off ++ tail) w ∙ ap (λ (ls : List Line). replicate n c ++ ls) (stem_lines tail).1 in
      ap parse read ∙ above_tree c n ((signed_off ++ (stem_lines tail).0) ∷ drop 1 (lines tail)) bottom.gs bottom.below b f bottom.tree

  abbrev many : ℕ
  many = suc (other_count bottom.gs)

  abbrev more : ℕ
  more = suc (3 * lead_count bottom.gs)

  signed-accepted : accepted (grouped [] (above signed many bottom.gs)) ≡ true
  unfolding accepted
  signed-accepted =
      rw (above_one signed many bottom.gs bottom.one)
      (few_accepted (lead_count (above signed many bottom.gs)) (0 + other_count (above signed many bottom.gs))
      (omega (arith, signed-leads many bottom.gs, signed_others many bottom.gs)))

  other_refused : accepted (grouped [] (above other more bottom.gs)) ≡ false
  unfolding accepted
  other_refused =
      rw (above_one other more bottom.gs bottom.one)
      (many_refused (lead_count (above other more bottom.gs)) (0 + other_count (above other more bottom.gs))
      (omega (arith, other-leads more bottom.gs, other_others more bottom.gs)))

  with_signed : T (filled (trailers_of (front signed many ++ tail)))
  unfolding blank text folds indented blank_byte trailer_line named coloned token_byte gap_byte
  with_signed =
      rw (body_trailers (front signed many ++ tail), front_tree signed many (λ s. refl) refl refl, signed-accepted) tt

  with_others : trailers_of (front other more ++ tail) ≡ []
  unfolding blank text folds indented blank_byte
  with_others =
      body_trailers (front other more ++ tail) ∙ rw (front_tree other more (λ s. refl) refl refl, other_refused)

-- "more bytes needed": with the one front the body has trailers, with the other it has none
pub refused_is_open : (tail : List ℕ) → foot_enough tail false ≡ false
    → (a : List ℕ) × (b : List ℕ) × T (filled (trailers_of (a ++ tail))) × (trailers_of (b ++ tail) ≡ [])
refused_is_open tail h = (front signed (many tail h), front other (more tail h), with_signed tail h, with_others tail h)
