-- Title and body by lines (by_line). Where no line end stands behind the first line, they are those of the rest. Where one
-- stands there, the title ends with the line's text, and the body starts behind that line end. Assumes nothing.
use mathlib.Core.Bool.{Bool, true, false, true≢false}
use mathlib.Core.List.{List, [], ◌∷◌}
use mathlib.Core.Path.{◌≡◌, refl, sym, ap, ◌∙◌}
use Prim.Native.Nat.{ℕ, zero, suc, ◌+◌, ◌-◌, ◌<◌}
use native.Mathlib.Omega.{arith}
use borrow.Author.Tests.{eqb-true, eqb-false, ne_eqb}
use lib.Dec.{eqb}
use lib.ListN.{length, take, drop}
use lib.Seq.{drop-drop}
use Rattle.rules.specs.Bytes.{CR, LF}
use Rattle.rules.specs.Lines.{Line, lines, text}
use Rattle.rules.specs.Lists.{starts}
use Rattle.rules.specs.Title.{body_start, line_end, title_end, two_ends}
use Rattle.rules.proofs.Parts.{rest}
use Rattle.rules.proofs.Title.{body_fits}
use Rattle.rules.proofs.White.{starts_is}
use Rattle.text.specs.Lines.{first_length}
use Rattle.text.proofs.ByLines.{line_length}
use Rattle.text.proofs.Lines.{first_more, first_some}

-- title and body of s, whose first line is l and whose rest is r, by the length of the line end that r begins with
abbrev Placed : List ℕ → Line → List ℕ → ℕ → Type 0
Placed s l r zero = (title_end s ≡ length l + title_end r) × (body_start s ≡ length l + body_start r)
Placed s l r (suc m) = (title_end s ≡ length (text l)) × (body_start s ≡ length l + suc m)

-- the same where the first line has n bytes
abbrev ByLine : List ℕ → ℕ → ℕ → Type 0
ByLine s n m = line_end (drop n s) ≡ m → Placed s (take n s) (drop n s) m

-- ---- byte by byte: the title goes on where no two line ends stand, and ends where they do

body_at : (s : List ℕ) (n : ℕ) → title_end s ≡ n → body_start s ≡ n + two_ends (drop n s)
unfolding body_start
body_at s n e = ap (λ (k : ℕ). k + two_ends (drop k s)) e

pub goes_on : (c : ℕ) (s : List ℕ) → two_ends (c ∷ s) ≡ 0
    → (title_end (c ∷ s) ≡ suc (title_end s)) × (body_start (c ∷ s) ≡ suc (body_start s))
goes_on c s e =
    let t : title_end (c ∷ s) ≡ suc (title_end s) = rw e in
    (t, omega (arith, body_at (c ∷ s) (suc (title_end s)) t, body_at s (title_end s) refl))

ends : (c : ℕ) (s : List ℕ) (k : ℕ) → two_ends (c ∷ s) ≡ suc k → (title_end (c ∷ s) ≡ 0) × (body_start (c ∷ s) ≡ suc k)
ends c s k e =
    let t : title_end (c ∷ s) ≡ 0 = rw (ne_eqb (two_ends (c ∷ s)) 0 (λ z. omega arith)) in
    let b : body_start (c ∷ s) ≡ 0 + two_ends (c ∷ s) = body_at (c ∷ s) 0 t in
    (t, omega arith)

-- ---- the first line is LF or CR LF

pub two_front : (s : List ℕ) (n m : ℕ) → line_end s ≡ suc n → line_end (drop (suc n) s) ≡ m
    → two_ends s ≡ (elim m [ zero ↦ 0 | suc k ↦ suc n + suc k ])
unfolding two_ends
two_front s n m e f = rw (e, two_ends, f)

pub lf_front : (s : List ℕ) → line_end (LF ∷ s) ≡ 1
unfolding line_end
lf_front s = refl

pub crlf_front : (s : List ℕ) → line_end (CR ∷ LF ∷ s) ≡ 2
unfolding line_end
crlf_front s = refl

at_lf : (s : List ℕ) (m : ℕ) → line_end s ≡ m → Placed (LF ∷ s) (LF ∷ []) s m
unfolding text
at_lf s zero e = omega (arith, goes_on LF s (two_front (LF ∷ s) 0 0 (lf_front s) e))
at_lf s (suc m) e = omega (arith, ends LF s (suc m) (two_front (LF ∷ s) 0 (suc m) (lf_front s) e ∙ omega arith))

at_crlf : (s : List ℕ) (m : ℕ) → line_end s ≡ m → Placed (CR ∷ LF ∷ s) (CR ∷ LF ∷ []) s m
unfolding text
at_crlf s zero e = omega (arith, goes_on CR (LF ∷ s) (two_front (CR ∷ LF ∷ s) 1 0 (crlf_front s) e), at_lf s 0 e)
at_crlf s (suc m) e =
    omega (arith, ends CR (LF ∷ s) (suc (suc m)) (two_front (CR ∷ LF ∷ s) 1 (suc m) (crlf_front s) e ∙ omega arith))

-- ---- its first byte belongs to its text

pub no_front : (c : ℕ) (s : List ℕ) → (c ≡ LF → ⊥) → starts (CR ∷ LF ∷ []) (c ∷ s) ≡ false → line_end (c ∷ s) ≡ 0
unfolding line_end
no_front c s n e = rw (e, ne_eqb LF c (λ h. n (sym h)))

pub no_two : (s : List ℕ) → line_end s ≡ 0 → two_ends s ≡ 0
unfolding two_ends
no_two s e = rw (e, two_ends)

text_more : (c d : ℕ) (l : List ℕ) → starts (CR ∷ LF ∷ []) (c ∷ d ∷ l) ≡ false → text (c ∷ d ∷ l) ≡ c ∷ text (d ∷ l)
unfolding text
text_more c d [] e = by (eqb d LF) refl
  where
    by : (b : Bool) → eqb d LF ≡ b → text (c ∷ d ∷ []) ≡ c ∷ text (d ∷ [])
    by true q =
        let h : d ≡ LF = eqb-true d LF q in
        rw (h, ne_eqb c CR (λ z. true≢false (rw (h, z) at e)))
    by false q = rw q
text_more c d (x ∷ l) e = refl

more : (c : ℕ) (s : List ℕ) (n m : ℕ) → line_end (c ∷ s) ≡ 0 → starts (CR ∷ LF ∷ []) (c ∷ s) ≡ false → (0 < length s → 0 < n)
    → Placed s (take n s) (drop n s) m → Placed (c ∷ s) (c ∷ take n s) (drop n s) m
more c s n zero h e f p = omega (arith, goes_on c s (no_two (c ∷ s) h), p)
more c [] n (suc m) h e f p = absurd (omega (arith, p, body_fits []))
more c (d ∷ s) zero (suc m) h e f p = absurd (omega (arith, f (omega arith)))
more c (d ∷ s) (suc n) (suc m) h e f p =
    omega (arith, goes_on c (d ∷ s) (no_two (c ∷ d ∷ s) h), p, ap length (text_more c d (take n s) e))

-- ---- every first line

at_nil : (m : ℕ) → ByLine [] 0 m
unfolding line_end
at_nil zero e = omega arith
at_nil (suc m) e = absurd (omega arith)

by_crlf : (s r : List ℕ) (m : ℕ) → s ≡ CR ∷ LF ∷ r → ByLine s (first_length (lines s)) m
by_crlf s r m h = rw h (at_crlf r m)

by_line : (s : List ℕ) (m : ℕ) → ByLine s (first_length (lines s)) m
by_line [] m = at_nil m
by_line (c ∷ s) m = by (starts (CR ∷ LF ∷ []) (c ∷ s)) refl (eqb c LF) refl (by_line s m)
  where
    by : (a : Bool) → starts (CR ∷ LF ∷ []) (c ∷ s) ≡ a → (b : Bool) → eqb c LF ≡ b → ByLine s (first_length (lines s)) m
        → ByLine (c ∷ s) (first_length (lines (c ∷ s))) m
    by true p b q later = by_crlf (c ∷ s) (drop 2 (c ∷ s)) m (starts_is (CR ∷ LF ∷ []) (c ∷ s) (rw p tt))
    by false p true q later = rw (eqb-true c LF q) (at_lf s m)
    by false p false q later =
        let inside : line_end (c ∷ s) ≡ 0 = no_front c s (eqb-false c LF q) p in
        rw (q, first_more) (λ e. more c s (first_length (lines s)) m inside p (first_some s) (later e))

ended : (s : List ℕ) (l : Line) (r : List ℕ) (m : ℕ) → (m ≡ 0 → ⊥) → Placed s l r m
    → (title_end s ≡ length (text l)) × (body_start s ≡ length l + m)
ended s l r zero z p = absurd (z refl)
ended s l r (suc m) z p = p

-- ---- as it is read: the line from `at` on has n bytes, the line end behind it m

module _ (s : List ℕ) (at n m : ℕ) (h : at < length s) (e : n ≡ first_length (lines (take (length s - at) (drop at s))))
    (f : m ≡ line_end (take (length s - (at + n)) (drop (at + n) s))) where
  placed : Placed (drop at s) (take (at + n - at) (drop at s)) (drop (at + n) s) m
  placed =
      let k : at + n - at ≡ n = omega arith in
      let first : first_length (lines (drop at s)) ≡ n = sym (rw rest at e) in
      let behind : line_end (drop (at + n) s) ≡ m = sym (rw rest at f) in
      let there : ByLine (drop at s) n m = rw first at (by_line (drop at s) m) in
      rw (k, ← drop-drop n at s) (there (rw drop-drop behind))

  pub line_passed : m ≡ 0
      → (title_end (drop at s) ≡ n + title_end (drop (at + n) s)) × (body_start (drop at s) ≡ n + body_start (drop (at + n) s))
  line_passed z = let p = rw z at placed in omega (arith, p, line_length s at n h e)

  pub line_ended : (m ≡ 0 → ⊥)
      → (title_end (drop at s) ≡ length (text (take (at + n - at) (drop at s)))) × (body_start (drop at s) ≡ n + m)
  line_ended z =
      let l : Line = take (at + n - at) (drop at s) in
      omega (arith, ended (drop at s) l (drop (at + n) s) m z placed, line_length s at n h e)
