-- What stands at the front of an input, read byte by byte as RFC 3629 lays it out, and which length of form is found there once
-- the table has been asked: the laws that `decode` and `white_len` go by. Assumes nothing.
use Rattle.std.specs.Prelude.{Option, None, Some}
use mathlib.Core.Bool.{Bool, true, false, false≢true}
use mathlib.Core.List.{List, [], ◌∷◌, ◌++◌, map}
use mathlib.Core.Logic.{inl, inr}
use mathlib.Core.Path.{◌≡◌, refl, sym, ap, ◌∙◌}
use Prim.Native.Nat.{ℕ, ◌+◌, ◌-◌, ◌*◌, ◌/◌, ◌%◌, ◌≤◌, ◌<◌}
use native.Mathlib.Decide.{dec_lt}
use native.Mathlib.Omega.{arith}
use borrow.Author.Tests.{lt-ltb, le-ltb, le-leb, lt-leb, ne_eqb}
use lib.Dec.{T, eqb, eqb→eq, eqb_refl}
use lib.ListN.{length, take, drop, get_or, length-drop}
use Rattle.rules.specs.Lists.{any, equal}
use Rattle.rules.specs.White.{white_space, utf8, forms, form_at}
use Rattle.rules.proofs.Lists.{equal_is, is_true, or_cases, or_left, or_right}
use Rattle.rules.proofs.White.{form, bare, equal_self, form_at_lem, form_length}
use Rattle.white.proofs.Forms.{part_front}
use Rattle.white.proofs.Table.{entry_low, high_part, low_part}
use Rattle.white.specs.White.{carries, Decoded, point, none, last_form}
use Rattle.white.specs.declared.CodePoint.{CodePoint}

-- ---- continuation bytes

pub carries_within : (b : ℕ) → 0x80 ≤ b → b ≤ 0xbf → carries b ≡ Some (b - 0x80)
carries_within b h k = rw (le-leb 0x80 b h, le-leb b 0xbf k)

pub carries_none : (b : ℕ) → carries b ≡ None → 0x80 ≤ b → b ≤ 0xbf → ⊥
carries_none b e h k = cc (carries_within b h k)

pub carries_some : (b x : ℕ) → carries b ≡ Some x → (0x80 ≤ b) × (b ≤ 0xbf) × (x ≡ b - 0x80)
carries_some b x e =
    elim (dec_lt b 0x80) [
      | yes k ↦ absurd (let n : carries b ≡ None = rw (lt-leb 0x80 b k) in cc)
      | no k ↦ elim (dec_lt 0xbf b) [
        | yes j ↦ absurd (let n : carries b ≡ None = rw (le-leb 0x80 b (omega arith), lt-leb b 0xbf j) in cc)
        | no j ↦ (let t : Some x ≡ Some (b - 0x80) = sym e ∙ carries_within b (omega arith) (omega arith) in (omega arith, omega arith, cc))
      ]
    ]

-- ---- the three lengths of form

utf8_one : (c : ℕ) → c < 0x80 → utf8 c ≡ c ∷ []
utf8_one c h = rw (lt-ltb c 0x80 h)

utf8_two : (c : ℕ) → 0x80 ≤ c → c < 0x800 → utf8 c ≡ (0xc0 + c / 0x40) ∷ (0x80 + c % 0x40) ∷ []
utf8_two c h k = rw (le-ltb c 0x80 h, lt-ltb c 0x800 k)

utf8_three : (c : ℕ) → 0x800 ≤ c → utf8 c ≡ (0xe0 + c / 0x1000) ∷ (0x80 + c / 0x40 % 0x40) ∷ (0x80 + c % 0x40) ∷ []
utf8_three c h = rw (le-ltb c 0x80 (omega arith), le-ltb c 0x800 h)

-- a continuation byte
abbrev Tail : ℕ → Type 0
Tail b = (0x80 ≤ b) × (b ≤ 0xbf)

-- the form of `c` stands at the front of `s`, byte by byte
data Begins (s : List ℕ) (c : ℕ) : Type 0 where
  one : 1 ≤ length s → get_or s 0 0 < 0x80 → c ≡ get_or s 0 0 → Begins s c
  two : 2 ≤ length s → 0xc2 ≤ get_or s 0 0 → get_or s 0 0 < 0xe0 → Tail (get_or s 1 0) →
      c ≡ (get_or s 0 0 - 0xc0) * 64 + (get_or s 1 0 - 0x80) → Begins s c
  three : 3 ≤ length s → 0xe0 ≤ get_or s 0 0 → get_or s 0 0 ≤ 0xef → Tail (get_or s 1 0) → Tail (get_or s 2 0) →
      0x800 ≤ c → c ≡ (get_or s 0 0 - 0xe0) * 4096 + (get_or s 1 0 - 0x80) * 64 + (get_or s 2 0 - 0x80) → Begins s c

begins : (s rest : List ℕ) (c : ℕ) → c < 0x10000 → s ≡ utf8 c ++ rest → Begins s c
begins s rest c h e =
    elim (dec_lt c 0x80) [
      | yes k ↦ rw (e, utf8_one c k) (one (omega arith) k refl)
      | no k ↦ elim (dec_lt c 0x800) [
        | yes j ↦ rw (e, utf8_two c (omega arith) j) (two (omega arith) (omega arith) (omega arith) (omega arith) (omega arith))
        | no j ↦
            rw (e, utf8_three c (omega arith)) (three (omega arith) (omega arith) (omega arith) (omega arith) (omega arith) (omega arith) (omega arith))
      ]
    ]

begins_unique : {s : List ℕ} {c d : ℕ} → Begins s c → Begins s d → c ≡ d
begins_unique (one l a e) (one m b q) = omega arith
begins_unique (one l a e) (two m b j x q) = omega arith
begins_unique (one l a e) (three m b j x y k q) = omega arith
begins_unique (two l a h t e) (one m b q) = omega arith
begins_unique (two l a h t e) (two m b j x q) = omega arith
begins_unique (two l a h t e) (three m b j x y k q) = omega arith
begins_unique (three l a h t u o e) (one m b q) = omega arith
begins_unique (three l a h t u o e) (two m b j x q) = omega arith
begins_unique (three l a h t u o e) (three m b j x y k q) = omega arith

-- ---- what `decode` answers

pub no_two : (s : List ℕ) → 0x80 ≤ get_or s 0 0 → get_or s 0 0 < 0xe0 → (2 ≤ length s → 0xc2 ≤ get_or s 0 0 → Tail (get_or s 1 0) → ⊥)
    → Decoded s None
no_two s h k n =
    none (λ c rest m e. elim (begins s rest c m e) [ one l a q ↦ omega arith | two l a j t q ↦ n l a t | three l a j t u o q ↦ omega arith ])

pub no_three : (s : List ℕ) → 0xe0 ≤ get_or s 0 0 →
    (3 ≤ length s → get_or s 0 0 ≤ 0xef → Tail (get_or s 1 0) → Tail (get_or s 2 0) →
    0x800 ≤ (get_or s 0 0 - 0xe0) * 4096 + (get_or s 1 0 - 0x80) * 64 + (get_or s 2 0 - 0x80) → ⊥) → Decoded s None
no_three s h n =
    none (λ c rest m e. elim (begins s rest c m e) [
      | one l a q ↦ omega arith
      | two l a j t q ↦ omega arith
      | three l a j t u o q ↦ n l j t u (omega arith)
    ])

pub one_read : (s : List ℕ) → 1 ≤ length s → get_or s 0 0 < 0x80 → Decoded s (Some (record { code = get_or s 0 0; len = 1 }))
one_read [] l h = absurd (omega arith)
one_read (a ∷ s) l h = point (record { code = a; len = 1 }) s (omega arith) (rw (utf8_one a h)) (rw (utf8_one a h))

pub two_read : (s : List ℕ) (x code : ℕ) → 2 ≤ length s → 0xc2 ≤ get_or s 0 0 → get_or s 0 0 < 0xe0 → carries (get_or s 1 0) ≡ Some x →
    code ≡ (get_or s 0 0 - 0xc0) * 64 + x → Decoded s (Some (record { code = code; len = 2 }))
two_read [] x c l h k t e = absurd (omega arith)
two_read (a ∷ []) x c l h k t e = absurd (omega arith)
two_read (a ∷ b ∷ s) x c l h k t e =
    let i = carries_some b x t in
    let u : utf8 c ≡ (0xc0 + c / 0x40) ∷ (0x80 + c % 0x40) ∷ [] = utf8_two c (omega arith) (omega arith) in
    let p : 0xc0 + c / 0x40 ≡ a = omega arith in
    let q : 0x80 + c % 0x40 ≡ b = omega arith in
    let r : utf8 c ≡ a ∷ b ∷ [] = u ∙ cc in
    point (record { code = c; len = 2 }) s (omega arith) (rw r) (rw r)

pub three_read : (s : List ℕ) (x y code : ℕ) → 3 ≤ length s → 0xe0 ≤ get_or s 0 0 → get_or s 0 0 ≤ 0xef → carries (get_or s 1 0) ≡ Some x →
    carries (get_or s 2 0) ≡ Some y → 0x800 ≤ code → code ≡ (get_or s 0 0 - 0xe0) * 4096 + x * 64 + y →
    Decoded s (Some (record { code = code; len = 3 }))
three_read [] x y c l h k t u o e = absurd (omega arith)
three_read (a ∷ []) x y c l h k t u o e = absurd (omega arith)
three_read (a ∷ b ∷ []) x y c l h k t u o e = absurd (omega arith)
three_read (a ∷ b ∷ d ∷ s) x y c l h k t u o e =
    let i = carries_some b x t in
    let j = carries_some d y u in
    let p : 0xe0 + c / 0x1000 ≡ a = omega arith in
    let q : 0x80 + c / 0x40 % 0x40 ≡ b = omega arith in
    let r : 0x80 + c % 0x40 ≡ d = omega arith in
    let f : utf8 c ≡ a ∷ b ∷ d ∷ [] = utf8_three c o ∙ cc in
    point (record { code = c; len = 3 }) s (omega arith) (rw f) (rw f)

-- one code point is decoded, and one length
pub decoded_unique : (s : List ℕ) (found other : Option CodePoint) → Decoded s found → Decoded s other → found ≡ other
decoded_unique s (Some p) (Some q) (point _ r h e k) (point _ t j f n) =
    let same : p.code ≡ q.code = begins_unique (begins s r p.code h e) (begins s t q.code j f) in
    let long : p.len ≡ q.len = k ∙ rw same (sym n) in
    ap (λ (c : ℕ). made c p.len) same ∙ ap (λ (l : ℕ). made q.code l) long
  where
    made : ℕ → ℕ → Option CodePoint
    made c l = Some (record { code = c; len = l })
decoded_unique s (Some p) None (point _ r h e k) (none n) = absurd (n p.code r h e)
decoded_unique s None (Some q) (none n) (point _ t j f k) = absurd (n q.code t j f)
decoded_unique s None None (none n) (none o) = refl

-- ---- which of them the table has

listed : (c : ℕ) (cs : List ℕ) → T (any (eqb c) cs) → T (any (equal (utf8 c)) (map utf8 cs))
listed c [] t = absurd t
listed c (x ∷ cs) t =
    elim (or_cases (eqb c x) (any (eqb c) cs) t) [
      | inl e ↦ or_left (equal (utf8 c) (utf8 x)) (any (equal (utf8 c)) (map utf8 cs)) (rw (eqb→eq c x e) (equal_self (utf8 x)))
      | inr m ↦ or_right (equal (utf8 c) (utf8 x)) (any (equal (utf8 c)) (map utf8 cs)) (listed c cs m)
    ]

-- a form is that of an entry
entry_of : (f : List ℕ) (cs : List ℕ) → T (any (equal f) (map utf8 cs)) → (c : ℕ) × (f ≡ utf8 c) × T (any (eqb c) cs)
entry_of f [] t = absurd t
entry_of f (x ∷ cs) t =
    elim (or_cases (equal f (utf8 x)) (any (equal f) (map utf8 cs)) t) [
      | inl e ↦ (x, equal_is f (utf8 x) e, or_left (eqb x x) (any (eqb x) cs) (eqb_refl x))
      | inr m ↦ (let (c, e, u) = entry_of f cs m in (c, e, or_right (eqb c x) (any (eqb c) cs) u))
    ]

-- the code point at the front is in the table: its form's length is that of the form at the front
pub found : (s : List ℕ) (p : CodePoint) → Decoded s (Some p) → any (eqb p.code) white_space ≡ true → p.len ≡ form_at s
unfolding forms
found s p (point _ rest h e l) t = l ∙ rw e (sym (form_length (utf8 p.code) rest (listed p.code white_space (rw t tt))))

-- it is not: no form is at the front
pub passed : (s : List ℕ) (p : CodePoint) → Decoded s (Some p) → any (eqb p.code) white_space ≡ false → 0 ≡ form_at s
unfolding forms
passed s p (point _ r h e l) t =
    elim (form_at_lem s) [
      | form f rest m k n ↦ (
          let (c, q, u) = entry_of f white_space m in
          let same : c ≡ p.code = begins_unique (begins s rest c (entry_low c u) (rw q at k)) (begins s r p.code h e) in
          absurd (false≢true (sym t ∙ rw (← same) (is_true (any (eqb c) white_space) u)))
          )
      | bare b z ↦ sym z
    ]

-- no code point is there: no form is
pub none_passed : (s : List ℕ) → Decoded s None → 0 ≡ form_at s
unfolding forms
none_passed s (none n) =
    elim (form_at_lem s) [
      | form f rest m k l ↦ (let (c, q, u) = entry_of f white_space m in absurd (n c rest (entry_low c u) (rw q at k)))
      | bare b z ↦ sym z
    ]

-- which entries are in question for a code point whose form does not begin below 0x80
pub wide_part : (s : List ℕ) (p : CodePoint) → 0x80 ≤ get_or s 0 0 → Decoded s (Some p) →
    any (eqb p.code) (take 19 (drop 6 white_space)) ≡ any (eqb p.code) white_space
wide_part s p h (point _ rest k e l) =
    elim (begins s rest p.code k e) [
      | one l a q ↦ absurd (omega arith)
      | two l a j t q ↦ high_part p.code (omega arith)
      | three l a j t v o q ↦ high_part p.code (omega arith)
    ]

-- a byte below 0x80 is a form by itself or begins none
pub low_found : (s : List ℕ) → 1 ≤ length s → get_or s 0 0 < 0x80 → any (eqb (get_or s 0 0)) (take 6 (drop 0 white_space)) ≡ true → 1 ≡ form_at s
low_found s l h t = found s _ (one_read s l h) (sym (low_part (get_or s 0 0) h) ∙ t)

pub low_passed : (s : List ℕ) → 1 ≤ length s → get_or s 0 0 < 0x80 → any (eqb (get_or s 0 0)) (take 6 (drop 0 white_space)) ≡ false → 0 ≡ form_at s
low_passed s l h t = passed s _ (one_read s l h) (sym (low_part (get_or s 0 0) h) ∙ t)

-- so it begins no form of more bytes
pub low_front : (s : List ℕ) → 1 ≤ length s → get_or s 0 0 < 0x80 → form_at s ≤ 1
low_front s l h = at (any (eqb (get_or s 0 0)) white_space) refl
  where
    at : (b : Bool) → any (eqb (get_or s 0 0)) white_space ≡ b → form_at s ≤ 1
    at true e = omega (arith, found s _ (one_read s l h) e)
    at false e = omega (arith, passed s _ (one_read s l h) e)

pub low_begins : (s : List ℕ) (k : ℕ) → 2 ≤ k → k ≤ length s → get_or s (length s - k) 0 < 0x80 → last_form k s ≡ false
low_begins s k h l a =
    let t : List ℕ = drop (length s - k) s in
    let b : get_or t 0 0 < 0x80 = rw (part_front s (length s - k)) a in
    ne_eqb (form_at t) k (λ e. omega (arith, low_front t (simp length-drop (omega arith)) b))
