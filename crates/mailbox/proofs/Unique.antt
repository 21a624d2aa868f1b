-- A mailbox has one derivation: its pieces are determined (one_derivation). Assumes nothing.
use mathlib.Core.Bool.{Bool, not, ◌||◌}
use mathlib.Core.List.{List, [], ◌∷◌, ◌++◌, append_assoc, append-nil}
use mathlib.Core.Path.{◌≡◌, refl, sym, ap, ◌∙◌}
use Prim.Native.Nat.{ℕ}
use native.Mathlib.Omega.{arith}
use lib.Dec.{T, eqb}
use Rattle.rules.specs.Lists.{All, Stops}
use Rattle.mailbox.specs.Grammar.{white_byte, atext, quote_text, comment_text, Inside, Gap, Atom, DotAtom, Quoted, Word, Words, Names, Ranges, Mailbox, words_in, names_in, pieces}
use Rattle.mailbox.proofs.Accepts.{gap_stops}
use Rattle.rules.proofs.Lists.{clash, is_true, is_false, run_unique}
use Rattle.mailbox.proofs.Tests.{differs, atext_not_white, white_not_atext}

heads : {a b : ℕ} {x y : List ℕ} → a ∷ x ≡ b ∷ y → a ≡ b
heads e = cc

tails : {a b : ℕ} {x y : List ℕ} → a ∷ x ≡ b ∷ y → x ≡ y
tails e = cc

-- a byte of a class is not k, which is none
no : (p : ℕ → Bool) (c k : ℕ) {x y : List ℕ} → T (p c) → T (not (p k)) → c ∷ x ≡ k ∷ y → ⊥
no p c k t n e = clash p c k t n (heads e)

-- ---- comments and gaps

inside_same : {d e : ℕ} {i j : List ℕ} → Inside d i → Inside e j → (x y : List ℕ) → i ++ 41 ∷ x ≡ j ++ 41 ∷ y → (i ≡ j) × (x ≡ y)
unfolding comment_text white_byte
inside_same Inside.empty Inside.empty x y q = (refl, tails q)
inside_same Inside.empty (Inside.text {c = c} t i) x y q = absurd (no comment_text c 41 t tt (sym q))
inside_same Inside.empty (Inside.taken t i) x y q = absurd (omega (arith, heads q))
inside_same Inside.empty (Inside.comment i j) x y q = absurd (omega (arith, heads q))
inside_same (Inside.text {c = c} t i) Inside.empty x y q = absurd (no comment_text c 41 t tt q)
inside_same (Inside.text {c = c} t i) (Inside.text {c = b} u j) x y q =
    let e : c ≡ b = heads q in
    let (f, g) = inside_same i j x y (tails q) in
    (cc, g)
inside_same (Inside.text {c = c} t i) (Inside.taken u j) x y q = absurd (no comment_text c 92 t tt q)
inside_same (Inside.text {c = c} t i) (Inside.comment j k) x y q = absurd (no comment_text c 40 t tt q)
inside_same (Inside.taken t i) Inside.empty x y q = absurd (omega (arith, heads q))
inside_same (Inside.taken t i) (Inside.text {c = c} u j) x y q = absurd (no comment_text c 92 u tt (sym q))
inside_same (Inside.taken {c = c} t i) (Inside.taken {c = b} u j) x y q =
    let e : c ≡ b = heads (tails q) in
    let (f, g) = inside_same i j x y (tails (tails q)) in
    (cc, g)
inside_same (Inside.taken t i) (Inside.comment j k) x y q = absurd (omega (arith, heads q))
inside_same (Inside.comment i j) Inside.empty x y q = absurd (omega (arith, heads q))
inside_same (Inside.comment i j) (Inside.text {c = c} u k) x y q = absurd (no comment_text c 40 u tt (sym q))
inside_same (Inside.comment i j) (Inside.taken u k) x y q = absurd (omega (arith, heads q))
inside_same (Inside.comment {t = t} {s = s} i j) (Inside.comment {t = u} {s = v} k l) x y q =
    let (f, g) = inside_same i k (s ++ 41 ∷ x) (v ++ 41 ∷ y) (sym (append_assoc t (41 ∷ s) (41 ∷ x)) ∙ tails q ∙ append_assoc u (41 ∷ v) (41 ∷ y)) in
    let (h, m) = inside_same j l x y g in
    (cc, m)

abbrev gap_byte : ℕ → Bool
gap_byte c = white_byte c || eqb c 40

white_byte_gap : (c : ℕ) → T (white_byte c) → T (gap_byte c)
white_byte_gap c t = rw (is_true (white_byte c) t) tt

gap_same : {d e : ℕ} {g h : List ℕ} → Gap d g → Gap e h → (x y : List ℕ) → Stops gap_byte x → Stops gap_byte y → g ++ x ≡ h ++ y → (g ≡ h) × (x ≡ y)
unfolding white_byte
gap_same Gap.empty Gap.empty x y a b q = (refl, q)
gap_same Gap.empty (Gap.white {c = c} t h) [] y a b q = (cc, cc)
gap_same Gap.empty (Gap.white {c = c} t h) (z ∷ x) y a b q = absurd (no gap_byte c z (white_byte_gap c t) a (sym q))
gap_same Gap.empty (Gap.comment i h) [] y a b q = (cc, cc)
gap_same Gap.empty (Gap.comment i h) (z ∷ x) y a b q = absurd (no gap_byte 40 z tt a (sym q))
gap_same (Gap.white {c = c} t g) Gap.empty x [] a b q = (cc, cc)
gap_same (Gap.white {c = c} t g) Gap.empty x (z ∷ y) a b q = absurd (no gap_byte c z (white_byte_gap c t) b q)
gap_same (Gap.white {c = c} t g) (Gap.white {c = k} u h) x y a b q =
    let e : c ≡ k = heads q in
    let (f, m) = gap_same g h x y a b (tails q) in
    (cc, m)
gap_same (Gap.white {c = c} t g) (Gap.comment i h) x y a b q = absurd (no white_byte c 40 t tt q)
gap_same (Gap.comment i g) Gap.empty x [] a b q = (cc, cc)
gap_same (Gap.comment i g) Gap.empty x (z ∷ y) a b q = absurd (no gap_byte 40 z tt b q)
gap_same (Gap.comment i g) (Gap.white {c = c} t h) x y a b q = absurd (no white_byte c 40 t tt (sym q))
gap_same (Gap.comment {t = t} {s = s} i g) (Gap.comment {t = u} {s = v} j h) x y a b q =
    let (f, m) = inside_same i j (s ++ x) (v ++ y) (sym (append_assoc t (41 ∷ s) x) ∙ tails q ∙ append_assoc u (41 ∷ v) y) in
    let (k, l) = gap_same g h x y a b m in
    (cc, l)

-- ---- words

quoted_same : {p q : List ℕ} → Quoted p → Quoted q → (x y : List ℕ) → p ++ 34 ∷ x ≡ q ++ 34 ∷ y → (p ≡ q) × (x ≡ y)
unfolding quote_text white_byte
quoted_same Quoted.empty Quoted.empty x y e = (refl, tails e)
quoted_same Quoted.empty (Quoted.text {c = c} t q) x y e = absurd (no quote_text c 34 t tt (sym e))
quoted_same Quoted.empty (Quoted.taken t q) x y e = absurd (omega (arith, heads e))
quoted_same (Quoted.text {c = c} t p) Quoted.empty x y e = absurd (no quote_text c 34 t tt e)
quoted_same (Quoted.text {c = c} t p) (Quoted.text {c = b} u q) x y e =
    let i : c ≡ b = heads e in
    let (f, g) = quoted_same p q x y (tails e) in
    (cc, g)
quoted_same (Quoted.text {c = c} t p) (Quoted.taken u q) x y e = absurd (no quote_text c 92 t tt e)
quoted_same (Quoted.taken t p) Quoted.empty x y e = absurd (omega (arith, heads e))
quoted_same (Quoted.taken t p) (Quoted.text {c = c} u q) x y e = absurd (no quote_text c 92 u tt (sym e))
quoted_same (Quoted.taken {c = c} t p) (Quoted.taken {c = b} u q) x y e =
    let i : c ≡ b = heads (tails e) in
    let (f, g) = quoted_same p q x y (tails (tails e)) in
    (cc, g)

atom_all : {a : List ℕ} → Atom a → All atext a
atom_all (Atom.last t) = (t, tt)
atom_all (Atom.more t a) = (t, atom_all a)

-- an atom begins with none that is no text
atom_begins : {a : List ℕ} → Atom a → (k : ℕ) (x y : List ℕ) → T (not (atext k)) → a ++ x ≡ k ∷ y → ⊥
atom_begins (Atom.last {c = c} t) k x y n e = no atext c k t n e
atom_begins (Atom.more {c = c} t a) k x y n e = no atext c k t n e

word_same : {w v b c : List ℕ} → Word w b → Word v c → w ++ b ≡ v ++ c → (w ≡ v) × (b ≡ c)
unfolding atext
word_same {w} {v} {b} {c} (Word.atom x n) (Word.atom y m) e = run_unique atext w b v c (atom_all x) n (atom_all y) m e
word_same {b = b} {c = c} (Word.atom x n) (Word.quoted {q = q} y) e = absurd (atom_begins x 34 b ((q ++ 34 ∷ []) ++ c) tt e)
word_same {b = b} {c = c} (Word.quoted {q = q} x) (Word.atom y m) e = absurd (atom_begins y 34 c ((q ++ 34 ∷ []) ++ b) tt (sym e))
word_same {b = b} {c = c} (Word.quoted {q = p} x) (Word.quoted {q = q} y) e =
    let (f, g) = quoted_same x y b c (sym (append_assoc p (34 ∷ []) b) ∙ tails e ∙ append_assoc q (34 ∷ []) c) in
    (cc, g)

atext_no_gap : (c : ℕ) → T (atext c) → T (not (gap_byte c))
unfolding atext
atext_no_gap c t = rw (atext_not_white c t, differs atext c 40 t tt) tt

word_stops : {w b : List ℕ} → Word w b → (y : List ℕ) → Stops gap_byte (w ++ y)
unfolding white_byte
word_stops (Word.atom (Atom.last {c = c} t) n) y = atext_no_gap c t
word_stops (Word.atom (Atom.more {c = c} t a) n) y = atext_no_gap c t
word_stops (Word.quoted x) y = tt

word_not_less : {w b : List ℕ} → Word w b → (y z : List ℕ) → w ++ y ≡ 60 ∷ z → ⊥
unfolding atext
word_not_less (Word.atom a n) y z e = atom_begins a 60 y z tt e
word_not_less (Word.quoted x) y z e = absurd (omega (arith, heads e))

words_stop : {deep : ℕ} {ws b : List ℕ} → Words deep ws b → (y : List ℕ) → Stops gap_byte (ws ++ y)
words_stop (Words.one x) y = word_stops x y
words_stop (Words.more {w = w} {gap = g} {ws = ws} x i z) y = rw (append_assoc w (g ++ ws) y) (word_stops x ((g ++ ws) ++ y))

words_not_less : {deep : ℕ} {ws b : List ℕ} → Words deep ws b → (y z : List ℕ) → ws ++ y ≡ 60 ∷ z → ⊥
words_not_less (Words.one x) y z e = word_not_less x y z e
words_not_less (Words.more {w = w} {gap = g} {ws = ws} x i s) y z e = word_not_less x ((g ++ ws) ++ y) z (sym (append_assoc w (g ++ ws) y) ∙ e)

apart : (w g ws b : List ℕ) → (w ++ (g ++ ws)) ++ b ≡ w ++ (g ++ (ws ++ b))
apart w g ws b = append_assoc w (g ++ ws) b ∙ ap (λ (z : List ℕ). w ++ z) (append_assoc g ws b)

words_same : {deep : ℕ} {ws vs b c : List ℕ} (x : Words deep ws b) (y : Words deep vs c) (g h t u : List ℕ) → Gap deep g → Gap deep h
    → b ≡ g ++ 60 ∷ t → c ≡ h ++ 60 ∷ u → ws ++ b ≡ vs ++ c → (words_in x ≡ words_in y) × (b ≡ c)
unfolding white_byte
words_same (Words.one {w = w} x) (Words.one {w = v} y) g h t u i j p q e =
    let (f, k) = word_same x y e in
    (cc, k)
words_same {b = b} {c = c} (Words.one {w = w} x) (Words.more {w = v} {gap = m} {ws = vs} y n z) g h t u i j p q e =
    let (f, k) = word_same x y (e ∙ apart v m vs c) in
    let (l, o) = gap_same i n (60 ∷ t) (vs ++ c) tt (words_stop z c) (sym p ∙ k) in
    absurd (words_not_less z c t (sym o))
words_same {b = b} {c = c} (Words.more {w = v} {gap = m} {ws = vs} y n z) (Words.one {w = w} x) g h t u i j p q e =
    let (f, k) = word_same y x (sym (apart v m vs b) ∙ e) in
    let (l, o) = gap_same n j (vs ++ b) (60 ∷ u) (words_stop z b) tt (k ∙ q) in
    absurd (words_not_less z b u o)
words_same {b = b} {c = c} (Words.more {w = w} {gap = m} {ws = ws} x n z) (Words.more {w = v} {gap = o} {ws = vs} y r s) g h t u i j p q e =
    let (f, k) = word_same x y (sym (apart w m ws b) ∙ e ∙ apart v o vs c) in
    let (l, a) = gap_same n r (ws ++ b) (vs ++ c) (words_stop z b) (words_stop s c) k in
    let (d, a') = words_same z s g h t u i j p q a in
    (cc, a')

names_stop : {deep : ℕ} {ws g t : List ℕ} → Names deep ws g (60 ∷ t) → Stops gap_byte (ws ++ (g ++ 60 ∷ t))
unfolding white_byte
names_stop Names.none = tt
names_stop {g = g} {t = t} (Names.some x y) = words_stop x (g ++ 60 ∷ t)

names_same : {deep : ℕ} {ws vs g h t u : List ℕ} (x : Names deep ws g (60 ∷ t)) (y : Names deep vs h (60 ∷ u))
    → ws ++ (g ++ 60 ∷ t) ≡ vs ++ (h ++ 60 ∷ u) → (names_in x ≡ names_in y) × (g ≡ h) × (t ≡ u)
unfolding white_byte
names_same Names.none Names.none e = (refl, refl, tails e)
names_same {h = h} {t = t} {u = u} Names.none (Names.some y j) e = absurd (words_not_less y (h ++ 60 ∷ u) t (sym e))
names_same {g = g} {t = t} {u = u} (Names.some x i) Names.none e = absurd (words_not_less x (g ++ 60 ∷ t) u e)
names_same {g = g} {h = h} {t = t} {u = u} (Names.some x i) (Names.some y j) e =
    let (f, k) = words_same x y g h t u i j refl refl e in
    let (l, m) = gap_same i j (60 ∷ t) (60 ∷ u) tt tt k in
    (f, l, tails m)

-- ---- dot-atoms

abbrev dot_text : ℕ → Bool
dot_text c = atext c || eqb c 46

atom_dots : {a : List ℕ} → Atom a → (b : List ℕ) → All dot_text b → All dot_text (a ++ b)
atom_dots (Atom.last {c = c} t) b f = (rw (is_true (atext c) t) tt, f)
atom_dots (Atom.more {c = c} t a) b f = (rw (is_true (atext c) t) tt, atom_dots a b f)

dots_all : {a : List ℕ} → DotAtom a → All dot_text a
unfolding atext
dots_all (DotAtom.atom {a = a} x) = rw (append-nil a) at (atom_dots x [] tt)
dots_all (DotAtom.dot {b = b} x y) = atom_dots x (46 ∷ b) (tt, dots_all y)

white_byte_not_dots : (c : ℕ) → T (white_byte c) → T (not (dot_text c))
unfolding white_byte
white_byte_not_dots c t = rw (is_false (atext c) (white_not_atext c t), differs white_byte c 46 t tt) tt

half_same : {deep : ℕ} {a g b h : List ℕ} → DotAtom a → Gap deep g → DotAtom b → Gap deep h → (k : ℕ) (x y : List ℕ) → T (not (dot_text k)) → T (not (gap_byte k))
    → a ++ (g ++ k ∷ x) ≡ b ++ (h ++ k ∷ y) → (a ≡ b) × (g ≡ h) × (x ≡ y)
unfolding atext
half_same {a = a} {g = g} {b = b} {h = h} d i e j k x y n m q =
    let (f, r) = run_unique dot_text a (g ++ k ∷ x) b (h ++ k ∷ y) (dots_all d) (gap_stops i dot_text k x white_byte_not_dots tt n)
    (dots_all e) (gap_stops j dot_text k y white_byte_not_dots tt n) q in
    let (l, o) = gap_same i j (k ∷ x) (k ∷ y) m m r in
    (f, l, tails o)

dots_stop : {a : List ℕ} → DotAtom a → (y : List ℕ) → Stops gap_byte (a ++ y)
dots_stop (DotAtom.atom (Atom.last {c = c} t)) y = atext_no_gap c t
dots_stop (DotAtom.atom (Atom.more {c = c} t a)) y = atext_no_gap c t
dots_stop (DotAtom.dot (Atom.last {c = c} t) b) y = atext_no_gap c t
dots_stop (DotAtom.dot (Atom.more {c = c} t a) b) y = atext_no_gap c t

-- ---- mailboxes

pub one_derivation : (deep : ℕ) (s : List ℕ) (q r : Ranges) (a : Mailbox deep s q) (b : Mailbox deep s r) → pieces a ≡ pieces b
unfolding white_byte atext
one_derivation deep s q r a b =
    let (e₀, f₀) = gap_same a.before_gap b.before_gap _ _ (names_stop a.names_words) (names_stop b.names_words) (sym a.reads ∙ b.reads) in
    let (e₁, e₂, f₂) = names_same a.names_words b.names_words f₀ in
    let (e₃, f₃) = gap_same a.second_gap b.second_gap _ _ (dots_stop a.local_dots _) (dots_stop b.local_dots _) f₂ in
    let (e₄, e₅, f₅) = half_same a.local_dots a.third_gap b.local_dots b.third_gap 64 _ _ tt tt f₃ in
    let (e₆, f₆) = gap_same a.fourth_gap b.fourth_gap _ _ (dots_stop a.domain_dots _) (dots_stop b.domain_dots _) f₅ in
    let (e₇, e₈, e₉) = half_same a.domain_dots a.fifth_gap b.domain_dots b.fifth_gap 62 _ _ tt tt f₆ in
    cc
