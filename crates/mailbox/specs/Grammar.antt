-- The mailbox: document 02, K14, "Read an unfolded value as an RFC 5322 mailbox with angle brackets". Its byte classes are those
-- of RFC 5322, 3.2.1 to 3.2.4; "no obsolete form counts". `deep` is how deep comments may stand one inside the other.
use Rattle.std.specs.Prelude.{Bool, ◌||◌, List, [], ◌∷◌, ◌++◌, ◌≡◌, ℕ, suc, ◌+◌, T, eqb, leb, length}
use Rattle.rules.specs.Bytes.{bytes, within}
use Rattle.rules.specs.Lists.{Stops, any}

-- ---- bytes

-- "White space is space and tab."
unfoldable pub white_byte : ℕ → Bool
white_byte c = eqb c 32 || eqb c 9

-- "Bytes from 128 up count as text in atoms, dot-atoms, quotes and comments, as RFC 6532 lets UTF-8 do."
abbrev pub high : ℕ → Bool
high c = leb 128 c

-- RFC 5322, atext: letters, digits and these signs
unfoldable pub atext : ℕ → Bool
atext c = within 65 90 c || within 97 122 c || within 48 57 c || any (eqb c) (bytes "!#$%&'*+-/=?^_`{|}~") || high c

-- RFC 5322, qtext and ctext, and the white space that may stand between them
unfoldable pub quote_text : ℕ → Bool
quote_text c = eqb c 33 || within 35 91 c || within 93 126 c || high c || white_byte c

unfoldable pub comment_text : ℕ → Bool
comment_text c = within 33 39 c || within 42 91 c || within 93 126 c || high c || white_byte c

-- "In quotes and comments a backslash takes one byte: tab, 32 to 126, or 128 up"
unfoldable pub takes : ℕ → Bool
takes c = eqb c 9 || within 32 126 c || high c

-- ---- white space and comments

-- "eight deep at most"
abbrev pub deepest : ℕ
deepest = 8

-- "a comment may hold further comments": what stands between its brackets, where d more may be opened one inside the other
pub data Inside : ℕ → List ℕ → Type 0 where
  empty : {d : ℕ} → Inside d []
  text : {d c : ℕ} {s : List ℕ} → T (comment_text c) → Inside d s → Inside d (c ∷ s)
  taken : {d c : ℕ} {s : List ℕ} → T (takes c) → Inside d s → Inside d (92 ∷ c ∷ s)
  comment : {d : ℕ} {t s : List ℕ} → Inside d t → Inside (suc d) s → Inside (suc d) (40 ∷ (t ++ 41 ∷ s))

-- "White space and comments may stand before, between and after these pieces": any number of them, or none
pub data Gap : ℕ → List ℕ → Type 0 where
  empty : {deep : ℕ} → Gap deep []
  white : {deep c : ℕ} {s : List ℕ} → T (white_byte c) → Gap deep s → Gap deep (c ∷ s)
  comment : {d : ℕ} {t s : List ℕ} → Inside d t → Gap (suc d) s → Gap (suc d) (40 ∷ (t ++ 41 ∷ s))

-- ---- the pieces

-- RFC 5322: 1*atext
pub data Atom : List ℕ → Type 0 where
  last : {c : ℕ} → T (atext c) → Atom (c ∷ [])
  more : {c : ℕ} {s : List ℕ} → T (atext c) → Atom s → Atom (c ∷ s)

-- RFC 5322, dot-atom-text: 1*atext *("." 1*atext)
pub data DotAtom : List ℕ → Type 0 where
  atom : {a : List ℕ} → Atom a → DotAtom a
  dot : {a b : List ℕ} → Atom a → DotAtom b → DotAtom (a ++ 46 ∷ b)

-- what stands between the quotes of a quoted string
pub data Quoted : List ℕ → Type 0 where
  empty : Quoted []
  text : {c : ℕ} {s : List ℕ} → T (quote_text c) → Quoted s → Quoted (c ∷ s)
  taken : {c : ℕ} {s : List ℕ} → T (takes c) → Quoted s → Quoted (92 ∷ c ∷ s)

-- "words, atoms or quoted strings": a word, and what stands behind it. "An atom runs as far as it can."
pub data Word : List ℕ → List ℕ → Type 0 where
  atom : {a behind : List ℕ} → Atom a → Stops atext behind → Word a behind
  quoted : {q behind : List ℕ} → Quoted q → Word (34 ∷ (q ++ 34 ∷ [])) behind

-- one word or more, "from the first word's start to the last one's end", and what stands behind them
pub data Words (deep : ℕ) : List ℕ → List ℕ → Type 0 where
  one : {w behind : List ℕ} → Word w behind → Words deep w behind
  more : {w gap ws behind : List ℕ} → Word w (gap ++ (ws ++ behind)) → Gap deep gap → Words deep ws behind
      → Words deep (w ++ (gap ++ ws)) behind

-- "optional words", and the white space and comments between them and the `<`
pub data Names (deep : ℕ) : List ℕ → List ℕ → List ℕ → Type 0 where
  none : {behind : List ℕ} → Names deep [] [] behind
  some : {ws gap behind : List ℕ} → Words deep ws (gap ++ behind) → Gap deep gap → Names deep ws gap behind

-- ---- the mailbox

-- "Answer two ranges": the name's start and end, the address's start and end
pub data Ranges : Type 0 where
  ranges : ℕ → ℕ → ℕ → ℕ → Ranges

-- "optional words, atoms or quoted strings, then `<`, a dot-atom, `@`, a dot-atom, `>`. White space and comments may stand
-- before, between and after these pieces"
pub record Mailbox (deep : ℕ) (s : List ℕ) (r : Ranges) : Type 0 where
  pub before : List ℕ
  pub names : List ℕ
  pub gap₁ : List ℕ
  pub gap₂ : List ℕ
  pub local : List ℕ
  pub gap₃ : List ℕ
  pub gap₄ : List ℕ
  pub domain : List ℕ
  pub gap₅ : List ℕ
  pub after : List ℕ
  pub reads : s ≡ before ++ (names ++ (gap₁ ++ 60 ∷ (gap₂ ++ (local ++ (gap₃ ++ 64 ∷ (gap₄ ++ (domain ++ (gap₅ ++ 62 ∷ after))))))))
  pub before_gap : Gap deep before
  pub names_words : Names deep names gap₁ (60 ∷ (gap₂ ++ (local ++ (gap₃ ++ 64 ∷ (gap₄ ++ (domain ++ (gap₅ ++ 62 ∷ after)))))))
  pub second_gap : Gap deep gap₂
  pub local_dots : DotAtom local
  pub third_gap : Gap deep gap₃
  pub fourth_gap : Gap deep gap₄
  pub domain_dots : DotAtom domain
  pub fifth_gap : Gap deep gap₅
  pub after_gap : Gap deep after
  pub start : ℕ
  pub end : ℕ
  pub from : ℕ
  pub to : ℕ
  -- "from the first word's start to the last one's end (empty at the `<` where there are no words)"
  pub name_start : start ≡ length before
  pub name_end : end ≡ start + length names
  -- "from the first dot-atom's start to the second's end"
  pub address_start : from ≡ end + length gap₁ + 1 + length gap₂
  pub address_end : to ≡ from + length local + length gap₃ + 1 + length gap₄ + length domain
  pub answer : r ≡ ranges start end from to

-- the pieces in order, each word and each gap between words by itself: "in one way only" is said of them
abbrev pub words_in : {deep : ℕ} {ws behind : List ℕ} → Words deep ws behind → List (List ℕ)
words_in (Words.one {w = w} x) = w ∷ []
words_in (Words.more {w = w} {gap = gap} x y z) = w ∷ gap ∷ words_in z

abbrev pub names_in : {deep : ℕ} {ws gap behind : List ℕ} → Names deep ws gap behind → List (List ℕ)
names_in Names.none = []
names_in (Names.some x y) = words_in x

abbrev pub pieces : {deep : ℕ} {s : List ℕ} {r : Ranges} → Mailbox deep s r → List (List ℕ)
pieces m =
    (m.before ∷ names_in m.names_words) ++
    (m.gap₁ ∷ m.gap₂ ∷ m.local ∷ m.gap₃ ∷ m.gap₄ ∷ m.domain ∷ m.gap₅ ∷ m.after ∷ [])

-- ---- the answer

-- the two ranges, or a refusal's number and place
pub data Answer : Type 0 where
  accepted : Ranges → Answer
  refused : ℕ → ℕ → Answer
