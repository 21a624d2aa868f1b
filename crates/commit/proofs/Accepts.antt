-- A good content is read as it is written (accepts), so in one way only (one_way). Assumes nothing.
use Rattle.std.specs.Prelude.{Option, Some}
use mathlib.Core.Bool.{Bool, true, false}
use mathlib.Core.List.{List, [], ◌∷◌, ◌++◌, append_assoc, append-nil}
use mathlib.Core.Path.{◌≡◌, refl, sym, ap, ◌∙◌}
use Prim.Native.Nat.{ℕ}
use borrow.Author.Tests.{eq-eqb}
use lib.Dec.{T}
use Rattle.rules.specs.Bytes.{bytes, LF, space}
use Rattle.rules.specs.Lines.{Line, inner, lines, line}
use Rattle.rules.specs.Lists.{All, all, filled}
use Rattle.rules.proofs.Lists.{is_true, is_false, all_of, all_append}
use Rattle.rules.proofs.Lines.{join-lines, lines_of, lines_only}
use Rattle.commit.specs.Grammar.{name_byte, four, hex_digit, sha1, sha256, Identifier, HeaderLine, named, written_all, Continued, Others, Good, counted}
use Rattle.commit.specs.Reader.{Shape, continues, names, shape}
use Rattle.commit.specs.Reader.{identifier, named_line, step, Reading, reads, put, turned, read}
use Rattle.commit.specs.declared.Phase.{Phase}
use Rattle.commit.specs.declared.Turn.{Turn}
use Rattle.commit.proofs.Shapes.{continues_of, names_of, T_all, name_inner}
use Rattle.commit.proofs.Completing.{Completing, tree, parent, author, committer, others, under, good_completing, all_written, id_inner}

-- ---- one line

pub whole_line : (t s : List ℕ) → All inner t → lines (t ++ LF ∷ s) ≡ (t ++ LF ∷ []) ∷ lines s
whole_line t s a = lines_only (line t a (lines_of s))

pub turn : (ph to : Phase) (l : Line) (x : Shape) (k : ℕ) (ls : List Line) (r : Reading) → shape l ≡ x → step ph x ≡ Some (Turn.To to) → read to (counted l k) ls ≡ r
    → read ph k (l ∷ ls) ≡ put x r
turn ph to l x k ls r e d i =
    ap (λ (y : Shape). turned (step ph y) y (counted l k) ls (λ (z : Phase). read z (counted l k) ls)) e
    ∙ ap (λ (w : Option Turn). turned w x (counted l k) ls (λ (z : Phase). read z (counted l k) ls)) d
    ∙ ap (put x) i

named_reads : (ph to : Phase) (n t s : List ℕ) (r : Reading) → T (filled n) → All name_byte n → All inner t → named_line ph n t ≡ Some (Turn.To to)
    → ((k : ℕ) → read to k (lines s) ≡ r) → (k : ℕ) → read ph k (lines (n ++ space ∷ (t ++ LF ∷ s))) ≡ put (names n t) r
named_reads ph to n t s r f b a d g k =
    let l : Line = n ++ space ∷ (t ++ LF ∷ []) in
    let i : All inner (n ++ space ∷ t) = all_append inner n (space ∷ t) (all_of name_byte inner name_inner n b) (tt, a) in
    let e : lines (n ++ space ∷ (t ++ LF ∷ s)) ≡ l ∷ lines s =
    ap lines (sym (append_assoc n (space ∷ t) (LF ∷ s))) ∙ whole_line (n ++ space ∷ t) s i
    ∙ ap (λ (z : Line). z ∷ lines s) (append_assoc n (space ∷ t) (LF ∷ [])) in
    ap (read ph k) e ∙ turn ph to l (names n t) k (lines s) r (names_of n t f b a) d (g (counted l k))

-- ---- the lines that continue one

record Under (u s : List ℕ) (hs : List HeaderLine) (m : List ℕ) : Type 0 where
  behind : List ℕ
  same : u ++ LF ∷ s ≡ LF ∷ behind
  runs : (k : ℕ) → read Phase.Under k (lines behind) ≡ reads u hs m

under_reads : {u : List ℕ} (s : List ℕ) (hs : List HeaderLine) (m : List ℕ) → Continued u → ((k : ℕ) → read Phase.Under k (lines s) ≡ reads [] hs m) → Under u s hs m
under_reads s hs m Continued.none g = record { behind = s; same = refl; runs = g }
under_reads s hs m (Continued.more t {s = u} a c) g =
    let r = under_reads s hs m c g in
    let e : LF ∷ space ∷ ((t ++ u) ++ LF ∷ s) ≡ LF ∷ space ∷ (t ++ LF ∷ r.behind) =
    ap (λ (z : List ℕ). LF ∷ space ∷ z) (append_assoc t u (LF ∷ s) ∙ ap (λ (z : List ℕ). t ++ z) r.same) in
    record {
      behind = space ∷ (t ++ LF ∷ r.behind);
      same = e;
      runs = λ k. ap (read Phase.Under k) (whole_line (space ∷ t) r.behind (tt, a))
          ∙ turn Phase.Under Phase.Under (space ∷ (t ++ LF ∷ [])) (continues t) k (lines r.behind) (reads u hs m) (continues_of t a) refl (r.runs k);
    }

-- ---- the header

Both : List HeaderLine → List ℕ → Type 0
Both hs m = ((k : ℕ) → read Phase.Others k (lines (written_all hs ++ LF ∷ m)) ≡ reads [] hs m) × ((k : ℕ) → read Phase.Under k (lines (written_all hs ++ LF ∷ m)) ≡ reads [] hs m)

others_read : {hs : List HeaderLine} (m : List ℕ) → Others hs → Both hs m
unfolding Both
others_read m Others.none =
    (λ k. ap (read Phase.Others k) (whole_line [] m tt) ∙ ap (reads [] []) (join-lines m), λ k. ap (read Phase.Under k) (whole_line [] m tt) ∙ ap (reads [] []) (join-lines m))
others_read m (Others.more {name = n} t {under = u} {hs = hs} o a c os) =
    let r = under_reads (written_all hs ++ LF ∷ m) hs m c (others_read m os).1 in
    let e : written_all (named n (t ++ u) ∷ hs) ++ LF ∷ m ≡ n ++ space ∷ (t ++ LF ∷ r.behind) =
    all_written n (t ++ u) hs (LF ∷ m) ∙ ap (λ (z : List ℕ). n ++ space ∷ z) (append_assoc t u (LF ∷ (written_all hs ++ LF ∷ m)) ∙ ap (λ (z : List ℕ). t ++ z) r.same) in
    let f : four n ≡ false = is_false (four n) o.none_of_four in (
      λ k. ap (λ (z : List ℕ). read Phase.Others k (lines z)) e
          ∙ named_reads Phase.Others Phase.Under n t r.behind (reads u hs m) o.some o.name_bytes a (rw f) r.runs k,
      λ k. ap (λ (z : List ℕ). read Phase.Under k (lines z)) e
          ∙ named_reads Phase.Under Phase.Under n t r.behind (reads u hs m) o.some o.name_bytes a (rw f) r.runs k,
    )

-- a line of one of the four names
plain_reads : (ph to : Phase) (n t : List ℕ) (hs : List HeaderLine) (m : List ℕ) → T (filled n) → All name_byte n → All inner t → named_line ph n t ≡ Some (Turn.To to)
    → ((k : ℕ) → read to k (lines (written_all hs ++ LF ∷ m)) ≡ reads [] hs m) → (k : ℕ) → read ph k (lines (written_all (named n t ∷ hs) ++ LF ∷ m)) ≡ reads [] (named n t ∷ hs) m
plain_reads ph to n t hs m f b a d g k =
    ap (λ (z : List ℕ). read ph k (lines z)) (all_written n t hs (LF ∷ m))
    ∙ named_reads ph to n t (written_all hs ++ LF ∷ m) (reads [] hs m) f b a d g k
    ∙ ap (λ (z : List ℕ). reads [] (named n z ∷ hs) m) (append-nil t)

all_true : (p : ℕ → Bool) (s : List ℕ) → All p s → all p s ≡ true
all_true p [] a = refl
all_true p (c ∷ s) a = rw (is_true (p c) a.0, all_true p s a.1)

is_identifier : (size : ℕ) (t : List ℕ) → Identifier size t → identifier size t ≡ true
unfolding identifier
is_identifier size t i = rw (i.long, eq-eqb size size refl, all_true hex_digit t i.digits)

no_sha1 : (t : List ℕ) → Identifier 64 t → identifier 40 t ≡ false
unfolding identifier
no_sha1 t i = rw i.long

pub completing_read : {ph : Phase} {hs : List HeaderLine} (m : List ℕ) → Completing ph hs → (k : ℕ) → read ph k (lines (written_all hs ++ LF ∷ m)) ≡ reads [] hs m
unfolding Both name_byte
completing_read m (tree {t = t} {hs = hs} sha1 i f) =
    plain_reads Phase.Tree (Phase.Parents 40) (bytes "tree") t hs m tt (T_all name_byte (bytes "tree") tt) (id_inner 40 t i) (rw (is_identifier 40 t i)) (completing_read m f)
completing_read m (tree {t = t} {hs = hs} sha256 i f) =
    plain_reads Phase.Tree (Phase.Parents 64) (bytes "tree") t hs m tt (T_all name_byte (bytes "tree") tt) (id_inner 64 t i) (rw (no_sha1 t i, is_identifier 64 t i)) (completing_read m f)
completing_read m (parent {size = k} {t = t} {hs = hs} i f) =
    plain_reads (Phase.Parents k) (Phase.Parents k) (bytes "parent") t hs m tt (T_all name_byte (bytes "parent") tt) (id_inner k t i) (rw (is_identifier k t i)) (completing_read m f)
completing_read m (author {size = k} {t = t} {hs = hs} a f) =
    plain_reads (Phase.Parents k) Phase.Committer (bytes "author") t hs m tt (T_all name_byte (bytes "author") tt) a refl (completing_read m f)
completing_read m (committer {t = t} {hs = hs} a f) =
    plain_reads Phase.Committer Phase.Others (bytes "committer") t hs m tt (T_all name_byte (bytes "committer") tt) a refl (completing_read m f)
completing_read m (others o) = (others_read m o).0
completing_read m (under o) = (others_read m o).1

pub accepts : (content : List ℕ) (header : List HeaderLine) (message : List ℕ) → Good content header message → read Phase.Tree 0 (lines content) ≡ reads [] header message
accepts content header message g = ap (λ (z : List ℕ). read Phase.Tree 0 (lines z)) g.reads ∙ completing_read message (good_completing g) 0

-- "in one way only"
pub one_way : (content : List ℕ) (h : List HeaderLine) (m : List ℕ) (g : List HeaderLine) (n : List ℕ) → Good content h m → Good content g n → (h ≡ g) × (m ≡ n)
one_way content h m g n x y = let e : reads [] h m ≡ reads [] g n = sym (accepts content h m x) ∙ accepts content g n y in (cc, cc)
