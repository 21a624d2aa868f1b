-- Where the line of a number begins: in a good header, behind the lines before it (begins_is). So what a scan has seen of it is right
-- (good_header). Assumes nothing.
use Rattle.std.specs.Prelude.{if◌then◌else◌}
use mathlib.Core.Bool.{Bool, true, false}
use mathlib.Core.List.{List, [], ◌∷◌, ◌++◌, append_assoc}
use mathlib.Core.Path.{◌≡◌, refl, sym, ap, ◌∙◌}
use Prim.Native.Nat.{ℕ, zero, suc, ◌+◌, ◌≤◌, ◌<◌}
use native.Mathlib.Omega.{arith}
use borrow.Author.Tests.{le-leb, lt-leb}
use lib.Dec.{T, eqb}
use lib.ListN.{length, take, length-append}
use Rattle.rules.specs.Bytes.{LF, space}
use Rattle.rules.specs.Lines.{Line, inner, lines, before}
use Rattle.rules.specs.Lists.{All, filled}
use Rattle.rules.proofs.Lists.{all_of, all_append}
use Rattle.commit.specs.Grammar.{name_byte, HeaderLine, named, written, written_all, Continued, Good, counted}
use Rattle.commit.specs.Place.{Says, Answer, refused}
use Rattle.commit.specs.Reader.{good, bad, judge, commit}
use Rattle.commit.specs.declared.Phase.{Phase}
use Rattle.commit.proofs.Shapes.{name_inner, not_space}
use Rattle.commit.proofs.Completing.{good_completing, all_written, Lines, none, more, completing_lines}
use Rattle.commit.proofs.Accepts.{whole_line}
use Rattle.commit.proofs.Numbers.{counted_name}
use Rattle.commit.proofs.Refusals.{answer_says}
use Rattle.commit.proofs.Judged.{judged_by, judge-commit}
use Rattle.judge.specs.Scan.{begun, begins, start_of, GoodHeader}
use Rattle.judge.specs.declared.Header.{Header}

-- ---- what is seen

pub begun_on : (k n at seen : ℕ) → n ≤ k → begun k n at seen ≡ at
begun_on k n at seen h = rw (le-leb n k h)

pub begun_not : (k n at seen : ℕ) → k < n → begun k n at seen ≡ seen
begun_not k n at seen h = rw (lt-leb n k h)

-- ---- lines behind the one sought

counted_more : (l : Line) (n : ℕ) → n ≤ counted l n
counted_more [] n = omega arith
counted_more (c ∷ l) n = elim (eqb c space) as (λ (b : Bool). n ≤ (if b then n else n + 1)) [ true ↦ omega arith | false ↦ omega arith ]

pub begins_stays : (ls : List Line) (k n at seen : ℕ) → k < n → begins k n at seen ls ≡ seen
begins_stays [] k n at seen h = refl
begins_stays (l ∷ ls) k n at seen h =
    ap (λ (i : ℕ). begins k (counted l n) (at + length l) i ls) (ap (λ (b : Bool). if b then at else seen) (lt-leb n k h))
    ∙ begins_stays ls k (counted l n) (at + length l) seen (omega (arith, counted_more l n))

-- the line sought, which starts with no space, begins here
begins_here : (c : ℕ) (w : List ℕ) (k at seen : ℕ) → eqb c space ≡ false → begins k k at seen (lines (c ∷ w)) ≡ at
begins_here c w k at seen e = first (eqb c LF) (lines w)
  where
    one : (l : Line) (ls : List Line) → begins k k at seen ((c ∷ l) ∷ ls) ≡ at
    one l ls =
        let n : counted (c ∷ l) k ≡ k + 1 = rw e in
        begins_stays ls k (counted (c ∷ l) k) (at + length (c ∷ l)) (begun k k at seen) (omega (arith, n))
        ∙ ap (λ (b : Bool). if b then at else seen) (le-leb k k (omega arith))

    first : (b : Bool) (ls : List Line) → begins k k at seen (before b c ls) ≡ at
    first true ls = one [] ls
    first false [] = one [] []
    first false (l ∷ ls) = one l ls

-- ---- lines before the one sought

-- lines that continue the one above
record Under (u s : List ℕ) : Type 0 where
  behind : List ℕ
  same : u ++ LF ∷ s ≡ LF ∷ behind
  begin : (k n at seen to : ℕ) → ((now : ℕ) → begins k n (at + length u) now (lines s) ≡ to) → begins k n at seen (lines behind) ≡ to

under_begins : {u : List ℕ} (s : List ℕ) → Continued u → Under u s
under_begins s Continued.none =
    record { behind = s; same = refl; begin = λ k n at seen to h. let z : at ≡ at + 0 = omega arith in ap (λ (i : ℕ). begins k n i seen (lines s)) z ∙ h seen }
under_begins s (Continued.more t {s = u} a c) =
    let r = under_begins s c in
    let l : Line = space ∷ (t ++ LF ∷ []) in
    record {
      behind = space ∷ (t ++ LF ∷ r.behind);
      same = ap (λ (z : List ℕ). LF ∷ space ∷ z) (append_assoc t u (LF ∷ s) ∙ ap (λ (z : List ℕ). t ++ z) r.same);
      begin = λ k n at seen to h.
          ap (begins k n at seen) (whole_line (space ∷ t) r.behind (tt, a))
          ∙ r.begin k n (at + length l) (begun k n at seen) to (λ now. ap (λ (i : ℕ). begins k n i now (lines s)) (further at t u) ∙ h now);
    }
  where
    further : (at : ℕ) (t u : List ℕ) → at + length (space ∷ (t ++ LF ∷ [])) + length u ≡ at + length (LF ∷ space ∷ (t ++ u))
    further at t u = omega (arith, length-append t (LF ∷ []), length-append t u)

named_here : (n w : List ℕ) (k at seen : ℕ) → T (filled n) → All name_byte n → begins k k at seen (lines (n ++ w)) ≡ at
named_here [] w k at seen f a = absurd f
named_here (c ∷ n) w k at seen f a = begins_here c (n ++ w) k at seen (not_space c a.0)

begins_at : {hs : List HeaderLine} (m : List ℕ) → Lines hs → (j k n at seen : ℕ) → k ≡ n + j → j ≤ length hs
    → begins k n at seen (lines (written_all hs ++ LF ∷ m)) ≡ at + length (written_all (take j hs))
begins_at m none zero k n at seen e h =
    let i : n ≡ k = omega arith in
    ap (λ (z : ℕ). begins k z at seen (lines (LF ∷ m))) i ∙ begins_here LF m k at seen refl ∙ omega arith
begins_at m none (suc j) k n at seen e h = absurd (omega arith)
begins_at m (more {n = w} {c = c} t {hs = hs} f b a v q ls) zero k n at seen e h =
    let i : n ≡ k = omega arith in
    ap (λ (z : ℕ). begins k z at seen (lines (written_all (named w c ∷ hs) ++ LF ∷ m))) i
    ∙ ap (λ (z : List ℕ). begins k k at seen (lines z)) (all_written w c hs (LF ∷ m))
    ∙ named_here w (space ∷ (c ++ LF ∷ (written_all hs ++ LF ∷ m))) k at seen f b ∙ omega arith
begins_at m (more {n = w} {c = c} t {u = u} {hs = hs} f b a v q ls) (suc j) k n at seen e h =
    let r = under_begins (written_all hs ++ LF ∷ m) v in
    let l : Line = (w ++ space ∷ t) ++ LF ∷ [] in
    let x : written_all (named w c ∷ hs) ++ LF ∷ m ≡ (w ++ space ∷ t) ++ LF ∷ r.behind =
    all_written w c hs (LF ∷ m) ∙ ap (λ (z : List ℕ). w ++ space ∷ (z ++ LF ∷ (written_all hs ++ LF ∷ m))) q
    ∙ ap (λ (z : List ℕ). w ++ space ∷ z) (append_assoc t u (LF ∷ (written_all hs ++ LF ∷ m)) ∙ ap (λ (z : List ℕ). t ++ z) r.same)
    ∙ sym (append_assoc w (space ∷ t) (LF ∷ r.behind)) in
    let y : All inner (w ++ space ∷ t) = all_append inner w (space ∷ t) (all_of name_byte inner name_inner w b) (tt, a) in
    let z : counted l n ≡ n + 1 = ap (λ (i : Line). counted i n) (append_assoc w (space ∷ t) (LF ∷ [])) ∙ counted_name w (space ∷ (t ++ LF ∷ [])) n f b in
    let s : at + length l + length u ≡ at + length (written (named w c)) =
    omega (arith, length-append (w ++ space ∷ t) (LF ∷ []), length-append w (space ∷ t), length-append w (space ∷ (c ++ LF ∷ [])), length-append c (LF ∷ []), ap length q, length-append t u) in
    ap (begins k n at seen) (ap lines x ∙ whole_line (w ++ space ∷ t) r.behind y)
    ∙ ap (λ (i : ℕ). begins k i (at + length l) (begun k n at seen) (lines r.behind)) z
    ∙ r.begin k (n + 1) (at + length l) (begun k n at seen) (at + length (written (named w c)) + length (written_all (take j hs)))
    (λ now. ap (λ (i : ℕ). begins k (n + 1) i now (lines (written_all hs ++ LF ∷ m))) s ∙ begins_at m ls j k (n + 1) (at + length (written (named w c))) now (omega arith) (omega arith))
    ∙ omega (arith, length-append (written (named w c)) (written_all (take j hs)))

pub begins_is : (content : List ℕ) (header : List HeaderLine) (message : List ℕ) (k : ℕ) → Good content header message → k ≤ length header
    → begins k 0 0 0 (lines content) ≡ start_of header k
begins_is content header message k g h =
    ap (λ (z : List ℕ). begins k 0 0 0 (lines z)) g.reads ∙ begins_at message (completing_lines (good_completing g)) k k 0 0 0 (omega arith) h ∙ omega arith

-- ---- a header judged

same_numbers : (a b c d : ℕ) → good a b ≡ good c d → (a ≡ c) × (b ≡ d)
same_numbers a b c d e = (cc, cc)

pub good_header : (content : List ℕ) (k : ℕ) (h : Header) → judge Phase.Tree 0 0 (lines content) ≡ good h.lines h.message
    → (k < h.lines → h.line.start ≡ begins k 0 0 0 (lines content)) → (k < h.lines → h.line.end ≡ begins (suc k) 0 0 0 (lines content)) → GoodHeader content k h
good_header content k h e f t = said (commit content) (answer_says content) (sym e ∙ judge-commit content)
  where
    said : (a : Answer) → Says content a → good h.lines h.message ≡ judged_by a → GoodHeader content k h
    said a (Says.good {header = hs} {message = m} g) d =
        let i = same_numbers h.lines h.message (length hs) _ d in
        record {
          header = hs;
          message = m;
          good = g;
          count = i.0;
          line_start = λ b. f b ∙ begins_is content hs m k g (omega (arith, i.0));
          line_end = λ b. t b ∙ begins_is content hs m (suc k) g (omega (arith, i.0));
          behind = i.1;
        }
    said a (Says.none {number = j} x) d = absurd cc

pub bad_header : (content : List ℕ) (n : ℕ) → judge Phase.Tree 0 0 (lines content) ≡ bad n → commit content ≡ refused n
bad_header content n e = said (commit content) (sym e ∙ judge-commit content)
  where
    said : (a : Answer) → bad n ≡ judged_by a → a ≡ refused n
    said (Answer.accepted h m) d = absurd cc
    said (refused j) d = let i : n ≡ j = cc in ap refused (sym i)
