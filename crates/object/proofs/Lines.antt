-- The line that is asked for, by where it starts and where the one below it does. Assumes nothing.
use Rattle.std.specs.Prelude.{Result, Ok, Err, if◌then◌else◌}
use mathlib.Core.Bool.{Bool, true, false}
use mathlib.Core.List.{List, [], ◌∷◌, ◌++◌, append_assoc}
use mathlib.Core.Path.{◌≡◌, refl, sym, ap, ◌∙◌}
use Prim.Native.Nat.{ℕ, zero, suc, ◌+◌, ◌-◌, ◌≤◌, ◌<◌}
use native.Mathlib.Omega.{arith}
use lib.ListN.{length, take, drop, length-append, length-drop}
use lib.Seq.{drop-append_seam}
use Rattle.rules.specs.Answers.{Said, says, limited, over_limit}
use Rattle.rules.specs.Bytes.{LF, space}
use Rattle.rules.specs.Lists.{All, run}
use Rattle.rules.specs.declared.TooLong.{TooLong}
use Rattle.rules.proofs.Lists.{run_cut}
use Rattle.commit.specs.Answers.{placed, line_of, line_in, message_start, message_in, behind_header}
use Rattle.commit.specs.Grammar.{name_byte, HeaderLine, named, written, written_all}
use Rattle.commit.specs.Reader.{commit}
use Rattle.commit.proofs.Answers.{commit_good, line_end, message_length}
use Rattle.commit.proofs.Completing.{good_completing, all_written, Lines, none, more, completing_lines}
use Rattle.judge.specs.Scan.{start_of, GoodHeader}
use Rattle.judge.specs.declared.Header.{Header}

-- ---- a line among the header's

record Stands (hs : List HeaderLine) (w : List ℕ) (at k : ℕ) : Type 0 where
  name : List ℕ
  text : List ℕ
  rest : List ℕ
  name_bytes : All name_byte name
  splits : written_all hs ++ w ≡ written_all (take k hs) ++ (name ++ space ∷ (text ++ LF ∷ rest))
  values : line_of hs at k ≡ placed (at + start_of hs k) (named name text)
  below : start_of hs (suc k) ≡ start_of hs k + length (written (named name text))

stands : {hs : List HeaderLine} (w : List ℕ) (at k : ℕ) → Lines hs → k < length hs → Stands hs w at k
stands w at k none h = absurd (omega arith)
stands w at zero (more {n = n} {c = c} t {hs = hs} f b a v e ls) h =
    let z : at ≡ at + 0 = omega arith in
    record {
      name = n;
      text = c;
      rest = written_all hs ++ w;
      name_bytes = b;
      splits = all_written n c hs w;
      values = ap (λ (i : ℕ). placed i (named n c)) z;
      below = omega (arith, length-append (written (named n c)) []);
    }
stands w at (suc k) (more {n = n} {c = c} t {hs = hs} f b a v e ls) h =
    let g : HeaderLine = named n c in
    let r = stands w (at + length (written g)) k ls (omega arith) in
    let i : at + length (written g) + start_of hs k ≡ at + start_of (g ∷ hs) (suc k) = omega (arith, length-append (written g) (written_all (take k hs))) in
    record {
      name = r.name;
      text = r.text;
      rest = r.rest;
      name_bytes = r.name_bytes;
      splits = append_assoc (written g) (written_all hs) w ∙ ap (λ (z : List ℕ). written g ++ z) r.splits
          ∙ sym (append_assoc (written g) (written_all (take k hs)) (r.name ++ space ∷ (r.text ++ LF ∷ r.rest)));
      values = r.values ∙ ap (λ (z : ℕ). placed z (named r.name r.text)) i;
      below = omega (arith, r.below, length-append (written g) (written_all (take k hs)), length-append (written g) (written_all (take (suc k) hs)));
    }

-- ---- and in the content

pub record There (content : List ℕ) (k start end : ℕ) : Type 0 where
  pub name : List ℕ
  pub text : List ℕ
  pub rest : List ℕ
  pub name_bytes : All name_byte name
  pub reads : drop start content ≡ name ++ space ∷ (text ++ LF ∷ rest)
  pub values : line_in k (commit content) ≡ placed start (named name text)
  pub long : end ≡ start + length (written (named name text))

pub there : (content : List ℕ) (k : ℕ) (w : Header) → GoodHeader content k w → k < w.lines → There content k w.line.start w.line.end
there content k w g h =
    let m : List ℕ = LF ∷ g.message in
    let r = stands m 0 k (completing_lines (good_completing g.good)) (omega (arith, g.count)) in
    let i : w.line.start ≡ start_of g.header k = g.line_start h in
    let j : 0 + start_of g.header k ≡ w.line.start = omega (arith, i) in
    record {
      name = r.name;
      text = r.text;
      rest = r.rest;
      name_bytes = r.name_bytes;
      reads = ap (λ (z : ℕ). drop z content) i ∙ ap (drop (start_of g.header k)) (g.good.reads ∙ r.splits)
          ∙ drop-append_seam (written_all (take k g.header)) (r.name ++ space ∷ (r.text ++ LF ∷ r.rest));
      values = ap (line_in k) (commit_good content g.header g.message g.good) ∙ r.values ∙ ap (λ (z : ℕ). placed z (named r.name r.text)) j;
      long = g.line_end h ∙ r.below ∙ ap (λ (z : ℕ). z + length (written (named r.name r.text))) (sym i);
    }

written-length : (n t : List ℕ) → length (written (named n t)) ≡ length n + length t + 2
written-length n t = omega (arith, length-append n (space ∷ (t ++ LF ∷ [])), length-append t (LF ∷ []))

-- it has room before the content's end
pub start_inside : (content : List ℕ) (k start end : ℕ) → There content k start end → start + 1 < length content
start_inside content k start end l =
    omega (arith, ap length l.reads, length-drop start content, length-append l.name (space ∷ (l.text ++ LF ∷ l.rest)), length-append l.text (LF ∷ l.rest))

named_piece : (n w r : List ℕ) → All name_byte n → r ≡ n ++ space ∷ w → run name_byte r ≡ n
unfolding name_byte
named_piece n w r b e = ap (run name_byte) e ∙ (run_cut name_byte n (space ∷ w) b tt).0

pub name_long : (content : List ℕ) (k start end q : ℕ) (l : There content k start end) → q ≡ start + length (run name_byte (drop start content)) → q ≡ start + length l.name
name_long content k start end q l e =
    e ∙ ap (λ (z : List ℕ). start + length z) (named_piece l.name (l.text ++ LF ∷ l.rest) (drop start content) l.name_bytes l.reads)

same_parts : (a b c d x y z : ℕ) → b ≡ x → c ≡ y → d ≡ z → a ∷ b ∷ c ∷ d ∷ [] ≡ a ∷ x ∷ y ∷ z ∷ []
same_parts a b c d x y z i j l = cc

pub line_parts : (content : List ℕ) (k start end q : ℕ) → There content k start end → q ≡ start + length (run name_byte (drop start content))
    → start ∷ q ∷ (q + 1) ∷ (end - 1) ∷ [] ≡ line_in k (commit content)
line_parts content k start end q l e =
    let i : q ≡ start + length l.name = name_long content k start end q l e in
    same_parts start q (q + 1) (end - 1) (start + length l.name) (suc (start + length l.name)) (suc (start + length l.name) + length l.text) i
    (omega (arith, i)) (omega (arith, l.long, written-length l.name l.text))
    ∙ sym l.values

pub no_line : (content : List ℕ) (k : ℕ) (w : Header) → GoodHeader content k w → w.lines ≤ k → line_in k (commit content) ≡ []
no_line content k w g h = line_end content g.header g.message k g.good (omega (arith, g.count))

-- ---- the answers

fits : (content : List ℕ) (u : Unit {0}) → limited content ≡ Ok u → over_limit content ≡ false
fits content u e = by (over_limit content) e
  where
    by : (b : Bool) → if◌then◌else◌ {A = Result (Unit {0}) TooLong} b (Err (record {})) (Ok tt) ≡ Ok u → b ≡ false
    by true e = absurd cc
    by false e = refl

pub good_answer : (content : List ℕ) (k : ℕ) (w : Header) (answer : Said) {u : Unit {0}} → GoodHeader content k w → limited content ≡ Ok u
    → answer ≡ behind_header content answer
good_answer content k w answer {u = u} g h = rw (fits content u h, commit_good content g.header g.message g.good)

same_two : (a b x y : ℕ) → a ≡ x → b ≡ y → says 0 (a ∷ b ∷ []) ≡ says 0 (x ∷ y ∷ [])
same_two a b x y i j = cc

pub message_parts : (content : List ℕ) (k : ℕ) (w : Header) → GoodHeader content k w
    → says 0 (w.message ∷ length content ∷ []) ≡ says 0 (message_in (commit content))
message_parts content k w g =
    same_two w.message (length content) (message_start g.header) (message_start g.header + length g.message) g.behind (message_length content g.header g.message g.good)
    ∙ ap (says 0) (sym (ap message_in (commit_good content g.header g.message g.good)))
