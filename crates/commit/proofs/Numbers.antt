-- One numbering: the lines of a good header, as a refusal counts them, are as many as the header lines that are answered
-- (numbers_same). Assumes nothing.
use mathlib.Core.List.{List, [], ◌∷◌, ◌++◌, append_assoc}
use mathlib.Core.Path.{◌≡◌, refl, sym, ap, ◌∙◌}
use Prim.Native.Nat.{ℕ, ◌+◌}
use native.Mathlib.Omega.{arith}
use lib.Dec.{T}
use lib.ListN.{length}
use Rattle.rules.specs.Bytes.{LF, space}
use Rattle.rules.specs.Lines.{Line, inner, lines}
use Rattle.rules.specs.Lists.{All, filled}
use Rattle.rules.proofs.Lists.{all_of, all_append}
use Rattle.commit.specs.Grammar.{name_byte, HeaderLine, named, written, written_all, Continued, Good, counted, counts}
use Rattle.commit.proofs.Shapes.{name_inner, not_space}
use Rattle.commit.proofs.Completing.{good_completing, written_on, Lines, none, more, completing_lines}
use Rattle.commit.proofs.Accepts.{whole_line}

pub counted_name : (n w : List ℕ) (k : ℕ) → T (filled n) → All name_byte n → counted (n ++ w) k ≡ k + 1
counted_name [] w k f a = absurd f
counted_name (c ∷ n) w k f a = rw (not_space c a.0)

record Under (u s : List ℕ) : Type 0 where
  behind : List ℕ
  same : u ++ LF ∷ s ≡ LF ∷ behind
  count : (k : ℕ) → counts (lines behind) k ≡ counts (lines s) k

under_counts : {u : List ℕ} (s : List ℕ) → Continued u → Under u s
under_counts s Continued.none = record { behind = s; same = refl; count = λ k. refl }
under_counts s (Continued.more t {s = u} a c) =
    let r = under_counts s c in
    record {
      behind = space ∷ (t ++ LF ∷ r.behind);
      same = ap (λ (z : List ℕ). LF ∷ space ∷ z) (append_assoc t u (LF ∷ s) ∙ ap (λ (z : List ℕ). t ++ z) r.same);
      count = λ k. ap (λ (z : List Line). counts z k) (whole_line (space ∷ t) r.behind (tt, a)) ∙ r.count k;
    }

lines_count : {hs : List HeaderLine} → Lines hs → (k : ℕ) → counts (lines (written_all hs)) k ≡ k + length hs
lines_count none k = omega arith
lines_count (more {n = n} {c = c} t {u = u} {hs = hs} f b a v e ls) k =
    let r = under_counts (written_all hs) v in
    let x : written (named n c) ++ written_all hs ≡ (n ++ space ∷ t) ++ LF ∷ r.behind =
    written_on n c (written_all hs) ∙ ap (λ (z : List ℕ). n ++ space ∷ (z ++ LF ∷ written_all hs)) e
    ∙ ap (λ (z : List ℕ). n ++ space ∷ z) (append_assoc t u (LF ∷ written_all hs) ∙ ap (λ (z : List ℕ). t ++ z) r.same)
    ∙ sym (append_assoc n (space ∷ t) (LF ∷ r.behind)) in
    let i : All inner (n ++ space ∷ t) = all_append inner n (space ∷ t) (all_of name_byte inner name_inner n b) (tt, a) in
    let j : counted ((n ++ space ∷ t) ++ LF ∷ []) k ≡ k + 1 = ap (λ (z : Line). counted z k) (append_assoc n (space ∷ t) (LF ∷ [])) ∙ counted_name n (space ∷ (t ++ LF ∷ [])) k f b in
    ap (λ (z : List Line). counts z k) (ap lines x ∙ whole_line (n ++ space ∷ t) r.behind i)
    ∙ ap (counts (lines r.behind)) j ∙ r.count (k + 1) ∙ lines_count ls (k + 1) ∙ omega arith

pub numbers_same : (content : List ℕ) (header : List HeaderLine) (message : List ℕ) → Good content header message → counts (lines (written_all header)) 0 ≡ length header
numbers_same content header message g = lines_count (completing_lines (good_completing g)) 0 ∙ omega arith
