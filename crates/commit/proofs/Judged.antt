-- The judgement alone is the reading's: how many lines the header has and where the message starts, or the number (judge-commit). Assumes
-- nothing.
use Rattle.std.specs.Prelude.{Option, Some, None}
use mathlib.Core.List.{List, [], ◌∷◌, ◌++◌}
use mathlib.Core.Path.{◌≡◌, refl, sym, ap, subst, ◌∙◌}
use Prim.Native.Nat.{ℕ, ◌+◌}
use native.Mathlib.Omega.{arith}
use lib.ListN.{length, length-append}
use Rattle.rules.specs.Bytes.{LF, space}
use Rattle.rules.specs.Lines.{Line, lines}
use Rattle.commit.specs.Answers.{message_start}
use Rattle.commit.specs.Grammar.{HeaderLine, named, written, written_all, counted}
use Rattle.commit.specs.Place.{Answer, accepted, refused}
use Rattle.commit.specs.Reader.{Shape, empty, continues, names, wrong, shape}
use Rattle.commit.specs.Reader.{step, Reading, reads, stops, put, turned, read, answer, commit, Verdict, good, bad, turned_verdict, judge}
use Rattle.commit.specs.declared.Phase.{Phase}
use Rattle.commit.specs.declared.Turn.{Turn}
use Rattle.commit.proofs.Shapes.{Is, shape_is}
use Rattle.commit.proofs.Accepts.{accepts}
use Rattle.commit.proofs.Derives.{end_empty, put_stops, derives}
use Rattle.commit.proofs.Numbers.{counted_name}

-- of what is read from a place on, n lines being counted before it
abbrev pub verdict : ℕ → ℕ → Reading → Verdict
verdict n at (reads u hs m) = good (n + length hs) (at + length u + message_start hs)
verdict n at (stops k) = bad k

named_length : (n t u : List ℕ) (hs : List HeaderLine) (l : Line) → l ≡ n ++ space ∷ (t ++ LF ∷ []) → length l + length u + length (written_all hs) ≡ length (written_all (named n (t ++ u) ∷ hs))
named_length n t u hs l e =
    omega (
      arith,
      ap length e,
      length-append n (space ∷ (t ++ LF ∷ [])),
      length-append t (LF ∷ []),
      length-append (written (named n (t ++ u))) (written_all hs),
      length-append n (space ∷ ((t ++ u) ++ LF ∷ [])),
      length-append (t ++ u) (LF ∷ []),
      length-append t u,
    )

spaced_length : (t u : List ℕ) (l : Line) → l ≡ space ∷ (t ++ LF ∷ []) → length l + length u ≡ length (LF ∷ space ∷ (t ++ u))
spaced_length t u l e = omega (arith, ap length e, length-append t (LF ∷ []), length-append t u)

same_good : (a b c d : ℕ) → a ≡ b → c ≡ d → good a c ≡ good b d
same_good a b c d p q = cc

-- a line in front of what is judged behind it
front_verdict : (ph to : Phase) (l : Line) (x : Shape) (n at : ℕ) (r : Reading) → Is l x → step ph x ≡ Some (Turn.To to) → verdict (counted l n) (at + length l) r ≡ verdict n at (put x r)
front_verdict ph to l x n at (stops k) i d = ap (verdict n at) (sym (put_stops x k))
front_verdict ph to l (names w t) n at (reads u hs m) (e, f, b, a) d =
    let k : counted l n ≡ n + 1 = ap (λ (y : Line). counted y n) e ∙ counted_name w (space ∷ (t ++ LF ∷ [])) n f b in
    same_good _ _ _ _ (omega (arith, k)) (omega (arith, named_length w t u hs l e))
front_verdict ph to l (continues t) n at (reads u hs m) (e, a) d =
    let k : counted l n ≡ n = ap (λ (y : Line). counted y n) e in
    same_good _ _ _ _ (omega (arith, k)) (omega (arith, spaced_length t u l e))
front_verdict ph to l wrong n at (reads u hs m) i d = absurd cc
front_verdict Phase.Tree to l empty n at (reads u hs m) i d = absurd cc
front_verdict (Phase.Parents k) to l empty n at (reads u hs m) i d = absurd cc
front_verdict Phase.Committer to l empty n at (reads u hs m) i d = absurd cc
front_verdict Phase.Others to l empty n at (reads u hs m) i d = absurd cc
front_verdict Phase.Under to l empty n at (reads u hs m) i d = absurd cc

turned_verdict_lem : (ph : Phase) (l : Line) (ls : List Line) (n at : ℕ) (w : Option Turn) (f : Phase → Verdict) (g : Phase → Reading) → step ph (shape l) ≡ w
    → ((to : Phase) → f to ≡ verdict (counted l n) (at + length l) (g to))
    → turned_verdict w n (counted l n) (at + length l) f ≡ verdict n at (turned w (shape l) (counted l n) ls g)
turned_verdict_lem ph l ls n at (Some (Turn.To to)) f g d h = h to ∙ front_verdict ph to l (shape l) n at (g to) (shape_is l) d
turned_verdict_lem ph l ls n at (Some Turn.End) f g d h =
    let i : l ≡ LF ∷ [] = subst (Is l) (end_empty ph (shape l) d) (shape_is l) in
    same_good _ _ _ _ (omega arith) (omega (arith, ap length i))
turned_verdict_lem ph l ls n at None f g d h = refl

pub judge_is : (ls : List Line) (ph : Phase) (n at : ℕ) → judge ph n at ls ≡ verdict n at (read ph n ls)
judge_is [] ph n at = refl
judge_is (l ∷ ls) ph n at =
    turned_verdict_lem ph l ls n at (step ph (shape l)) (λ (z : Phase). judge z (counted l n) (at + length l) ls) (λ (z : Phase). read z (counted l n) ls) refl
    (λ to. judge_is ls to (counted l n) (at + length l))

-- what an answer judges of the header
abbrev pub judged_by : Answer → Verdict
judged_by (accepted header message) = good (length header) (message_start header)
judged_by (refused k) = bad k

answer_judges : (content : List ℕ) (r : Reading) → read Phase.Tree 0 (lines content) ≡ r → verdict 0 0 r ≡ judged_by (answer r)
answer_judges content (stops k) e = refl
answer_judges content (reads u hs m) e =
    let g : reads u hs m ≡ reads [] hs m = sym e ∙ accepts content hs m (derives content 0 u hs m e) in
    let i : u ≡ [] = cc in
    same_good _ _ _ _ (omega arith) (omega (arith, ap length i))

pub judge-commit : (content : List ℕ) → judge Phase.Tree 0 0 (lines content) ≡ judged_by (commit content)
unfolding commit
judge-commit content = judge_is (lines content) Phase.Tree 0 0 ∙ answer_judges content (read Phase.Tree 0 (lines content)) refl
