-- The line at a place, by the places where its name and its text end. Assumes nothing.
use Rattle.std.specs.Prelude.{Option, None, if◌then◌else◌}
use mathlib.Core.Bool.{Bool, true, false, not}
use mathlib.Core.List.{List, [], ◌∷◌, ◌++◌, append_assoc, append-nil}
use mathlib.Core.Path.{◌≡◌, refl, sym, ap, subst, ◌∙◌}
use Prim.Native.Nat.{ℕ, suc, ◌+◌, ◌-◌, ◌≤◌, ◌<◌}
use native.Mathlib.Numerals.{add-one}
use native.Mathlib.Omega.{arith}
use borrow.Author.Tests.{ne_eqb}
use lib.Dec.{T, T_not, eqb, eqb→eq}
use lib.ListN.{length, take, drop, get_or, length-append, length-drop, drop_of_length-le}
use lib.Seq.{drop-cons, drop-drop, take-append_seam, drop-append_seam}
use Rattle.rules.specs.Bytes.{LF, space}
use Rattle.rules.specs.Lines.{Line, inner, lines, last}
use Rattle.rules.specs.Lists.{All, Stops, filled, run, past}
use Rattle.rules.proofs.Lists.{run_past, run_all, past_stops, all_append, all_of, is_true, is_false}
use Rattle.rules.proofs.Lines.{lines_only}
use Rattle.commit.specs.Grammar.{name_byte}
use Rattle.commit.specs.Reader.{Shape, empty, wrong, shape, unended, text_of, on_name, on_space, step, empty_line, spaced_line, named_line}
use Rattle.commit.proofs.Shapes.{continues_of, names_of, name_inner, not_lf, not_space}
use Rattle.commit.proofs.Accepts.{whole_line}
use Rattle.commit.specs.declared.Phase.{Phase}
use Rattle.commit.specs.declared.Turn.{Turn}
use Rattle.header.proofs.Laws.{run_on}
use Rattle.judge.specs.Scan.{LineTurn, turned}
use Rattle.judge.specs.declared.Turned.{Turned}

-- ---- shapes of lines that are not of the header's form

no_end : (t : List ℕ) → All inner t → text_of t ≡ unended
no_end [] a = refl
no_end (c ∷ t) a = rw (is_false (eqb c LF) a.0, no_end t a.1)

in_name : (c : ℕ) (s : List ℕ) → T (name_byte c) → shape (c ∷ s) ≡ on_name c (shape s)
in_name c s t = rw (not_lf c t, not_space c t)

name_wrong : (n : List ℕ) → All name_byte n → shape n ≡ wrong
name_wrong [] a = refl
name_wrong (c ∷ n) a = in_name c n a.0 ∙ ap (on_name c) (name_wrong n a.1)

lf_wrong : (n : List ℕ) → T (filled n) → All name_byte n → shape (n ++ LF ∷ []) ≡ wrong
lf_wrong [] f a = absurd f
lf_wrong (c ∷ []) f a = in_name c (LF ∷ []) a.0
lf_wrong (c ∷ d ∷ n) f a = in_name c (d ∷ (n ++ LF ∷ [])) a.0 ∙ ap (on_name c) (lf_wrong (d ∷ n) tt a.1)

text_wrong : (n t : List ℕ) → All name_byte n → All inner t → shape (n ++ space ∷ t) ≡ wrong
text_wrong [] t b a = ap on_space (no_end t a)
text_wrong (c ∷ n) t b a = in_name c (n ++ space ∷ t) b.0 ∙ ap (on_name c) (text_wrong n t b.1 a)

one_line : (w : List ℕ) → 0 < length w → All inner w → lines w ≡ w ∷ []
one_line [] h a = absurd (omega arith)
one_line (c ∷ t) h a = lines_only (last {c = c} {t = t} a)

-- ---- a run from a place on

pub record Cut (p : ℕ → Bool) (s : List ℕ) (at q : ℕ) : Type 0 where
  pub piece : List ℕ
  pub passes : All p piece
  pub splits : drop at s ≡ piece ++ drop q s
  pub long : q ≡ at + length piece
  pub stops : Stops p (drop q s)
  pub within : q ≤ length s

pub cut : (p : ℕ → Bool) (s : List ℕ) (at q : ℕ) → at ≤ length s → q ≡ at + length (run p (drop at s)) → Cut p s at q
cut p s at q h e =
    let w = drop at s in
    let r : run p w ++ past p w ≡ w = run_past p w in
    let d : past p w ≡ drop q s =
    sym (drop-append_seam (run p w) (past p w)) ∙ ap (drop (length (run p w))) r ∙ drop-drop (length (run p w)) at s ∙ ap (λ (i : ℕ). drop i s) (sym e) in
    record {
      piece = run p w;
      passes = run_all p w;
      splits = sym r ∙ ap (λ (z : List ℕ). run p w ++ z) d;
      long = e;
      stops = subst (Stops p) d (past_stops p w);
      within = omega (arith, length-append (run p w) (past p w), ap length r, length-drop at s);
    }

pub taken : (p : ℕ → Bool) (s : List ℕ) (at q : ℕ) (k : Cut p s at q) → take (q - at) (drop at s) ≡ k.piece
taken p s at q k =
    let i : q - at ≡ length k.piece = omega (arith, k.long) in
    ap (λ (z : ℕ). take z (drop at s)) i ∙ ap (take (length k.piece)) k.splits ∙ take-append_seam k.piece (drop q s)

-- what stands at its end
at_place : (s : List ℕ) (q : ℕ) → q < length s → drop q s ≡ get_or s q 0 ∷ drop (q + 1) s
at_place s q h = rw (add-one q, ← drop-cons s q 0 h)

stop_at : (p : ℕ → Bool) (s : List ℕ) (q : ℕ) → q < length s → Stops p (drop q s) → T (not (p (get_or s q 0)))
stop_at p s q h t = subst (Stops p) (at_place s q h) t

is_lf : (c : ℕ) → T (not (inner c)) → c ≡ LF
is_lf c t = go (eqb c LF) refl
  where
    go : (b : Bool) → eqb c LF ≡ b → c ≡ LF
    go true e = eqb→eq c LF (rw e tt)
    go false e = absurd (T_not (inner c) t (rw e tt))

is_space : (c : ℕ) → (c ≡ LF → ⊥) → T (not (name_byte c)) → c ≡ space
unfolding name_byte
is_space c n t = go (eqb c space) refl
  where
    go : (b : Bool) → eqb c space ≡ b → c ≡ space
    go true e = eqb→eq c space (rw e tt)
    go false e = absurd (T_not (name_byte c) t (rw (ne_eqb c LF n, e) tt))

-- from a line's start on the LF is found that is found behind its name and the space
run_behind : (p : ℕ → Bool) (a s : List ℕ) → All p a → length (run p (a ++ s)) ≡ length a + length (run p s)
run_behind p [] s t = omega arith
run_behind p (c ∷ a) s t = rw (is_true (p c) t.0) (omega (arith, run_behind p a s t.1))

pub behind_name : (s : List ℕ) (at q e : ℕ) → Cut name_byte s at q → q < length s → (get_or s q 0 ≡ LF → ⊥) → e ≡ at + length (run inner (drop at s))
    → e ≡ q + 1 + length (run inner (drop (q + 1) s))
behind_name s at q e k h n d =
    let name = ap (λ (z : List ℕ). length (run inner z)) k.splits ∙ run_behind inner k.piece (drop q s) (all_of name_byte inner name_inner k.piece k.passes) in
    let byte : inner (get_or s q 0) ≡ true = rw (ne_eqb (get_or s q 0) LF n) refl in
    omega (arith, d, name, run_on inner s q h byte, k.long)

-- ---- the six ends of a line

pub built : (s : List ℕ) (at : ℕ) (phase : Phase) (l : Line) (ls : List Line) (x : Shape) (e : ℕ) (r : Option Turned) → lines (drop at s) ≡ l ∷ ls → shape l ≡ x
    → e ≡ at + length l → r ≡ turned e (step phase x) → LineTurn s at phase r
built s at phase l ls x e r p q d t =
    record { line = l; rest = ls; splits = p; turns = t ∙ ap (λ (z : ℕ). turned z (step phase x)) d ∙ ap (λ (z : Shape). turned (at + length l) (step phase z)) (sym q) }

nothing : (s : List ℕ) (q : ℕ) → q ≡ length s → drop q s ≡ []
nothing s q e = let h : length s ≤ q = omega arith in drop_of_length-le s h

pub name_unended : (s : List ℕ) (at : ℕ) (phase : Phase) (q : ℕ) → at < length s → Cut name_byte s at q → q ≡ length s → LineTurn s at phase None
name_unended s at phase q h k e =
    let w : drop at s ≡ k.piece = k.splits ∙ ap (λ (z : List ℕ). k.piece ++ z) (nothing s q e) ∙ append-nil k.piece in
    built s at phase k.piece [] wrong q None
    (ap lines w ∙ one_line k.piece (omega (arith, k.long)) (all_of name_byte inner name_inner k.piece k.passes))
    (name_wrong k.piece k.passes) k.long refl

behind_lf : (s : List ℕ) (q : ℕ) → q < length s → get_or s q 0 ≡ LF → drop q s ≡ LF ∷ drop (q + 1) s
behind_lf s q h e = at_place s q h ∙ ap (λ (z : ℕ). z ∷ drop (q + 1) s) e

lf_lines : (s : List ℕ) (at q : ℕ) (k : Cut name_byte s at q) → q < length s → get_or s q 0 ≡ LF → lines (drop at s) ≡ (k.piece ++ LF ∷ []) ∷ lines (drop (q + 1) s)
lf_lines s at q k h e =
    ap lines (k.splits ∙ ap (λ (z : List ℕ). k.piece ++ z) (behind_lf s q h e))
    ∙ whole_line k.piece (drop (q + 1) s) (all_of name_byte inner name_inner k.piece k.passes)

lf_long : (s : List ℕ) (at q : ℕ) (k : Cut name_byte s at q) → q + 1 ≡ at + length (k.piece ++ LF ∷ [])
lf_long s at q k = omega (arith, k.long, length-append k.piece (LF ∷ []))

pub empty_line_lem : (s : List ℕ) (at : ℕ) (phase : Phase) (q : ℕ) (t : Option Turn) (r : Option Turned) → Cut name_byte s at q → q < length s → get_or s q 0 ≡ LF → q ≤ at
    → t ≡ empty_line phase → r ≡ turned (q + 1) t → LineTurn s at phase r
empty_line_lem s at phase q t r k h e d i j =
    built s at phase (k.piece ++ LF ∷ []) (lines (drop (q + 1) s)) empty (q + 1) r (lf_lines s at q k h e) (none k.piece (omega (arith, k.long))) (lf_long s at q k)
    (j ∙ ap (turned (q + 1)) i)
  where
    none : (n : List ℕ) → length n ≡ 0 → shape (n ++ LF ∷ []) ≡ empty
    none [] z = refl
    none (c ∷ n) z = absurd (omega arith)

some : (n : List ℕ) → 0 < length n → T (filled n)
some [] h = absurd (omega arith)
some (c ∷ n) h = tt

pub name_alone : (s : List ℕ) (at : ℕ) (phase : Phase) (q : ℕ) → Cut name_byte s at q → q < length s → get_or s q 0 ≡ LF → at < q → LineTurn s at phase None
name_alone s at phase q k h e n =
    built s at phase (k.piece ++ LF ∷ []) (lines (drop (q + 1) s)) wrong (q + 1) None (lf_lines s at q k h e)
    (lf_wrong k.piece (some k.piece (omega (arith, k.long, n))) k.passes) (lf_long s at q k) refl

-- a space ends the name
spaced_splits : (s : List ℕ) (at q e : ℕ) (k : Cut name_byte s at q) (j : Cut inner s (q + 1) e) → q < length s → (get_or s q 0 ≡ LF → ⊥)
    → drop at s ≡ k.piece ++ space ∷ (j.piece ++ drop e s)
spaced_splits s at q e k j h n =
    k.splits ∙ ap (λ (z : List ℕ). k.piece ++ z)
    (at_place s q h ∙ ap (λ (z : ℕ). z ∷ drop (q + 1) s) (is_space (get_or s q 0) n (stop_at name_byte s q h k.stops)) ∙ ap (λ (z : List ℕ). space ∷ z) j.splits)

names_inner : (s : List ℕ) (at q e : ℕ) (k : Cut name_byte s at q) (j : Cut inner s (q + 1) e) → All inner (k.piece ++ space ∷ j.piece)
names_inner s at q e k j = all_append inner k.piece (space ∷ j.piece) (all_of name_byte inner name_inner k.piece k.passes) (tt, j.passes)

pub text_unended : (s : List ℕ) (at : ℕ) (phase : Phase) (q e : ℕ) → Cut name_byte s at q → Cut inner s (q + 1) e → q < length s → (get_or s q 0 ≡ LF → ⊥) → e ≡ length s
    → LineTurn s at phase None
text_unended s at phase q e k j h n d =
    let w : drop at s ≡ k.piece ++ space ∷ j.piece =
    spaced_splits s at q e k j h n ∙ ap (λ (z : List ℕ). k.piece ++ space ∷ z) (ap (λ (z : List ℕ). j.piece ++ z) (nothing s e d) ∙ append-nil j.piece) in
    let l : length (k.piece ++ space ∷ j.piece) ≡ length k.piece + suc (length j.piece) = length-append k.piece (space ∷ j.piece) in
    built s at phase (k.piece ++ space ∷ j.piece) [] wrong e None (ap lines w ∙ one_line (k.piece ++ space ∷ j.piece) (omega (arith, l)) (names_inner s at q e k j))
    (text_wrong k.piece j.piece k.passes j.passes) (omega (arith, k.long, j.long, l)) refl

text_lines : (s : List ℕ) (at q e : ℕ) (k : Cut name_byte s at q) (j : Cut inner s (q + 1) e) → q < length s → (get_or s q 0 ≡ LF → ⊥) → e < length s
    → lines (drop at s) ≡ (k.piece ++ space ∷ (j.piece ++ LF ∷ [])) ∷ lines (drop (e + 1) s)
text_lines s at q e k j h n d =
    let i : drop e s ≡ LF ∷ drop (e + 1) s = behind_lf s e d (is_lf (get_or s e 0) (stop_at inner s e d j.stops)) in
    ap lines (spaced_splits s at q e k j h n ∙ ap (λ (z : List ℕ). k.piece ++ space ∷ (j.piece ++ z)) i
    ∙ sym (append_assoc k.piece (space ∷ j.piece) (LF ∷ drop (e + 1) s)))
    ∙ whole_line (k.piece ++ space ∷ j.piece) (drop (e + 1) s) (names_inner s at q e k j)
    ∙ ap (λ (z : Line). z ∷ lines (drop (e + 1) s)) (append_assoc k.piece (space ∷ j.piece) (LF ∷ []))

text_long : (s : List ℕ) (at q e : ℕ) (k : Cut name_byte s at q) (j : Cut inner s (q + 1) e) → e + 1 ≡ at + length (k.piece ++ space ∷ (j.piece ++ LF ∷ []))
text_long s at q e k j = omega (arith, k.long, j.long, length-append k.piece (space ∷ (j.piece ++ LF ∷ [])), length-append j.piece (LF ∷ []))

content_step : (phase : Phase) (n t : List ℕ) → All name_byte n → All inner t
    → step phase (shape (n ++ space ∷ (t ++ LF ∷ []))) ≡ (if filled n then named_line phase n t else spaced_line phase)
content_step phase [] t b a = ap (step phase) (continues_of t a)
content_step phase (c ∷ n) t b a = ap (step phase) (names_of (c ∷ n) t tt b a)

pub content_line : (s : List ℕ) (at : ℕ) (phase : Phase) (q e : ℕ) (t : Option Turn) (r : Option Turned) → Cut name_byte s at q → Cut inner s (q + 1) e → q < length s
    → (get_or s q 0 ≡ LF → ⊥) → e < length s
    → t ≡ (let n = take (q - at) (drop at s) in if filled n then named_line phase n (take (e - (q + 1)) (drop (q + 1) s)) else spaced_line phase)
    → r ≡ turned (e + 1) t → LineTurn s at phase r
content_line s at phase q e t r k j h n d u v =
    let l : Line = k.piece ++ space ∷ (j.piece ++ LF ∷ []) in
    built s at phase l (lines (drop (e + 1) s)) (shape l) (e + 1) r (text_lines s at q e k j h n d) refl (text_long s at q e k j)
    (v ∙ ap (turned (e + 1)) (rw (taken name_byte s at q k, taken inner s (q + 1) e j) at u ∙ sym (content_step phase k.piece j.piece k.passes j.passes)))
