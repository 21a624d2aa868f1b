-- What is read is good (derives): what is read from a phase on completes it. Assumes nothing.
use Rattle.std.specs.Prelude.{Option, Some, None, if◌then◌else◌}
use mathlib.Core.Bool.{Bool, true, false, not}
use mathlib.Core.List.{List, [], ◌∷◌, ◌++◌, append_assoc, append-nil}
use mathlib.Core.Path.{◌≡◌, refl, sym, ap, subst, ◌∙◌}
use Prim.Native.Nat.{ℕ, ◌-◌}
use lib.Dec.{T, eqb, eqb→eq}
use lib.ListN.{length}
use Rattle.rules.specs.Bytes.{bytes, LF, space}
use Rattle.rules.specs.Lines.{Line, inner, lines}
use Rattle.rules.specs.Lists.{All, all, equal, filled, join}
use Rattle.rules.proofs.Lists.{and_left, and_right, equal_is}
use Rattle.rules.proofs.Lines.{join-lines}
use Rattle.commit.specs.Grammar.{name_byte, four, hex_digit, sha1, sha256, Identifier, HeaderLine, named, written_all, Continued, Others, Good, counted}
use Rattle.commit.specs.Reader.{Shape, empty, continues, names, wrong, shape}
use Rattle.commit.specs.Reader.{identifier, empty_line, named_line, step, Reading, reads, stops, put, turned, read}
use Rattle.commit.specs.declared.Phase.{Phase}
use Rattle.commit.specs.declared.Turn.{Turn}
use Rattle.commit.proofs.Shapes.{Is, shape_is, T_all}
use Rattle.commit.proofs.Completing.{Completing, tree, parent, author, committer, others, under, completing_good, all_written}

-- what may continue the line above a phase
abbrev Above : Phase → List ℕ → Type 0
Above Phase.Tree u = u ≡ []
Above (Phase.Parents size) u = u ≡ []
Above Phase.Committer u = u ≡ []
Above Phase.Others u = u ≡ []
Above Phase.Under u = Continued u

record Rest (ph : Phase) (ls : List Line) (u : List ℕ) (hs : List HeaderLine) (m : List ℕ) : Type 0 where
  text : LF ∷ join ls ≡ u ++ LF ∷ (written_all hs ++ LF ∷ m)
  above : Above ph u
  fields : Completing ph hs

-- ---- a line in front, by what it does

abbrev After : List ℕ → List HeaderLine → Option Turn → Type 0
After u hs (Some (Turn.To to)) = Above to u × Completing to hs
After u hs (Some Turn.End) = ⊥
After u hs None = ⊥

either : {Q : Type 0} (P : Option Turn → Type 0) (b : Bool) (x y : Option Turn) → (T b → P x → Q) → (T (not b) → P y → Q) → P (if b then x else y) → Q
either P true x y f g = f tt
either P false x y f g = g tt

no_more : (n t u : List ℕ) (k : List ℕ) → T (equal n k) → u ≡ [] → named n (t ++ u) ≡ named k t
no_more n t u k e d =
    let i : n ≡ k = equal_is n k e in
    let j : t ++ u ≡ t = ap (λ (z : List ℕ). t ++ z) d ∙ append-nil t in
    cc

identified : (size : ℕ) (t : List ℕ) → T (identifier size t) → Identifier size t
unfolding identifier
identified size t i =
    record {
      long = eqb→eq (length t) size (and_left (eqb (length t) size) (all hex_digit t) i);
      digits = T_all hex_digit t (and_right (eqb (length t) size) (all hex_digit t) i);
    }

after : (u : List ℕ) (hs : List HeaderLine) (w : Option Turn) (to : Phase) → w ≡ Some (Turn.To to) → Above to u × Completing to hs → After u hs w
after u hs w to e x = rw e x

other_on : (n t u : List ℕ) (hs : List HeaderLine) → T (filled n) → All name_byte n → All inner t → T (not (four n)) → After u hs (Some (Turn.To Phase.Under)) → Others (named n (t ++ u) ∷ hs)
other_on n t u hs f b a d (c, under os) = Others.more t (record { some = f; name_bytes = b; none_of_four = d }) a c os

named_front : (ph : Phase) (n t u : List ℕ) (hs : List HeaderLine) → T (filled n) → All name_byte n → All inner t → After u hs (named_line ph n t)
    → Above ph [] × Completing ph (named n (t ++ u) ∷ hs)
named_front Phase.Tree n t u hs f b a =
    either (After u hs) (equal n (bytes "tree")) _ None
    (λ e. either (After u hs) (identifier 40 t) (Some (Turn.To (Phase.Parents 40))) _
    (λ i x. (refl, rw (no_more n t u (bytes "tree") e x.0) (tree sha1 (identified 40 t i) x.1)))
    (λ j. either (After u hs) (identifier 64 t) (Some (Turn.To (Phase.Parents 64))) None
    (λ i x. (refl, rw (no_more n t u (bytes "tree") e x.0) (tree sha256 (identified 64 t i) x.1)))
    (λ i x. absurd x)))
    (λ e x. absurd x)
named_front (Phase.Parents k) n t u hs f b a =
    either (After u hs) (equal n (bytes "parent")) _ _
    (λ e. either (After u hs) (identifier k t) (Some (Turn.To (Phase.Parents k))) None
    (λ i x. (refl, rw (no_more n t u (bytes "parent") e x.0) (parent (identified k t i) x.1)))
    (λ i x. absurd x))
    (λ d. either (After u hs) (equal n (bytes "author")) (Some (Turn.To Phase.Committer)) None
    (λ e x. (refl, rw (no_more n t u (bytes "author") e x.0) (author a x.1)))
    (λ e x. absurd x))
named_front Phase.Committer n t u hs f b a =
    either (After u hs) (equal n (bytes "committer")) (Some (Turn.To Phase.Others)) None
    (λ e x. (refl, rw (no_more n t u (bytes "committer") e x.0) (committer a x.1)))
    (λ e x. absurd x)
named_front Phase.Others n t u hs f b a =
    either (After u hs) (four n) None (Some (Turn.To Phase.Under)) (λ e x. absurd x) (λ d x. (refl, others (other_on n t u hs f b a d x)))
named_front Phase.Under n t u hs f b a =
    either (After u hs) (four n) None (Some (Turn.To Phase.Under)) (λ e x. absurd x) (λ d x. (Continued.none, under (other_on n t u hs f b a d x)))

-- ---- and its bytes

named_text : (n t u s w : List ℕ) → LF ∷ s ≡ u ++ LF ∷ w → (n ++ space ∷ (t ++ LF ∷ [])) ++ s ≡ n ++ space ∷ ((t ++ u) ++ LF ∷ w)
named_text n t u s w e =
    append_assoc n (space ∷ (t ++ LF ∷ [])) s
    ∙ ap (λ (z : List ℕ). n ++ space ∷ z) (append_assoc t (LF ∷ []) s ∙ ap (λ (z : List ℕ). t ++ z) e ∙ sym (append_assoc t u (LF ∷ w)))

spaced_text : (t u s w : List ℕ) → LF ∷ s ≡ u ++ w → (t ++ LF ∷ []) ++ s ≡ (t ++ u) ++ w
spaced_text t u s w e = append_assoc t (LF ∷ []) s ∙ ap (λ (z : List ℕ). t ++ z) e ∙ sym (append_assoc t u w)

-- what is read with a line in front completes the phase before it
Front : Phase → Line → List Line → Reading → Type 0
Front ph l ls (reads u hs m) = Rest ph (l ∷ ls) u hs m
Front ph l ls (stops k) = ⊥

front : (ph to : Phase) (l : Line) (x : Shape) (ls : List Line) (u : List ℕ) (hs : List HeaderLine) (m : List ℕ) → Is l x → step ph x ≡ Some (Turn.To to) → Rest to ls u hs m
    → Front ph l ls (put x (reads u hs m))
unfolding Front
front Phase.Tree to l empty ls u hs m i d r = absurd cc
front (Phase.Parents k) to l empty ls u hs m i d r = absurd cc
front Phase.Committer to l empty ls u hs m i d r = absurd cc
front Phase.Others to l empty ls u hs m i d r = absurd cc
front Phase.Under to l empty ls u hs m i d r = absurd cc
front ph to l wrong ls u hs m i d r = absurd cc
front Phase.Tree to l (continues t) ls u hs m i d r = absurd cc
front (Phase.Parents k) to l (continues t) ls u hs m i d r = absurd cc
front Phase.Committer to l (continues t) ls u hs m i d r = absurd cc
front Phase.Others to l (continues t) ls u hs m i d r = absurd cc
front Phase.Under to l (continues t) ls u hs m (e, a) d r =
    let q : to ≡ Phase.Under = cc in
    let x : Rest Phase.Under ls u hs m = rw q at r in
    record {
      text = ap (λ (z : List ℕ). LF ∷ (z ++ join ls)) e ∙ ap (λ (z : List ℕ). LF ∷ space ∷ z) (spaced_text t u (join ls) (LF ∷ (written_all hs ++ LF ∷ m)) r.text);
      above = Continued.more t a x.above;
      fields = x.fields;
    }
front ph to l (names n t) ls u hs m (e, f, b, a) d r =
    let x : Above ph [] × Completing ph (named n (t ++ u) ∷ hs) = named_front ph n t u hs f b a (after u hs (named_line ph n t) to d (r.above, r.fields)) in
    record {
      text = ap (λ (z : List ℕ). LF ∷ (z ++ join ls)) e
          ∙ ap (λ (z : List ℕ). LF ∷ z) (named_text n t u (join ls) (written_all hs ++ LF ∷ m) r.text ∙ sym (all_written n (t ++ u) hs (LF ∷ m)));
      above = x.0;
      fields = x.1;
    }

-- ---- the empty line

abbrev NotEnd : Option Turn → Type 0
NotEnd (Some (Turn.To ph)) = Unit {0}
NotEnd (Some Turn.End) = ⊥
NotEnd None = Unit {0}

both : (P : Option Turn → Type 0) (b : Bool) (x y : Option Turn) → P x → P y → P (if b then x else y)
both P true x y f g = f
both P false x y f g = g

not_end : (ph : Phase) (n t : List ℕ) → NotEnd (named_line ph n t)
not_end Phase.Tree n t =
    both NotEnd (equal n (bytes "tree")) _ None (both NotEnd (identifier 40 t) (Some (Turn.To (Phase.Parents 40))) _ tt (both NotEnd (identifier 64 t) (Some (Turn.To (Phase.Parents 64))) None tt tt)) tt
not_end (Phase.Parents k) n t =
    both NotEnd (equal n (bytes "parent")) _ _ (both NotEnd (identifier k t) (Some (Turn.To (Phase.Parents k))) None tt tt) (both NotEnd (equal n (bytes "author")) (Some (Turn.To Phase.Committer)) None tt tt)
not_end Phase.Committer n t = both NotEnd (equal n (bytes "committer")) (Some (Turn.To Phase.Others)) None tt tt
not_end Phase.Others n t = both NotEnd (four n) None (Some (Turn.To Phase.Under)) tt tt
not_end Phase.Under n t = both NotEnd (four n) None (Some (Turn.To Phase.Under)) tt tt

pub end_empty : (ph : Phase) (x : Shape) → step ph x ≡ Some Turn.End → x ≡ empty
end_empty ph empty d = refl
end_empty ph (names n t) d = absurd (rw d at (not_end ph n t))
end_empty ph wrong d = absurd cc
end_empty Phase.Tree (continues t) d = absurd cc
end_empty (Phase.Parents k) (continues t) d = absurd cc
end_empty Phase.Committer (continues t) d = absurd cc
end_empty Phase.Others (continues t) d = absurd cc
end_empty Phase.Under (continues t) d = absurd cc

ending : (ph : Phase) → empty_line ph ≡ Some Turn.End → Above ph [] × Completing ph []
ending Phase.Tree d = absurd cc
ending (Phase.Parents k) d = absurd cc
ending Phase.Committer d = absurd cc
ending Phase.Others d = (refl, others Others.none)
ending Phase.Under d = (Continued.none, under Others.none)

ends : (ph : Phase) (l : Line) (ls : List Line) → step ph (shape l) ≡ Some Turn.End → Rest ph (l ∷ ls) [] [] (join ls)
ends ph l ls d =
    let e : shape l ≡ empty = end_empty ph (shape l) d in
    let i : l ≡ LF ∷ [] = subst (Is l) e (shape_is l) in
    let x : Above ph [] × Completing ph [] = ending ph (sym (ap (step ph) e) ∙ d) in
    record { text = ap (λ (z : List ℕ). LF ∷ (z ++ join ls)) i; above = x.0; fields = x.1 }

-- ---- the lines

pub put_stops : (x : Shape) (k : ℕ) → put x (stops k) ≡ stops k
put_stops empty k = refl
put_stops (continues t) k = refl
put_stops (names n t) k = refl
put_stops wrong k = refl

pub never : (k : ℕ) (u : List ℕ) (hs : List HeaderLine) (m : List ℕ) → stops k ≡ reads u hs m → ⊥
never k u hs m e = cc

put_front : (ph to : Phase) (l : Line) (ls : List Line) (r : Reading) (u : List ℕ) (hs : List HeaderLine) (m : List ℕ) → step ph (shape l) ≡ Some (Turn.To to)
    → ((v : List ℕ) (is : List HeaderLine) (o : List ℕ) → r ≡ reads v is o → Rest to ls v is o) → put (shape l) r ≡ reads u hs m → Rest ph (l ∷ ls) u hs m
unfolding Front
put_front ph to l ls (reads v is o) u hs m d h e = rw e at (front ph to l (shape l) ls v is o (shape_is l) d (h v is o refl))
put_front ph to l ls (stops k) u hs m d h e = absurd (never k u hs m (sym (put_stops (shape l) k) ∙ e))

turned_front : (ph : Phase) (l : Line) (ls : List Line) (k : ℕ) (w : Option Turn) (g : Phase → Reading) (u : List ℕ) (hs : List HeaderLine) (m : List ℕ) → step ph (shape l) ≡ w
    → ((to : Phase) (v : List ℕ) (is : List HeaderLine) (o : List ℕ) → g to ≡ reads v is o → Rest to ls v is o) → turned w (shape l) k ls g ≡ reads u hs m → Rest ph (l ∷ ls) u hs m
unfolding Front
turned_front ph l ls k (Some (Turn.To to)) g u hs m d h e = put_front ph to l ls (g to) u hs m d (h to) e
turned_front ph l ls k (Some Turn.End) g u hs m d h e = subst (Front ph l ls) e (ends ph l ls d)
turned_front ph l ls k None g u hs m d h e = absurd (never (k - 1) u hs m e)

completed : (ls : List Line) (ph : Phase) (n : ℕ) (u : List ℕ) (hs : List HeaderLine) (m : List ℕ) → read ph n ls ≡ reads u hs m → Rest ph ls u hs m
completed [] ph n u hs m e = absurd (never n u hs m e)
completed (l ∷ ls) ph n u hs m e =
    turned_front ph l ls (counted l n) (step ph (shape l)) (λ (z : Phase). read z (counted l n) ls) u hs m refl
    (λ to v is o q. completed ls to (counted l n) v is o q) e

pub derives : (content : List ℕ) (n : ℕ) (u : List ℕ) (header : List HeaderLine) (message : List ℕ) → read Phase.Tree n (lines content) ≡ reads u header message
    → Good content header message
derives content n u header message e =
    let r = completed (lines content) Phase.Tree n u header message e in
    completing_good r.fields (let q : LF ∷ join (lines content) ≡ LF ∷ (written_all header ++ LF ∷ message) = rw r.above at r.text in
    let j = join-lines content in cc)
