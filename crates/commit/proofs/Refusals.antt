-- The reader's refusal is the one that the grammar defines, and there is one only (answer_says, answer_only). Every phase can be
-- completed (completes), and a line at which the reader stops leads to none. Assumes nothing.
use Rattle.std.specs.Prelude.{Option, Some, None}
use mathlib.Core.List.{List, [], ◌∷◌, ◌++◌, append_assoc, nil≢cons}
use mathlib.Core.Logic.{◌⊎◌, inl, inr}
use mathlib.Core.Path.{◌≡◌, refl, sym, ap, subst, ◌∙◌}
use Prim.Native.Nat.{ℕ, ◌-◌}
use Rattle.rules.specs.Bytes.{bytes, LF, space}
use Rattle.rules.specs.Lines.{Line, LinesOf, none, last, line, lines, LineStart}
use Rattle.rules.specs.Lists.{join}
use Rattle.rules.proofs.Lists.{Earlier, cuts, join-append}
use Rattle.rules.proofs.Lines.{lines-append, lines_of, lines_prefix}
use Rattle.commit.specs.Grammar.{four, hex_digit, HeaderLine, Good, counted, counts}
use Rattle.commit.specs.Reader.{Shape, empty, continues, names, wrong, shape}
use Rattle.commit.specs.Reader.{identifier, step, Reading, reads, stops, put, turned, read, answer, commit}
use Rattle.commit.specs.declared.Phase.{Phase}
use Rattle.commit.specs.declared.Turn.{Turn}
use Rattle.commit.specs.Place as place
use Rattle.commit.specs.Place.{Viable, Fault, Refusal, Answer, refused, Says}
use Rattle.commit.proofs.Shapes.{Is, shape_is}
use Rattle.commit.proofs.Accepts.{turn, accepts}
use Rattle.commit.proofs.Derives.{never, derives}

-- ---- readings that end well

abbrev pub Ok : Reading → Type 0
Ok (reads u hs m) = Unit {0}
Ok (stops k) = ⊥

put_ok : (x : Shape) (r : Reading) → Ok r → Ok (put x r)
put_ok empty r o = o
put_ok wrong r o = o
put_ok (continues t) (reads u hs m) o = tt
put_ok (continues t) (stops k) o = o
put_ok (names n t) (reads u hs m) o = tt
put_ok (names n t) (stops k) o = o

ok_put : (x : Shape) (r : Reading) → Ok (put x r) → Ok r
ok_put empty r o = o
ok_put wrong r o = o
ok_put (continues t) (reads u hs m) o = tt
ok_put (continues t) (stops k) o = o
ok_put (names n t) (reads u hs m) o = tt
ok_put (names n t) (stops k) o = o

ok_reads : (r : Reading) → Ok r → (u : List ℕ) × (hs : List HeaderLine) × (m : List ℕ) × (r ≡ reads u hs m)
ok_reads (reads u hs m) o = (u, hs, m, refl)
ok_reads (stops k) o = absurd o

-- ---- the lines from a phase to another

data Trail : Phase → List Line → Phase → Type 0 where
  here : {ph : Phase} → Trail ph [] ph
  further : {ph mid to : Phase} {l : Line} {ls : List Line} → step ph (shape l) ≡ Some (Turn.To mid) → Trail mid ls to → Trail ph (l ∷ ls) to

goes_on : {ph to : Phase} {b : List Line} (t : List Line) → Trail ph b to → ((k : ℕ) → Ok (read to k t)) → (k : ℕ) → Ok (read ph k (b ++ t))
goes_on t here h k = h k
goes_on t (further {ph = ph} {mid = mid} {l = l} {ls = ls} d x) h k =
    subst Ok (sym (turn ph mid l (shape l) k (ls ++ t) (read mid (counted l k) (ls ++ t)) refl d refl)) (put_ok (shape l) (read mid (counted l k) (ls ++ t)) (goes_on t x h (counted l k)))

stopped : (ph : Phase) (l : Line) (t : List Line) (k : ℕ) → step ph (shape l) ≡ None → read ph k (l ∷ t) ≡ stops (counted l k - 1)
stopped ph l t k d = ap (λ (w : Option Turn). turned w (shape l) (counted l k) t (λ (z : Phase). read z (counted l k) t)) d

goes_off : {ph to : Phase} {b : List Line} (l : Line) (t : List Line) → Trail ph b to → step to (shape l) ≡ None → (k : ℕ) → Ok (read ph k (b ++ l ∷ t)) → ⊥
goes_off l t (here {ph = ph}) f k o = subst Ok (stopped ph l t k f) o
goes_off l t (further {ph = ph} {mid = mid} {l = i} {ls = ls} d x) f k o =
    goes_off l t x f (counted i k) (ok_put (shape i) (read mid (counted i k) (ls ++ l ∷ t))
    (subst Ok (turn ph mid i (shape i) k (ls ++ l ∷ t) (read mid (counted i k) (ls ++ l ∷ t)) refl d refl) o))

-- ---- every phase can be completed

completes : (ph : Phase) → (s : List ℕ) × ((k : ℕ) → Ok (read ph k (lines s)))
unfolding four identifier hex_digit
completes Phase.Tree = (bytes "tree 0000000000000000000000000000000000000000\nauthor \ncommitter \n\n", λ k. tt)
completes (Phase.Parents size) = (bytes "author \ncommitter \n\n", λ k. tt)
completes Phase.Committer = (bytes "committer \n\n", λ k. tt)
completes Phase.Others = (bytes "\n", λ k. tt)
completes Phase.Under = (bytes "\n", λ k. tt)

-- ---- lines that end in LF

line_start : (t s : List ℕ) → LineStart s → LineStart ((t ++ LF ∷ []) ++ s)
line_start [] [] h = tt
line_start [] (c ∷ s) h = h
line_start (c ∷ []) s h = line_start [] s h
line_start (c ∷ d ∷ t) s h = line_start (d ∷ t) s h

ends_in_LF : (ph to : Phase) (l : Line) (x : Shape) → Is l x → step ph x ≡ Some (Turn.To to) → (t : List ℕ) × (l ≡ t ++ LF ∷ [])
ends_in_LF ph to l empty i d = ([], i)
ends_in_LF ph to l (continues t) (e, a) d = (space ∷ t, e)
ends_in_LF ph to l (names n t) (e, f, b, a) d = (n ++ space ∷ t, e ∙ sym (append_assoc n (space ∷ t) (LF ∷ [])))
ends_in_LF ph to l wrong i d = absurd cc

trail_start : {ph to : Phase} {b : List Line} → Trail ph b to → LineStart (join b)
trail_start here = tt
trail_start (further {ph = ph} {mid = mid} {l = l} {ls = ls} d x) =
    let (t, e) = ends_in_LF ph mid l (shape l) (shape_is l) d in
    subst (λ (z : Line). LineStart (z ++ join ls)) (sym e) (line_start t (join ls) (trail_start x))

-- lines read of a content, and other bytes behind them
lines_behind : (content : List ℕ) (b a : List Line) (s : List ℕ) → lines content ≡ b ++ a → LineStart (join b) → lines (join b ++ s) ≡ b ++ lines s
lines_behind content b a s e h = lines-append (join b) s h ∙ ap (λ (z : List Line). z ++ lines s) (lines_prefix content b a e)

-- ---- viable is not stopped

on_viable : (content : List ℕ) (b a : List Line) (to : Phase) → lines content ≡ b ++ a → Trail Phase.Tree b to → Viable b
on_viable content b a to e x =
    let (s, f) = completes to in
    let (u, hs, m, q) = ok_reads (read Phase.Tree 0 (b ++ lines s)) (goes_on (lines s) x f 0) in
    record {
      ended = trail_start x;
      behind = s;
      header = hs;
      message = m;
      good = derives (join b ++ s) 0 u hs m (ap (read Phase.Tree 0) (lines_behind content b a s e (trail_start x)) ∙ q);
    }

off_viable : (content : List ℕ) (b : List Line) (l : Line) (a : List Line) (to : Phase) → lines content ≡ b ++ l ∷ a → Trail Phase.Tree b to → step to (shape l) ≡ None
    → Viable (b ++ l ∷ []) → ⊥
off_viable content b l a to e x f v =
    let i : lines (join (b ++ l ∷ []) ++ v.behind) ≡ b ++ l ∷ lines v.behind =
    lines_behind content (b ++ l ∷ []) a v.behind (e ∙ sym (append_assoc b (l ∷ []) a)) v.ended ∙ append_assoc b (l ∷ []) (lines v.behind) in
    let q : reads [] v.header v.message ≡ read Phase.Tree 0 (b ++ l ∷ lines v.behind) =
    sym (accepts (join (b ++ l ∷ []) ++ v.behind) v.header v.message v.good) ∙ ap (read Phase.Tree 0) i in
    goes_off l (lines v.behind) x f 0 (subst Ok q tt)

-- ---- how a reading ends in a refusal

data Fate (to : Phase) (b : List Line) (n : ℕ) : List Line → ℕ → Type 0 where
  at_end : Fate to b n [] (counts b n)
  at_line : {l : Line} {a : List Line} → step to (shape l) ≡ None → Fate to b n (l ∷ a) (counts (b ++ l ∷ []) n - 1)

record Fall (ph : Phase) (n : ℕ) (ls : List Line) (k : ℕ) : Type 0 where
  before : List Line
  after : List Line
  to : Phase
  splits : ls ≡ before ++ after
  trail : Trail ph before to
  fate : Fate to before n after k

later : {to : Phase} {b : List Line} {n : ℕ} {a : List Line} (l : Line) {k : ℕ} → Fate to b (counted l n) a k → Fate to (l ∷ b) n a k
later l at_end = at_end
later l (at_line d) = at_line d

put_inv : (x : Shape) (r : Reading) (k : ℕ) → put x r ≡ stops k → r ≡ stops k
put_inv empty r k e = e
put_inv wrong r k e = e
put_inv (continues t) (reads u hs m) k e = absurd (never k _ _ _ (sym e))
put_inv (continues t) (stops j) k e = e
put_inv (names n t) (reads u hs m) k e = absurd (never k _ _ _ (sym e))
put_inv (names n t) (stops j) k e = e

falling : (ph : Phase) (l : Line) (ls : List Line) (n k : ℕ) (w : Option Turn) → step ph (shape l) ≡ w
    → ((to : Phase) → read to (counted l n) ls ≡ stops k → Fall to (counted l n) ls k)
    → turned w (shape l) (counted l n) ls (λ (z : Phase). read z (counted l n) ls) ≡ stops k → Fall ph n (l ∷ ls) k
falling ph l ls n k (Some (Turn.To mid)) d h e =
    let f = h mid (put_inv (shape l) (read mid (counted l n) ls) k e) in
    record {
      before = l ∷ f.before;
      after = f.after;
      to = f.to;
      splits = ap (λ (z : List Line). l ∷ z) f.splits;
      trail = further d f.trail;
      fate = later l f.fate;
    }
falling ph l ls n k (Some Turn.End) d h e = absurd (never k _ _ _ (sym e))
falling ph l ls n k None d h e =
    let q : counted l n - 1 ≡ k = number (counted l n - 1) k e in
    record { before = []; after = l ∷ ls; to = ph; splits = refl; trail = here; fate = subst (Fate ph [] n (l ∷ ls)) q (at_line d) }
  where
    number : (i j : ℕ) → stops i ≡ stops j → i ≡ j
    number i j q = cc

falls : (ls : List Line) (ph : Phase) (n k : ℕ) → read ph n ls ≡ stops k → Fall ph n ls k
falls [] ph n k e = let q : n ≡ k = cc in record { before = []; after = []; to = ph; splits = refl; trail = here; fate = subst (Fate ph [] n []) q at_end }
falls (l ∷ ls) ph n k e = falling ph l ls n k (step ph (shape l)) refl (λ to q. falls ls to (counted l n) k q) e

faulted : (content : List ℕ) (b a : List Line) (to : Phase) (k : ℕ) → lines content ≡ b ++ a → Trail Phase.Tree b to → Fate to b 0 a k → Fault b a k
faulted content b a to k e x at_end = place.Fault.end
faulted content b a to k e x (at_line {l = l} {a = r} d) = place.Fault.line (off_viable content b l r to e x d)

pub refuses : (content : List ℕ) (k : ℕ) → read Phase.Tree 0 (lines content) ≡ stops k → Refusal content k
refuses content k e =
    let f = falls (lines content) Phase.Tree 0 k e in
    record {
      none = λ h m g. never k [] h m (sym e ∙ accepts content h m g);
      before = f.before;
      after = f.after;
      splits = f.splits;
      viable = on_viable content f.before f.after f.to f.splits f.trail;
      fault = faulted content f.before f.after f.to k f.splits f.trail f.fate;
    }

says : (content : List ℕ) (r : Reading) → read Phase.Tree 0 (lines content) ≡ r → Says content (answer r)
says content (reads u hs m) e = place.Says.good (derives content 0 u hs m e)
says content (stops k) e = place.Says.none (refuses content k e)

-- the answer is what the grammar says of the content ..
pub answer_says : (content : List ℕ) → Says content (commit content)
unfolding commit
answer_says content = says content (read Phase.Tree 0 (lines content)) refl

-- ---- .. and no other is

line_behind : {s : List ℕ} {ls : List Line} (u : List Line) (w : Line) (v : List Line) → LinesOf s ls → ls ≡ u ++ w ∷ v → LineStart (join u)
line_behind [] w v r e = tt
line_behind (x ∷ u) w v none e = absurd (nil≢cons e)
line_behind (x ∷ []) w v (last {c = c} {t = t} a) e = let q : [] ≡ w ∷ v = cc in absurd (nil≢cons q)
line_behind (x ∷ y ∷ u) w v (last {c = c} {t = t} a) e = let q : [] ≡ y ∷ (u ++ w ∷ v) = cc in absurd (nil≢cons q)
line_behind (x ∷ u) w v (line {ls = ls} t a r) e =
    let h : x ≡ t ++ LF ∷ [] = cc in
    let q : ls ≡ u ++ w ∷ v = cc in
    subst (λ (z : Line). LineStart (z ++ join u)) (sym h) (line_start t (join u) (line_behind u w v r q))

-- fewer lines of the same content are viable too
viable_less : (content : List ℕ) (b : List Line) (l : Line) (x e : List Line) → lines content ≡ (b ++ l ∷ x) ++ e → Viable (b ++ l ∷ x) → Viable (b ++ l ∷ [])
viable_less content b l [] e q v = v
viable_less content b l (y ∷ x) e q v =
    let p : lines content ≡ (b ++ l ∷ []) ++ y ∷ (x ++ e) = q ∙ append_assoc b (l ∷ y ∷ x) e ∙ sym (append_assoc b (l ∷ []) (y ∷ (x ++ e))) in
    let j : join (b ++ l ∷ y ∷ x) ≡ join (b ++ l ∷ []) ++ join (y ∷ x) = ap join (sym (append_assoc b (l ∷ []) (y ∷ x))) ∙ join-append (b ++ l ∷ []) (y ∷ x) in
    let i : join (b ++ l ∷ y ∷ x) ++ v.behind ≡ join (b ++ l ∷ []) ++ (join (y ∷ x) ++ v.behind) =
    ap (λ (z : List ℕ). z ++ v.behind) j ∙ append_assoc (join (b ++ l ∷ [])) (join (y ∷ x)) v.behind in
    record {
      ended = line_behind (b ++ l ∷ []) y (x ++ e) (lines_of content) p;
      behind = join (y ∷ x) ++ v.behind;
      header = v.header;
      message = v.message;
      good = subst (λ (z : List ℕ). Good z v.header v.message) i v.good;
    }

fault_at : {b : List Line} {l : Line} {y : List Line} {k : ℕ} → Fault b (l ∷ y) k → Viable (b ++ l ∷ []) → ⊥
fault_at (place.Fault.line f) = f

not_earlier : (content : List ℕ) (b a d e : List Line) (k : ℕ) → lines content ≡ d ++ e → Fault b a k → Viable d → Earlier b a d → ⊥
not_earlier content b a d e k q f v (l, x, y, i, j) =
    fault_at (subst (λ (z : List Line). Fault b z k) i f)
    (viable_less content b l x e (q ∙ ap (λ (z : List Line). z ++ e) j) (subst Viable j v))

number_same : {b a : List Line} {n m : ℕ} → Fault b a n → Fault b a m → n ≡ m
number_same (place.Fault.line x) (place.Fault.line y) = refl
number_same place.Fault.end place.Fault.end = refl

pub refusal_same : (content : List ℕ) (n m : ℕ) → Refusal content n → Refusal content m → n ≡ m
refusal_same content n m x y = go (cuts x.before x.after y.before y.after (sym x.splits ∙ y.splits))
  where
    go : ((x.before ≡ y.before) × (x.after ≡ y.after)) ⊎ (Earlier x.before x.after y.before ⊎ Earlier y.before y.after x.before) → n ≡ m
    go (inl (p, q)) = number_same (rw (p, q) at x.fault) y.fault
    go (inr (inl e)) = absurd (not_earlier content x.before x.after y.before y.after n y.splits x.fault y.viable e)
    go (inr (inr e)) = absurd (not_earlier content y.before y.after x.before x.after m x.splits y.fault x.viable e)

only : (content : List ℕ) (a b : Answer) → Says content b → Says content a → a ≡ b
only content a b (place.Says.good {header = h} {message = m} x) (place.Says.good {header = g} {message = n} y) =
    let e : reads [] g n ≡ reads [] h m = sym (accepts content g n y) ∙ accepts content h m x in
    cc
only content a b (place.Says.good {header = h} {message = m} x) (place.Says.none y) = absurd (y.none h m x)
only content a b (place.Says.none x) (place.Says.good {header = h} {message = m} y) = absurd (x.none h m y)
only content a b (place.Says.none {number = n} x) (place.Says.none {number = m} y) = ap refused (refusal_same content m n y x)

pub answer_only : (content : List ℕ) (a : Answer) → Says content a → a ≡ commit content
answer_only content a x = only content a (commit content) (answer_says content) x
