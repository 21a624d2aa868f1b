-- What is judged from a line on, and what is seen of the line asked for. Assumes nothing.
use Rattle.std.specs.Prelude.{Option, Some, None, if◌then◌else◌}
use mathlib.Core.Bool.{true, false}
use mathlib.Core.List.{List, [], ◌∷◌, ◌++◌}
use mathlib.Core.Path.{◌≡◌, refl, sym, ap, subst, ◌∙◌}
use Prim.Native.Nat.{ℕ, suc, ◌+◌, ◌-◌, ◌≤◌, ◌<◌}
use native.Mathlib.Omega.{arith}
use lib.Dec.{T, eqb}
use lib.ListN.{length, drop, get_or, length-append, length-drop, drop_of_length-le}
use lib.Seq.{drop-cons, drop-drop, drop-append_seam}
use Rattle.rules.specs.Bytes.{LF, space}
use Rattle.rules.specs.Lines.{Line, lines}
use Rattle.rules.specs.Lists.{All, filled, join}
use Rattle.rules.specs.declared.Part.{Part}
use Rattle.rules.proofs.Lists.{filled_some}
use Rattle.rules.proofs.Lines.{join-lines, filled-lines, lines_suffix}
use Rattle.commit.specs.Grammar.{counted}
use Rattle.commit.specs.Place.{refused}
use Rattle.commit.specs.Reader.{commit, shape, step, Verdict, good, bad, turned_verdict, judge}
use Rattle.commit.specs.declared.Phase.{Phase}
use Rattle.commit.specs.declared.Turn.{Turn}
use Rattle.commit.proofs.Shapes.{Is, shape_is}
use Rattle.commit.proofs.Derives.{end_empty}
use Rattle.judge.specs.Scan.{LineTurn, turned, begun, begins, GoodHeader}
use Rattle.judge.specs.declared.Turned.{Turned}
use Rattle.judge.proofs.Begins.{begins_stays, good_header, bad_header}

-- the first of the lines is not empty, and is the front of them all
line_filled : (s : List ℕ) (l : Line) (ls : List Line) → lines s ≡ l ∷ ls → T (filled l)
line_filled s l ls e = let a : All filled (l ∷ ls) = subst (All filled) e (filled-lines s) in a.0

line_front : (s : List ℕ) (l : Line) (ls : List Line) → lines s ≡ l ∷ ls → s ≡ l ++ join ls
line_front s l ls e = sym (join-lines s) ∙ ap join e

lines_behind : (s : List ℕ) (l : Line) (ls : List Line) → lines s ≡ l ∷ ls → lines (drop (length l) s) ≡ ls
lines_behind s l ls e = ap lines (ap (drop (length l)) (line_front s l ls e) ∙ drop-append_seam l (join ls)) ∙ lines_suffix s (l ∷ []) ls e

first_byte : (c : ℕ) (w : List ℕ) (l : Line) (r : List ℕ) (n : ℕ) → c ∷ w ≡ l ++ r → T (filled l) → counted l n ≡ (if eqb c space then n else n + 1)
first_byte c w [] r n e f = absurd f
first_byte c w (d ∷ l) r n e f = let i : d ≡ c = cc in ap (λ (z : ℕ). if eqb z space then n else n + 1) i

-- the lines counted with the one at a place
abbrev pub count_at : List ℕ → ℕ → ℕ → ℕ
count_at s at n = if eqb (get_or s at 0) 32 then n else n + 1

count_at_lem : (s : List ℕ) (at n : ℕ) (l : Line) (ls : List Line) → at < length s → lines (drop at s) ≡ l ∷ ls → counted l n ≡ count_at s at n
count_at_lem s at n l ls h e =
    first_byte (get_or s at 0) (drop (suc at) s) l (join ls) n (sym (drop-cons s at 0 h) ∙ line_front (drop at s) l ls e) (line_filled (drop at s) l ls e)

-- ---- a line with a turn

-- the line at a place, what it does there, and where it ends
pub record Goes (s : List ℕ) (at : ℕ) (phase : Phase) (r : Turned) : Type 0 where
  pub line : Line
  pub rest : List Line
  pub splits : lines (drop at s) ≡ line ∷ rest
  pub turns : Some r.turn ≡ step phase (shape line)
  pub ends : r.end ≡ at + length line

pub goes : {s : List ℕ} {at : ℕ} {phase : Phase} {r : Turned} → LineTurn s at phase (Some r) → Goes s at phase r
goes {at = at} {phase = phase} {r = r} t =
    let i = by (step phase (shape t.line)) t.turns in
    record { line = t.line; rest = t.rest; splits = t.splits; turns = i.0; ends = i.1 }
  where
    by : (x : Option Turn) → Some r ≡ turned (at + length t.line) x → (Some r.turn ≡ x) × (r.end ≡ at + length t.line)
    by (Some u) e = let i : r ≡ record { turn = u; end = at + length t.line } = cc in (ap (λ (z : Turned). Some z.turn) i, ap (λ (z : Turned). z.end) i)
    by None e = absurd cc

-- no line of a good header
stays : {s : List ℕ} {at : ℕ} {phase : Phase} (t : LineTurn s at phase None) → step phase (shape t.line) ≡ None
stays {at = at} {phase = phase} t = by (step phase (shape t.line)) t.turns
  where
    by : (x : Option Turn) → None ≡ turned (at + length t.line) x → x ≡ None
    by (Some u) e = absurd cc
    by None e = refl

lines_next : (s : List ℕ) (at : ℕ) (phase : Phase) (r : Turned) (t : Goes s at phase r) → t.rest ≡ lines (drop r.end s)
lines_next s at phase r t =
    sym (lines_behind (drop at s) t.line t.rest t.splits) ∙ ap lines (drop-drop (length t.line) at s ∙ ap (λ (i : ℕ). drop i s) (sym t.ends))

pub later : (s : List ℕ) (at : ℕ) (phase : Phase) (r : Turned) → Goes s at phase r → at < r.end
later s at phase r t = omega (arith, t.ends, filled_some t.line (line_filled (drop at s) t.line t.rest t.splits))

pub within : (s : List ℕ) (at : ℕ) (phase : Phase) (r : Turned) → at ≤ length s → Goes s at phase r → r.end ≤ length s
within s at phase r h t =
    omega (arith, t.ends, ap length (line_front (drop at s) t.line t.rest t.splits), length-append t.line (join t.rest), length-drop at s)

-- what is judged from a line on, by its turn
Next : List ℕ → ℕ → ℕ → ℕ → Option Turn → Verdict
Next s at n e w = turned_verdict w n (count_at s at n) e (λ (to : Phase). judge to (count_at s at n) e (lines (drop e s)))

judged_on : (s : List ℕ) (at : ℕ) (phase : Phase) (n : ℕ) (r : Turned) → at < length s → Goes s at phase r
    → judge phase n at (lines (drop at s)) ≡ Next s at n r.end (Some r.turn)
unfolding Next
judged_on s at phase n r h t =
    ap (judge phase n at) t.splits
    ∙ ap (λ (w : Option Turn). turned_verdict w n (counted t.line n) (at + length t.line) (λ (to : Phase). judge to (counted t.line n) (at + length t.line) t.rest)) (sym t.turns)
    ∙ ap (λ (k : ℕ). turned_verdict (Some r.turn) n k (at + length t.line) (λ (to : Phase). judge to k (at + length t.line) t.rest)) (count_at_lem s at n t.line t.rest h t.splits)
    ∙ ap (λ (i : ℕ). turned_verdict (Some r.turn) n (count_at s at n) i (λ (to : Phase). judge to (count_at s at n) i t.rest)) (sym t.ends)
    ∙ ap (λ (z : List Line). turned_verdict (Some r.turn) n (count_at s at n) r.end (λ (to : Phase). judge to (count_at s at n) r.end z)) (lines_next s at phase r t)

at_fault : (s : List ℕ) (at : ℕ) (phase : Phase) (n : ℕ) → at < length s → LineTurn s at phase None
    → judge phase n at (lines (drop at s)) ≡ bad (count_at s at n - 1)
at_fault s at phase n h t =
    ap (judge phase n at) t.splits
    ∙ ap (λ (w : Option Turn). turned_verdict w n (counted t.line n) (at + length t.line) (λ (to : Phase). judge to (counted t.line n) (at + length t.line) t.rest)) (stays t)
    ∙ ap (λ (k : ℕ). bad (k - 1)) (count_at_lem s at n t.line t.rest h t.splits)

at_empty : (s : List ℕ) (at : ℕ) (phase : Phase) (n : ℕ) (r : Turned) → at < length s → Goes s at phase r → r.turn ≡ Turn.End
    → judge phase n at (lines (drop at s)) ≡ good n r.end
unfolding Next
at_empty s at phase n r h t e = judged_on s at phase n r h t ∙ ap (λ (w : Turn). Next s at n r.end (Some w)) e

at_next : (s : List ℕ) (at : ℕ) (phase to : Phase) (n : ℕ) (r : Turned) → at < length s → Goes s at phase r → r.turn ≡ Turn.To to
    → judge phase n at (lines (drop at s)) ≡ judge to (count_at s at n) r.end (lines (drop r.end s))
unfolding Next
at_next s at phase to n r h t e = judged_on s at phase n r h t ∙ ap (λ (w : Turn). Next s at n r.end (Some w)) e

at_end : (s : List ℕ) (at n : ℕ) (ph : Phase) → length s ≤ at → judge ph n at (lines (drop at s)) ≡ bad n
at_end s at n ph h = ap (λ (z : List ℕ). judge ph n at (lines z)) (drop_of_length-le s h)

count_le : (s : List ℕ) (at n : ℕ) → count_at s at n ≤ n + 1
count_le s at n = elim (eqb (get_or s at 0) 32) as (λ b. (if b then n else n + 1) ≤ n + 1) [ true ↦ omega arith | false ↦ omega arith ]

-- ---- where the line of a number begins

begins_next : (s : List ℕ) (at : ℕ) (phase : Phase) (n k seen : ℕ) (r : Turned) → at < length s → Goes s at phase r
    → begins k n at seen (lines (drop at s)) ≡ begins k (count_at s at n) r.end (begun k n at seen) (lines (drop r.end s))
begins_next s at phase n k seen r h t =
    ap (begins k n at seen) t.splits
    ∙ ap (λ (i : ℕ). begins k i (at + length t.line) (begun k n at seen) t.rest) (count_at_lem s at n t.line t.rest h t.splits)
    ∙ ap (λ (i : ℕ). begins k (count_at s at n) i (begun k n at seen) t.rest) (sym t.ends)
    ∙ ap (begins k (count_at s at n) r.end (begun k n at seen)) (lines_next s at phase r t)

-- the empty line is counted
empty_counts : (s : List ℕ) (at : ℕ) (phase : Phase) (n : ℕ) (r : Turned) → at < length s → Goes s at phase r → r.turn ≡ Turn.End → count_at s at n ≡ n + 1
empty_counts s at phase n r h t e =
    let d : step phase (shape t.line) ≡ Some Turn.End = sym t.turns ∙ ap (λ (w : Turn). Some w) e in
    let i : t.line ≡ LF ∷ [] = subst (Is t.line) (end_empty phase (shape t.line) d) (shape_is t.line) in
    sym (count_at_lem s at n t.line t.rest h t.splits) ∙ ap (λ (l : Line). counted l n) i

-- at the empty line, what is seen of a line before it is right
begins_seen : (s : List ℕ) (at : ℕ) (phase : Phase) (n k seen : ℕ) (r : Turned) → at < length s → Goes s at phase r → r.turn ≡ Turn.End → k ≤ n
    → begins k n at seen (lines (drop at s)) ≡ begun k n at seen
begins_seen s at phase n k seen r h t e b =
    begins_next s at phase n k seen r h t
    ∙ begins_stays (lines (drop r.end s)) k (count_at s at n) r.end (begun k n at seen) (omega (arith, empty_counts s at phase n r h t e))

-- ---- the scan

-- at a line's start: what is judged and what begins from here on is what did from the front on
pub record Scanned (s : List ℕ) (k at n : ℕ) (phase : Phase) (line : Part) : Type 0 where
  pub inside : at ≤ length s
  pub fewer : n ≤ at
  pub judges : judge Phase.Tree 0 0 (lines s) ≡ judge phase n at (lines (drop at s))
  pub starts : begins k 0 0 0 (lines s) ≡ begins k n at line.start (lines (drop at s))
  pub ends : begins (suc k) 0 0 0 (lines s) ≡ begins (suc k) n at line.end (lines (drop at s))

-- what is seen of the line asked for, with the line at a place
pub record Followed (k n at : ℕ) (line seen : Part) : Type 0 where
  pub start_is : seen.start ≡ begun k n at line.start
  pub end_is : seen.end ≡ begun (suc k) n at line.end

pub scan_next : (s : List ℕ) (k at n : ℕ) (phase to : Phase) (m : ℕ) (line seen : Part) (r : Turned) → Scanned s k at n phase line → at < length s
    → LineTurn s at phase (Some r) → Followed k n at line seen → m ≡ count_at s at n → r.turn ≡ Turn.To to → Scanned s k r.end m to seen
scan_next s k at n phase to m line seen r c h l f e i =
    let t = goes l in
    record {
      inside = within s at phase r (omega arith) t;
      fewer = omega (arith, e, count_le s at n, later s at phase r t, c.fewer);
      judges = c.judges ∙ at_next s at phase to n r h t i ∙ ap (λ (z : ℕ). judge to z r.end (lines (drop r.end s))) (sym e);
      starts = c.starts ∙ moved t k line.start seen.start f.start_is;
      ends = c.ends ∙ moved t (suc k) line.end seen.end f.end_is;
    }
  where
    moved : Goes s at phase r → (i was now : ℕ) → now ≡ begun i n at was → begins i n at was (lines (drop at s)) ≡ begins i m r.end now (lines (drop r.end s))
    moved t i was now d =
        begins_next s at phase n i was r h t
        ∙ ap (λ (z : ℕ). begins i z r.end (begun i n at was) (lines (drop r.end s))) (sym e)
        ∙ ap (λ (z : ℕ). begins i m r.end z (lines (drop r.end s))) (sym d)

pub scan_good : (s : List ℕ) (k at n : ℕ) (phase : Phase) (line seen : Part) (r : Turned) → Scanned s k at n phase line → at < length s
    → LineTurn s at phase (Some r) → Followed k n at line seen → r.turn ≡ Turn.End → GoodHeader s k (record { lines = n; line = seen; message = r.end })
scan_good s k at n phase line seen r c h l f e =
    let t = goes l in
    good_header s k (record { lines = n; line = seen; message = r.end }) (c.judges ∙ at_empty s at phase n r h t e)
    (λ b. f.start_is ∙ sym (c.starts ∙ begins_seen s at phase n k line.start r h t e (omega (arith, b))))
    (λ b. f.end_is ∙ sym (c.ends ∙ begins_seen s at phase n (suc k) line.end r h t e (omega (arith, b))))

pub scan_fault : (s : List ℕ) (k at n : ℕ) (phase : Phase) (number : ℕ) (line : Part) → Scanned s k at n phase line → at < length s → LineTurn s at phase None
    → number ≡ count_at s at n - 1 → commit s ≡ refused number
scan_fault s k at n phase number line c h t e = bad_header s number (c.judges ∙ at_fault s at phase n h t ∙ ap bad (sym e))

pub scan_over : (s : List ℕ) (k at n : ℕ) (phase : Phase) (line : Part) → Scanned s k at n phase line → length s ≤ at → commit s ≡ refused n
scan_over s k at n phase line c h = bad_header s n (c.judges ∙ at_end s at n phase h)
