-- The block step: the lines of a message are passed one by one (message_line), the trailers of a part one by one (part_trailer),
-- and so the first block of the rest of a body is found (next_block_is). Assumes nothing.
use Rattle.std.specs.Prelude.{Option, None, Some, is_some, if◌then◌else◌}
use mathlib.Core.Bool.{Bool, true, false}
use mathlib.Core.List.{List, [], ◌∷◌, ◌++◌, append-nil}
use mathlib.Core.Path.{◌≡◌, refl, sym, ap, ◌∙◌}
use Prim.Native.Nat.{ℕ, ◌+◌, ◌-◌, ◌≤◌, ◌<◌}
use native.Mathlib.Omega.{arith}
use lib.Dec.{T}
use lib.ListN.{length, take, drop, length-append, length-drop, take-append-drop}
use lib.Seq.{drop_at, drop-cons, drop-drop, drop-length, drop-nil, length-take-le, take-nil}
use Rattle.rules.specs.Division.{Block, block, push_text, blocks, blocks_from}
use Rattle.rules.specs.Lines.{Line, lines, folds}
use Rattle.rules.specs.Lists.{Stops, filled, first, join, past, run}
use Rattle.rules.specs.Trailer.{trailer_line, token_in, gap_in}
use Rattle.rules.proofs.Blocks.{in_part, blocks_end, blocks-forward}
use Rattle.rules.proofs.Lines.{join-lines, lines_suffix}
use Rattle.rules.proofs.Lists.{join-append, past_stops, run_past, run_shorter}
use Rattle.rules.proofs.Trailer.{plain}
use Rattle.text.specs.Lines.{first_length}
use Rattle.rules.proofs.Parts.{rest}
use Rattle.trailer.specs.Line.{at_start, parsed, trailer_at_start_of}
use Rattle.trailer.specs.declared.line.TrailerAtStart.{TrailerAtStart}
use Rattle.trailer.proofs.AtStart.{at_start_told, start_within}
use Rattle.text.proofs.ByLines.{line_then, line_length}
use Rattle.block.specs.Step.{message_lines, message_length, part_lines, part_length, next_block}
use Rattle.rules.specs.Record.{block_places}

-- `&s[at..]`
abbrev pub onward : List ℕ → ℕ → List ℕ
onward s at = take (length s - at) (drop at s)

-- ---- what an answer of `trailer_at_start` tells of the lines from there on

-- the length of a trailer that was found
abbrev len_of : Option TrailerAtStart → ℕ
len_of (Some t) = t.len
len_of None = 0

first_told : (ls : List Line) (r : Option TrailerAtStart) → at_start ls ≡ r → first trailer_line ls ≡ is_some r
unfolding at_start
first_told [] r e = ap is_some e
first_told (l ∷ ls) r e = by (trailer_line l) ∙ ap is_some e
  where
    by : (b : Bool)
        → b ≡ is_some (if b
        then Some (trailer_at_start_of (length (token_in l)) (length (token_in l) + length (gap_in l) + 1) (length l) (length l + length (join (run folds ls))))
        else None)
    by true = refl
    by false = refl

-- ---- the lines of a message, until a trailer begins

trailer_stops : (ls : List Line) → first trailer_line ls ≡ true → message_lines ls ≡ []
trailer_stops [] e = refl
trailer_stops (l ∷ ls) e = rw e

line_passes : (l : Line) (ls : List Line) → trailer_line l ≡ false
    → length (join (message_lines (l ∷ ls))) ≡ length l + length (join (message_lines ls))
line_passes l ls e = rw e (length-append l (join (message_lines ls)))

module _ (s : List ℕ) (at : ℕ) where
  -- what `parse_trailer_line` answers tells whether a trailer begins there
  line_told : {b : Bool} → is_some (parsed (onward s at)) ≡ b → first trailer_line (lines (drop at s)) ≡ b
  line_told q = first_told (lines (drop at s)) _ refl ∙ at_start_told (drop at s) ∙ rw rest at q

  pub message_ends : is_some (parsed (onward s at)) ≡ true → message_length (drop at s) ≡ 0
  message_ends q = rw (trailer_stops (lines (drop at s)) (line_told q))

  pub message_line : (n : ℕ) → at < length s → is_some (parsed (onward s at)) ≡ false
      → n ≡ first_length (lines (onward s at))
      → message_length (drop at s) ≡ n + message_length (drop (at + n) s)
  message_line n h q e =
      let cut : lines (drop at s) ≡ take (at + n - at) (drop at s) ∷ lines (drop (at + n) s) = line_then s at n h e in
      let none : trailer_line (take (at + n - at) (drop at s)) ≡ false = rw cut at (line_told q) in
      rw cut (line_passes (take (at + n - at) (drop at s)) (lines (drop (at + n) s)) none ∙ rw (line_length s at n h e))

-- ---- the trailers of a part, until none begins

run_part : (ls : List Line) → run in_part ls ≡ run folds ls ++ part_lines (past folds ls)
run_part [] = refl
run_part (l ∷ ls) = by (folds l) (trailer_line l) refl refl (run_part ls)
  where
    by : (f t : Bool) → folds l ≡ f → trailer_line l ≡ t → run in_part ls ≡ run folds ls ++ part_lines (past folds ls)
        → run in_part (l ∷ ls) ≡ run folds (l ∷ ls) ++ part_lines (past folds (l ∷ ls))
    by true true f-is t-is more = simp (f-is, t-is, more)
    by true false f-is t-is more = simp (f-is, t-is, more)
    by false true f-is t-is more = simp (f-is, t-is)
    by false false f-is t-is more = simp (f-is, t-is)

lines_behind : (s : List ℕ) (n : ℕ) (us vs : List Line) → lines s ≡ us ++ vs → n ≡ length (join us) → lines (drop n s) ≡ vs
lines_behind s n us vs e q =
    let bytes : s ≡ join us ++ join vs = sym (join-lines s) ∙ ap join e ∙ join-append us vs in
    ap lines (ap (drop n) bytes ∙ drop_at (join us) (join vs) n (sym q)) ∙ lines_suffix s us vs e

none_stops : (ls : List Line) → first trailer_line ls ≡ false → part_lines ls ≡ []
none_stops [] e = refl
none_stops (l ∷ ls) e = rw e

-- a trailer at the front of `s`, `len` bytes long
trailer_passes : (s : List ℕ) (len : ℕ) (l : Line) (ls : List Line) → lines s ≡ l ∷ ls → trailer_line l ≡ true
    → len ≡ length l + length (join (run folds ls)) → part_length s ≡ len + part_length (drop len s)
trailer_passes s len l ls e t n =
    let size : len ≡ length (join (l ∷ run folds ls)) = n ∙ sym (length-append l (join (run folds ls))) in
    let behind : lines (drop len s) ≡ past folds ls =
    lines_behind s len (l ∷ run folds ls) (past folds ls) (e ∙ ap (λ (x : List Line). l ∷ x) (sym (run_past folds ls))) size in
    rw (behind, e, t, run_part ls) (simp (join-append, length-append) (omega arith))

module _ (s : List ℕ) (at : ℕ) where
  pub part_ends : at_start (lines (onward s at)) ≡ None → part_length (drop at s) ≡ 0
  part_ends q = rw (none_stops (lines (drop at s)) (first_told (lines (drop at s)) _ (rw rest at q)))

  pub trailer_within : {t : TrailerAtStart} → at ≤ length s
      → at_start (lines (onward s at)) ≡ Some t → (0 < t.len) × (at + t.len ≤ length s)
  trailer_within h q =
      let (x, y, w, z) = rw q at (start_within (onward s at)) in
      (omega (arith, y, w), omega (arith, z, length-take-le (length s - at) (drop at s) (omega (arith, length-drop at s))))

  pub part_trailer : {t : TrailerAtStart} → at_start (lines (onward s at)) ≡ Some t
      → part_length (drop at s) ≡ t.len + part_length (drop (at + t.len) s)
  unfolding at_start
  part_trailer {t} q = of (lines (drop at s)) refl (rw rest at q)
    where
      of : (ls : List Line) → lines (drop at s) ≡ ls → at_start ls ≡ Some t
          → part_length (drop at s) ≡ t.len + part_length (drop (at + t.len) s)
      of [] e f = cc
      of (l ∷ ls) e f =
          let q : trailer_line l ≡ true = first_told (l ∷ ls) _ f in
          let whole = rw q at f in
          let n : t.len ≡ length l + length (join (run folds ls)) = ap (λ o. len_of o) (sym whole) in
          simp drop-drop at (trailer_passes (drop at s) t.len l ls e q n)

-- ---- the first block

-- behind a message a part begins with a trailer line, or the input ends
part_lines_lem : (ls : List Line) → Stops plain ls → run in_part ls ≡ part_lines ls
part_lines_lem [] h = refl
part_lines_lem (l ∷ ls) h = by (trailer_line l) refl
  where
    by : (b : Bool) → trailer_line l ≡ b → run in_part (l ∷ ls) ≡ part_lines (l ∷ ls)
    by true e = rw e
    by false e = absurd (rw e at h)

one_message : (s : List ℕ) → T (filled s) → push_text s [] ≡ block (s ++ []) [] ∷ []
one_message [] f = absurd f
one_message (c ∷ s) f = rw append-nil

-- the first block of a body that is not empty, and those behind it
first_block : (body : List ℕ) (start : ℕ) → T (filled body)
    → let ls = lines (drop start body) in
    (bs : List Block) × (blocks body start ≡ block (take start body ++ join (message_lines ls)) (join (part_lines (past plain ls))) ∷ bs)
first_block body start f = by (drop start body) refl
  where
    by : (rest : List ℕ) → drop start body ≡ rest
        → let ls = lines (drop start body) in
        (bs : List Block) × (blocks body start ≡ block (take start body ++ join (message_lines ls)) (join (part_lines (past plain ls))) ∷ bs)
    by [] e =
        let whole : take start body ≡ body = sym (append-nil (take start body)) ∙ rw e at (take-append-drop start body) in
        ([], blocks_end body start e ∙ rw e (one_message (take start body) (rw whole f)))
    by (c ∷ s) e =
        let ls : List Line = lines (drop start body) in
        let part : run in_part (past plain ls) ≡ part_lines (past plain ls) = part_lines_lem (past plain ls) (past_stops plain ls) in
        (blocks (join (past in_part (past plain ls))) 0, rw (← part) (blocks-forward body start (rw e tt)))

-- at the body's end there is none
pub no_block : (body : List ℕ) (at start : ℕ) → at ≡ length body → next_block at (blocks_from body at start) ≡ None
no_block body at start e =
    rw (e, drop-length, blocks_end [] (start - length body) (drop-nil (start - length body)), take-nil)

same_ends : {a b c d : ℕ} → a ≡ c → b ≡ d → Some (block_places a b) ≡ Some (block_places c d)
same_ends e f = cc

drop-filled : (s : List ℕ) (at : ℕ) → at < length s → T (filled (drop at s))
drop-filled s at h = rw (drop-cons s at 0) tt

part_within : (ls : List Line) → length (join (part_lines ls)) ≤ length (join ls)
part_within [] = omega arith
part_within (l ∷ ls) = elim (trailer_line l) as (λ b. length (join (if b then l ∷ run in_part ls else [])) ≤ length (join (l ∷ ls))) [
  | true ↦ omega (arith, run_shorter in_part ls, length-append l (join (run in_part ls)), length-append l (join ls))
  | false ↦ omega arith
]

-- `m` bytes of message behind `from`, and `p` bytes of trailers behind them, as they are found in what is handed on
module _ (body : List ℕ) (from m : ℕ) (l : from ≤ length body)
    (e : m ≡ message_length (onward body from)) where
  pub message_within : from + m ≤ length body
  message_within =
      omega (arith, rw rest at e, run_shorter plain (lines (drop from body)), ap length (join-lines (drop from body)), length-drop from body)

  module _ (p : ℕ) (q : p ≡ part_length (onward body (from + m))) where
    pub trailers_within : from + m + p ≤ length body
    trailers_within =
        let rest_of : List ℕ = drop (from + m) body in
        omega (arith, message_within, rw rest at q, part_within (lines rest_of), ap length (join-lines rest_of), length-drop (from + m) body)

    pub next_block_is : (at start : ℕ) → at < length body → start ≤ length body → from ≡ at + (start - at)
        → next_block at (blocks_from body at start) ≡ Some (block_places (from + m) (from + m + p))
    next_block_is at start h k f =
        let ls : List Line = lines (drop from body) in
        let (bs, first) = first_block (drop at body) (start - at) (drop-filled body at h) in
        let here : drop (start - at) (drop at body) ≡ drop from body = drop-drop (start - at) at body ∙ rw f in
        let size : length (take (start - at) (drop at body)) ≡ start - at =
        length-take-le (start - at) (drop at body) (omega (arith, length-drop at body)) in
        let message : m ≡ length (join (message_lines ls)) = rw rest at e in
        let behind : lines (drop (from + m) body) ≡ past plain ls =
        ap lines (sym (drop-drop m from body))
        ∙ lines_behind (drop from body) m (run plain ls) (past plain ls) (sym (run_past plain ls)) message in
        let part : p ≡ length (join (part_lines (past plain ls))) = rw (rest, behind) at q in
        rw (first, here, length-append, size, ← message, ← part) (same_ends (omega arith) (omega arith))
