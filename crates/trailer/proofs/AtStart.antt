-- What `trailer_at_start` answers, by what `parse_trailer_line` answers of all that is handed on. Assumes nothing.
use Rattle.std.specs.Prelude.{Option, None, Some, is_some, if◌then◌else◌}
use mathlib.Core.Bool.{Bool, true, false}
use mathlib.Core.List.{List, [], ◌∷◌}
use mathlib.Core.Path.{◌≡◌, refl, sym, ap, ◌∙◌}
use Prim.Native.Nat.{ℕ, ◌+◌, ◌-◌, ◌≤◌, ◌<◌}
use native.Mathlib.Omega.{arith}
use borrow.Author.Tests.{lt-leb, ne_eqb}
use lib.Dec.{T}
use lib.ListN.{length, take, drop, get_or, length-append, length-drop}
use lib.Seq.{drop-cons}
use Rattle.rules.specs.Bytes.{token_byte}
use Rattle.rules.specs.Lines.{Line, folds, lines}
use Rattle.rules.specs.Lists.{join, run}
use Rattle.rules.specs.Trailer.{named, trailer_line, token_in, gap_in}
use Rattle.rules.proofs.Lines.{join-lines}
use Rattle.rules.proofs.Lists.{run_shorter}
use Rattle.rules.proofs.Trailer.{trailer_line_lem}
use Rattle.text.specs.Lines.{first_length}
use Rattle.text.proofs.Lines.{first_line, first_within}
use Rattle.rules.proofs.Parts.{rest}
use Rattle.trailer.specs.Line.{at_start, parsed, trailer_at_start_of, trailer_line_at}
use Rattle.trailer.specs.declared.line.TrailerAtStart.{TrailerAtStart}
use Rattle.trailer.specs.declared.line.TrailerLine.{TrailerLine}
use Rattle.trailer.proofs.Parsed.{parsed_front}

pub length_within : (s : List ℕ) (n k : ℕ) → n ≡ first_length (lines s)
    → k ≡ length (join (run folds (lines (take (length s - n) (drop n s))))) → n + k ≤ length s
length_within s n k e q =
    let within : k ≤ length (drop n s) = rw (q, rest s n) (rw (join-lines (drop n s)) at (run_shorter folds (lines (drop n s)))) in
    omega (arith, e, within, first_within s, length-drop n s)

-- the first line's answer, with the lengths of that line and of the trailer
abbrev with_lengths : Option TrailerLine → ℕ → ℕ → Option TrailerAtStart
with_lengths (Some l) first len = Some (trailer_at_start_of l.token_end l.value_start first len)
with_lengths None first len = None

either_way : (b : Bool) (token value first len : ℕ)
    → (if b then Some (trailer_at_start_of token value first len) else None)
    ≡ with_lengths (if b then Some (trailer_line_at token value) else None) first len
either_way true token value first len = refl
either_way false token value first len = refl

at_start_by : (s : List ℕ) (n : ℕ) → n ≡ first_length (lines s)
    → at_start (lines s) ≡ with_lengths (parsed s) n (n + length (join (run folds (lines (take (length s - n) (drop n s))))))
unfolding at_start parsed trailer_line named
at_start_by [] n e = refl
at_start_by (c ∷ s) n e =
    let l : Line = take n (c ∷ s) in
    let ls : List Line = lines (drop n (c ∷ s)) in
    let cut : lines (c ∷ s) ≡ l ∷ ls = rw e (first_line (c ∷ s) (omega arith)) in
    let size : length l ≡ n = sym (e ∙ ap first_length cut) in
    let token : ℕ = length (token_in l) in
    rw (rest (c ∷ s) n, parsed_front (c ∷ s) l ls cut, cut, size)
    (either_way (trailer_line l) token (token + length (gap_in l) + 1) n (n + length (join (run folds ls))))

-- there is a trailer where there is a trailer line
pub at_start_told : (s : List ℕ) → is_some (at_start (lines s)) ≡ is_some (parsed s)
at_start_told s = ap is_some (at_start_by s (first_length (lines s)) refl) ∙ by (parsed s) _ _
  where
    by : (o : Option TrailerLine) (first len : ℕ) → is_some (with_lengths o first len) ≡ is_some o
    by (Some l) first len = refl
    by None first len = refl

pub no_trailer_there : (s : List ℕ) → parsed s ≡ None → at_start (lines s) ≡ None
no_trailer_there s p = at_start_by s (first_length (lines s)) refl ∙ rw p

-- a line whose first byte is none of a token begins none: a byte up to the space is none
low_no_token : (c : ℕ) → c ≤ 32 → token_byte c ≡ false
unfolding token_byte
low_no_token c h = rw (lt-leb 65 c (omega arith), lt-leb 97 c (omega arith), lt-leb 48 c (omega arith), ne_eqb c 45 (λ e. omega arith))

pub low_there : (s : List ℕ) (i : ℕ) → i < length s → get_or s i 0 ≤ 32 → at_start (lines (take (length s - i) (drop i s))) ≡ None
unfolding parsed trailer_line named
low_there s i h k = rw (rest s i) (no_trailer_there (drop i s) (rw (drop-cons s i 0 h, low_no_token (get_or s i 0) k)))

pub trailer_there : (s : List ℕ) {l : TrailerLine} (n : ℕ) → parsed s ≡ Some l → n ≡ first_length (lines s)
    → at_start (lines s) ≡ Some (trailer_at_start_of l.token_end l.value_start n (n + length (join (run folds (lines (take (length s - n) (drop n s)))))))
trailer_there s n p e = at_start_by s n e ∙ rw p

-- ---- the places lie in order, inside of what is handed on

abbrev pub Within : ℕ → Option TrailerAtStart → Type 0
Within n (Some t) = (t.token_end < t.value_start) × (t.value_start ≤ t.first) × (t.first ≤ t.len) × (t.len ≤ n)
Within n None = Unit {0}

colon_within : (l : Line) → T (trailer_line l) → length (token_in l) + length (gap_in l) < length l
colon_within l t = omega (arith, simp length-append at (ap length (trailer_line_lem l t).read))

pub start_within : (s : List ℕ) → Within (length s) (at_start (lines s))
unfolding at_start
start_within s = of (lines s) (join-lines s)
  where
    of : (ls : List Line) → join ls ≡ s → Within (length s) (at_start ls)
    of [] e = tt
    of (l ∷ ls) e = by (trailer_line l) refl
      where
        by : (b : Bool) → trailer_line l ≡ b → Within (length s) (at_start (l ∷ ls))
        by true q =
            let size : length l + length (join ls) ≡ length s = sym (length-append l (join ls)) ∙ ap length e in
            rw q (omega arith, omega (arith, colon_within l (rw q tt)), omega arith, omega (arith, run_shorter folds ls))
        by false q = rw q tt
