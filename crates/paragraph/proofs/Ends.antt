-- The last non-blank line holds the last byte that is not blank, and where the line starts does not change how it ended. Assumes nothing.
use Rattle.std.specs.Prelude.{Option, None, Some, if◌then◌else◌}
use mathlib.Core.Bool.{Bool, true, false, false≢true, and-true, not}
use mathlib.Core.List.{List, [], ◌∷◌}
use mathlib.Core.Path.{◌≡◌, refl, sym, ap, ◌∙◌}
use Prim.Native.Nat.{ℕ, zero, suc, ◌+◌, ◌-◌, ◌≤◌, ◌<◌}
use native.Mathlib.Omega.{arith}
use lib.Dec.{eqb, eqb→eq}
use lib.ListN.{length, get_or, take, drop}
use lib.Seq.{drop-drop, length-take-le}
use Rattle.rules.specs.Bytes.{LF, blank_byte}
use Rattle.rules.specs.Lines.{Line, before, ending, lines}
use Rattle.rules.specs.Lists.{all}
use Rattle.rules.specs.Paragraph.{ending_below, ending_under, last_ending, or_none, solid}
use Rattle.rules.specs.declared.Ending.{Ending}
use Rattle.text.proofs.Blanks.{blank_before, blank_next, blank_parts}
use Rattle.text.proofs.ByLines.{line_some, line_then}
use Rattle.text.proofs.Lines.{blank-all}
use Rattle.text.specs.Lines.{first_length}
use Rattle.paragraph.specs.Solid.{SolidLen}
use Rattle.paragraph.proofs.Blanks.{drop_blank, none_blank}
use Rattle.paragraph.proofs.Upward.{part_is}

-- a line by its bytes
solid_is : (l : Line) (b : Bool) → all blank_byte l ≡ b → solid l ≡ not b
solid_is l b e = ap not (blank-all l ∙ e)

None≢Some : {e : Ending} → Some e ≡ None → ⊥
None≢Some {e} q = let z : ◌≡◌ {A = ℕ} 0 1 = cc in absurd (omega arith)

-- ---- a byte in front

-- the last two bytes tell how a line ended, so that a byte in front does not, where another than its ending is there
ending_front : (c : ℕ) (l : Line) → all blank_byte l ≡ false → ending (c ∷ l) ≡ ending l
unfolding ending blank_byte
ending_front c [] e = absurd (false≢true (sym e))
ending_front c (d ∷ []) e = by (eqb d LF) refl
  where
    by : (b : Bool) → eqb d LF ≡ b → ending (c ∷ d ∷ []) ≡ ending (d ∷ [])
    by true q = absurd (false≢true (sym (rw (eqb→eq d LF (rw q tt)) at e)))
    by false q = rw q
ending_front c (d ∷ g ∷ m) e = refl

-- where there is a last non-blank line, it ended so whatever stands in front
front : (c : ℕ) (s : List ℕ) (e : Ending) → last_ending (lines s) ≡ Some e → last_ending (lines (c ∷ s)) ≡ Some e
front c s e = by (eqb c LF) (lines s)
  where
    joined : (l : Line) (o : Option Ending) → ending_under l o ≡ Some e → ending_under (c ∷ l) o ≡ Some e
    joined l (Some x) h = h
    joined l None h = test (all blank_byte l) (blank_byte c) refl refl h
      where
        test : (b d : Bool) → all blank_byte l ≡ b → blank_byte c ≡ d → (if solid l then Some (ending l) else None) ≡ Some e
            → (if solid (c ∷ l) then Some (ending (c ∷ l)) else None) ≡ Some e
        test true d q r h = absurd (None≢Some (sym (rw (solid_is l true q) at h)))
        test false true q r h = rw (solid_is (c ∷ l) false (rw (r, q)), ending_front c l q) (rw (solid_is l false q) at h)
        test false false q r h = rw (solid_is (c ∷ l) false (rw r), ending_front c l q) (rw (solid_is l false q) at h)

    by : (b : Bool) (ls : List Line) → last_ending ls ≡ Some e → last_ending (before b c ls) ≡ Some e
    by true ls h = rw h
    by false [] h = absurd (None≢Some (sym h))
    by false (l ∷ ls) h = joined l (last_ending ls) h

dropped : (k : ℕ) (s : List ℕ) (e : Ending) → last_ending (lines (drop k s)) ≡ Some e → last_ending (lines s) ≡ Some e
dropped zero s e h = h
dropped (suc k) [] e h = h
dropped (suc k) (c ∷ s) e h = front c s e (dropped k s e h)

-- ---- the line that holds the last byte that is not blank

front_solid : (k : ℕ) (s : List ℕ) → all blank_byte (drop k s) ≡ true → all blank_byte s ≡ false → all blank_byte (take k s) ≡ false
front_solid k s e q = sym (blank_parts k s ∙ rw e (and-true (all blank_byte (take k s)))) ∙ q

-- one byte more from the end
pub back_one : (body : List ℕ) (n : ℕ) → 0 < n → n ≤ length body → (b : Bool) → blank_byte (get_or body (n - 1) 0) ≡ b
    → all blank_byte (drop n body) ≡ true → all blank_byte (drop (n - 1) body) ≡ b
back_one body n z h b q e =
    let place : n - 1 + 1 ≡ n = omega arith in
    blank_next body (n - 1) true b (omega arith) (sym q) ∙ rw (place, e) (and-true b)

-- the blank end of the first n bytes goes on to the body's end where all behind them is blank
pub back_part : (body : List ℕ) (n r : ℕ) → n ≤ length body → all blank_byte (drop n body) ≡ true
    → (r ≤ length (take n body)) × (all blank_byte (drop r (take n body)) ≡ true) → (r ≤ n) × (all blank_byte (drop r body) ≡ true)
back_part body n r h e p =
    let fits : r ≤ n = omega (arith, p.0, length-take-le n body h) in
    (fits, blank_before body r n true fits (sym (ap (all blank_byte) (part_is body r n fits h)) ∙ p.1) e)

pub ends_nowhere : (body : List ℕ) → SolidLen body 0 → ending_below body ≡ Ending.None
unfolding ending_below
ends_nowhere body s = ap or_none (none_blank body s.1)

pub ends_there : (body : List ℕ) (n k : ℕ) → SolidLen body n → 0 < n → k ≡ first_length (lines (take (length body - (n - 1)) (drop (n - 1) body)))
    → ending_below body ≡ ending (take (n - 1 + k - (n - 1)) (drop (n - 1) body))
unfolding ending_below
ends_there body n k s z e =
    let h : n - 1 < length body = omega (arith, s.0) in
    let some_bytes = line_some body (n - 1) k h e in
    let rest : List ℕ = drop (n - 1) body in
    let size : n - 1 + k - (n - 1) ≡ k = omega arith in
    let place : n - 1 + k ≡ n + (k - 1) = omega (arith, some_bytes) in
    let below : drop (n - 1 + k) body ≡ drop (k - 1) (drop n body) = ap (λ (m : ℕ). drop m body) place ∙ sym (drop-drop (k - 1) n body) in
    let blank : all blank_byte (drop (n - 1 + k) body) ≡ true = rw below (drop_blank (k - 1) (drop n body) s.1) in
    let behind : all blank_byte (drop (n - 1 + k - (n - 1)) rest) ≡ true = ap (λ (m : ℕ). all blank_byte (drop m rest)) size ∙ ap (all blank_byte) (drop-drop k (n - 1) body) ∙ blank in
    let line = solid_is (take (n - 1 + k - (n - 1)) rest) false (front_solid (n - 1 + k - (n - 1)) rest behind (s.2 z)) in
    let last : last_ending (lines rest) ≡ Some (ending (take (n - 1 + k - (n - 1)) rest)) =
    ap last_ending (line_then body (n - 1) k h e) ∙ ap (ending_under (take (n - 1 + k - (n - 1)) rest)) (none_blank (drop (n - 1 + k) body) blank) ∙ rw line in
    ap or_none (dropped (n - 1) body (ending (take (n - 1 + k - (n - 1)) rest)) last)
