-- K6: the last bytes of a body tell its trailers wherever they are enough, whatever stands in front, and all bytes always do (foot_tells,
-- whole_answers); so the last bytes may be listed as a body by themselves (foot_records_lem, foot_values_lem). Refusal 8 is given exactly
-- where they are not enough (eight_exactly, eight_only). Assumes nothing.
use Rattle.std.specs.Prelude.{if◌then◌else◌}
use mathlib.Core.Bool.{Bool, true, false, false≢true, not, ◌||◌}
use mathlib.Core.List.{List, [], ◌∷◌, ◌++◌, append_assoc, map, nil≢cons}
use mathlib.Core.Path.{◌≡◌, refl, sym, ap, ◌∙◌}
use Prim.Native.Nat.{ℕ}
use native.Mathlib.Omega.{arith}
use lib.Dec.{ltb}
use lib.ListN.{length, drop}
use Rattle.rules.proofs.Lines.{join-lines, lines-append, lines_of, lines_suffix}
use Rattle.rules.specs.Answers.{says, limit, number, over_limit}
use Rattle.rules.specs.Bytes.{LF}
use Rattle.rules.specs.Lines.{Line, LinesOf, none, last, line, LineStart, lines}
use Rattle.rules.specs.Lists.{join}
use Rattle.listing.specs.Listing.{from_end, records_from, tell, values_from, values_of}
use Rattle.foot.specs.Foot.{Tells, foot, foot_answer, foot_enough, foot_lines, foot_records, foot_values, looked, settles, told_values}
use Rattle.foot.specs.Found.{foot_cursor, foot_start, lines_from}
use Rattle.foot.proofs.Settles.{foot_of, looked_below}
use Rattle.foot.proofs.Told.{told_below, told_from, values_below, walk_from_foot}

-- ---- the lines behind the torn one begin at a line start, whatever stands in front

behind_lf : (x : List ℕ) → LineStart (x ++ LF ∷ [])
behind_lf [] = tt
behind_lf (c ∷ []) = tt
behind_lf (c ∷ d ∷ x) = behind_lf (d ∷ x)

not_last : {s : List ℕ} {ls : List Line} (l m : Line) (ms : List Line) → LinesOf s ls → ls ≡ l ∷ m ∷ ms → (t : List ℕ) × (l ≡ t ++ LF ∷ [])
not_last l m ms none e = absurd (nil≢cons e)
not_last l m ms (last a) e = let z : ◌≡◌ {A = ℕ} 0 1 = cc in absurd (omega arith)
not_last l m ms (line t a r) e = (t, cc)

torn_start : (front tail : List ℕ) (l m : Line) (ms : List Line) → lines tail ≡ l ∷ m ∷ ms → LineStart (front ++ l)
torn_start front tail l m ms e =
    let (t, q) = not_last l m ms (lines_of tail) e in
    rw (q, ← (append_assoc front t (LF ∷ []))) (behind_lf (front ++ t))

-- ---- the foot tells what the whole body tells

torn_tells : (front tail : List ℕ) (ls : List Line) → lines tail ≡ ls → settles (drop 1 ls) ≡ true → Tells tail false (front ++ tail)
torn_tells front tail [] e h = absurd (false≢true h)
torn_tells front tail (l ∷ []) e h = absurd (false≢true h)
torn_tells front tail (l ∷ m ∷ ms) e h =
    let below : List Line = m ∷ ms in
    let kept : foot_lines tail false ≡ below = ap (drop 1) e in
    let read : lines (join below) ≡ below = lines_suffix tail (l ∷ []) below e in
    let whole : front ++ tail ≡ (front ++ l) ++ join below =
    ap (λ (x : List ℕ). front ++ x) (sym (join-lines tail) ∙ ap join e) ∙ sym (append_assoc front l (join below)) in
    let start : LineStart (front ++ l) = torn_start front tail l m ms e in
    let closed = foot_of below (rw h tt) in
    record {
      same_records = rw (kept, whole) (sym (told_below (front ++ l) (join below) start (rw read closed)));
      same_values = rw (kept, whole) (sym (values_below (front ++ l) (join below) start (rw read closed)));
      same_looked = rw (kept, whole, lines-append (front ++ l) (join below) start, read) (sym (looked_below (lines (front ++ l)) below closed));
    }

-- of the last bytes of a body, which are all of it only if nothing stands in front
pub foot_tells : (front tail : List ℕ) (whole : Bool) → (whole ≡ true → front ≡ []) → foot_enough tail whole ≡ true → Tells tail whole (front ++ tail)
unfolding foot_enough
foot_tells front tail true all h =
    rw (all refl) (record { same_records = rw (join-lines tail); same_values = rw (join-lines tail); same_looked = refl })
foot_tells front tail false all h = torn_tells front tail (lines tail) refl h

-- "given never for a whole body"
pub whole_answers : (tail : List ℕ) → foot_enough tail true ≡ true
unfolding foot_enough
whole_answers tail = refl

-- ---- listed from the last paragraph of the last bytes

pub foot_records_lem : (tail : List ℕ) (whole : Bool) → foot_enough tail whole ≡ true
    → foot_records tail whole ≡ map (tell (from_end (length tail) (lines_from tail (foot_start tail)))) (records_from tail (foot_cursor tail))
foot_records_lem tail whole h =
    (foot_tells [] tail whole (λ _. refl) h).same_records ∙ told_from tail (foot_start tail) (walk_from_foot tail)

pub foot_values_lem : (tail : List ℕ) (whole : Bool) → foot_enough tail whole ≡ true → foot_values tail whole ≡ values_from tail (foot_cursor tail)
unfolding told_values
foot_values_lem tail whole h = (foot_tells [] tail whole (λ _. refl) h).same_values ∙ ap values_of (sym (walk_from_foot tail))

-- ---- refusal 8

module _ (tail : List ℕ) (whole : Bool) (rooms room : ℕ) where
  pub eight_exactly : over_limit tail ≡ false → foot_enough tail whole ≡ false → foot_answer tail whole rooms room ≡ says 8 []
  eight_exactly short more = rw (short, more)

  pub eight_only : number (foot_answer tail whole rooms room) ≡ 8 → (over_limit tail ≡ false) × (foot_enough tail whole ≡ false)
  eight_only =
      by (ltb limit (length tail)) (foot_enough tail whole) (ltb rooms (length (foot_records tail whole))) (ltb room (length (foot_values tail whole))) refl refl
    where
      by : (long enough few narrow : Bool) → over_limit tail ≡ long → foot_enough tail whole ≡ enough
          → number (if long || false then says 1 [] else if not enough then says 8 []
          else if few then says 4 (length (foot_records tail whole) ∷ length (foot_values tail whole) ∷ [])
          else if narrow then says 3 (length (foot_records tail whole) ∷ length (foot_values tail whole) ∷ [])
          else says 0 (length (foot_records tail whole) ∷ length (foot_values tail whole) ∷ looked (foot tail whole) ∷ [])) ≡ 8
          → (over_limit tail ≡ false) × (foot_enough tail whole ≡ false)
      by true enough few narrow p q e = absurd (omega (arith, e))
      by false false few narrow p q e = (p, q)
      by false true true narrow p q e = absurd (omega (arith, e))
      by false true false true p q e = absurd (omega (arith, e))
      by false true false false p q e = absurd (omega (arith, e))
