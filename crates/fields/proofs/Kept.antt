-- A raw value passed line by line up to the first line that trims to something; two such searches tell the sole line.
-- Assumes nothing.
use Rattle.std.specs.Prelude.{if◌then◌else◌}
use mathlib.Core.Bool.{Bool, true, false, not, ◌||◌}
use mathlib.Core.List.{List, [], ◌∷◌, map}
use mathlib.Core.Path.{◌≡◌, refl, sym, ap, ◌∙◌}
use Prim.Native.Nat.{ℕ, ◌+◌, ◌-◌, ◌≤◌, ◌<◌}
use native.Mathlib.Omega.{arith}
use lib.Dec.{T}
use lib.ListN.{length, take, drop, length-drop}
use lib.Seq.{drop-drop, length-take-le}
use Rattle.rules.specs.Lines.{Line, lines}
use Rattle.rules.specs.Lists.{any, filled}
use Rattle.rules.specs.White.{trim, trim_at}
use Rattle.rules.proofs.Lists.{is_true, is_false}
use Rattle.rules.proofs.Parts.{kept_part}
use Rattle.rules.proofs.White.{trim_fits}
use Rattle.text.specs.Lines.{first_length}
use Rattle.text.proofs.ByLines.{line_then, line_ahead, line_length}
use Rattle.closing.specs.Judged.{sole_of, sole_line, first_kept, kept_at, behind_kept}
use Rattle.closing.proofs.Place.{part_in_lem}
use Rattle.fields.specs.Sole.{IsKept, IsSole, part_in}
use Rattle.fields.specs.declared.sole.Kept.{Kept}

some_filled : (s : List ℕ) → 0 < length s → T (filled s)
some_filled [] l = absurd (omega arith)
some_filled (c ∷ s) l = tt

none_filled : (s : List ℕ) → length s ≤ 0 → T (not (filled s))
none_filled [] l = tt
none_filled (c ∷ s) l = absurd (omega arith)

-- the lines from `at` up to `from` trim to nothing
pub record Passed (value : List ℕ) (at from : ℕ) : Type 0 where
  pub within : from ≤ length value
  pub same_place : from + kept_at (lines (drop from value)) ≡ at + kept_at (lines (drop at value))
  pub same_first : first_kept (lines (drop from value)) ≡ first_kept (lines (drop at value))
  pub same_behind : behind_kept (lines (drop from value)) ≡ behind_kept (lines (drop at value))

module _ {value : List ℕ} {at from : ℕ} (p : Passed value at from) where
  module _ (n : ℕ) (h : from < length value) (e : n ≡ first_length (lines (take (length value - from) (drop from value)))) where
    line : Line
    line = take (from + n - from) (drop from value)

    ahead : (0 < n) × (from + n ≤ length value)
    ahead = line_ahead value from n h e

    first_by : first_kept (lines (drop from value)) ≡ (if filled (trim line) then trim line else first_kept (lines (drop (from + n) value)))
    unfolding line
    first_by = ap first_kept (line_then value from n h e)

    place_by : kept_at (lines (drop from value)) ≡ (if filled (trim line) then trim_at line else length line + kept_at (lines (drop (from + n) value)))
    unfolding line
    place_by = ap kept_at (line_then value from n h e)

    behind_by : behind_kept (lines (drop from value)) ≡ (if filled (trim line) then lines (drop (from + n) value) else behind_kept (lines (drop (from + n) value)))
    unfolding line
    behind_by = ap behind_kept (line_then value from n h e)

    module _ {s t : ℕ} (q : (s ≡ trim_at (take (from + n - from) (drop from value)))
        × (t ≡ trim_at (take (from + n - from) (drop from value)) + length (trim (take (from + n - from) (drop from value))))) where
      inside : t ≤ n
      unfolding line
      inside = omega (arith, q, trim_fits line, line_length value from n h e)

      part : take (from + t - (from + s)) (drop (from + s) value) ≡ trim line
      unfolding line
      part =
          let m : from + t - (from + s) ≡ t - s = omega (arith, q) in
          rw (m, ← (drop-drop s from value))
          (sym (part_in_lem s (t - s) (from + n - from) (drop from value) (omega (arith, q, inside))) ∙ kept_part line q)

      pub kept_within : from + t ≤ from + n
      kept_within = omega (arith, inside)

      pub kept_here : s < t → IsKept value at (record { part = record { start = from + s; end = from + t }; next = from + n })
      unfolding line
      kept_here l =
          let f : T (filled (trim line)) = some_filled (trim line) (omega (arith, q)) in
          record {
            order = (omega arith, omega (arith, inside, ahead), omega (arith, ahead));
            place =
                let k : kept_at (lines (drop from value)) ≡ trim_at line = place_by ∙ rw (is_true (filled (trim line)) f) in
                omega (arith, k, q.0, p.same_place);
            kept = part ∙ sym (sym p.same_first ∙ first_by ∙ rw (is_true (filled (trim line)) f));
            behind = sym (sym p.same_behind ∙ behind_by ∙ rw (is_true (filled (trim line)) f));
          }

      pub passed_step : t ≤ s → Passed value at (from + n)
      unfolding line
      passed_step l =
          let f : T (not (filled (trim line))) = none_filled (trim line) (omega (arith, q)) in
          record {
            within = omega (arith, ahead);
            same_place =
                let k : kept_at (lines (drop from value)) ≡ length line + kept_at (lines (drop (from + n) value)) = place_by ∙ rw (is_false (filled (trim line)) f) in
                omega (arith, k, line_length value from n h e, p.same_place);
            same_first = sym (first_by ∙ rw (is_false (filled (trim line)) f)) ∙ p.same_first;
            same_behind = sym (behind_by ∙ rw (is_false (filled (trim line)) f)) ∙ p.same_behind;
          }

-- ---- two searches: the first finds the line, and the second, from its end on, finds none

any_kept : (ls : List Line) → any filled (map trim ls) ≡ filled (first_kept ls)
any_kept [] = refl
any_kept (l ∷ ls) = at (trim l) (any_kept ls)
  where
    at : (s : List ℕ) → any filled (map trim ls) ≡ filled (first_kept ls) →
        filled s || any filled (map trim ls) ≡ filled (if filled s then s else first_kept ls)
    at [] h = h
    at (c ∷ s) h = refl

sole_by : (ls : List Line) → sole_of (map trim ls) ≡ (if filled (first_kept (behind_kept ls)) then [] else first_kept ls)
sole_by [] = refl
sole_by (l ∷ ls) = at (trim l) (sole_by ls)
  where
    at : (s : List ℕ) → sole_of (map trim ls) ≡ (if filled (first_kept (behind_kept ls)) then [] else first_kept ls) →
        sole_of (s ∷ map trim ls) ≡ (if filled (first_kept (if filled s then ls else behind_kept ls)) then [] else (if filled s then s else first_kept ls))
    at [] h = h
    at (c ∷ s) h = rw (any_kept ls)

none_kept : (ls : List Line) → first_kept ls ≡ [] → sole_of (map trim ls) ≡ []
none_kept ls e = sole_by ls ∙ at (filled (first_kept (behind_kept ls)))
  where
    at : (b : Bool) → (if b then [] else first_kept ls) ≡ []
    at true = refl
    at false = e

-- no line is kept
pub sole_none : (value : List ℕ) → first_kept (lines value) ≡ [] → sole_line value ≡ []
unfolding sole_line
sole_none value e = none_kept (lines value) e

module _ {value : List ℕ} {a : Kept} (first : IsKept value 0 a) where
  -- one more is
  pub sole_two : {b : Kept} → IsKept value a.next b → sole_line value ≡ []
  unfolding sole_line
  sole_two {b} second =
      let size : length (part_in value b.part) ≡ b.part.end - b.part.start =
      length-take-le (b.part.end - b.part.start) (drop b.part.start value) (omega (arith, second.order, length-drop b.part.start value)) in
      let later : part_in value b.part ≡ first_kept (behind_kept (lines value)) = second.kept ∙ ap first_kept first.behind in
      let f : T (filled (first_kept (behind_kept (lines value)))) = some_filled (first_kept (behind_kept (lines value))) (omega (arith, second.order, size, ap length later)) in
      sole_by (lines value) ∙ rw (is_true (filled (first_kept (behind_kept (lines value)))) f)

  -- no other is
  pub sole_one : first_kept (lines (drop a.next value)) ≡ [] → IsSole value a.part
  unfolding sole_line
  sole_one n =
      let none : first_kept (behind_kept (lines value)) ≡ [] = sym (ap first_kept first.behind) ∙ n in
      record {
        order = (first.order.0, first.order.1);
        place = omega (arith, first.place);
        sole = sym (sole_by (lines value) ∙ rw none (sym first.kept));
      }
