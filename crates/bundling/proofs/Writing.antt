-- A bundle written piece by piece, and the ranges, pair by pair. Assumes nothing.
use Rattle.std.specs.Prelude.{Option, None, Some, Ok, if◌then◌else◌}
use mathlib.Core.Bool.{Bool, true, false, ◌&&◌}
use mathlib.Core.List.{List, [], ◌∷◌, ◌++◌, map, append_assoc}
use mathlib.Core.Path.{◌≡◌, refl, sym, ap, ◌∙◌}
use Prim.Native.Nat.{ℕ, zero, suc, ◌+◌, ◌-◌, ◌*◌, ◌/◌, ◌%◌, ◌≤◌, ◌<◌}
use native.Mathlib.Numerals.{add-one}
use native.Mathlib.Nat.{mul-le-mul_left}
use native.Mathlib.Omega.{arith}
use borrow.Author.Tests.{eqb-false, ltb-false}
use lib.Dec.{T, eqb, leb, eqb→eq, leb→le}
use lib.ListN.{length, get_or, take, drop, drop_of_length-le, length-append, length-drop, length-take}
use lib.Seq.{drop-cons, length-take-le, paste}
use Rattle.std.proofs.lemmas.List.{length-map}
use Rattle.std.specs.Simd.{first_chunks}
use Rattle.rules.proofs.Lists.{and_left, and_right}
use Rattle.rules.specs.Answers.{limit, limited, range_fits}
use Rattle.rules.specs.Lists.{join}
use Rattle.copy.specs.Onto.{onto}
use Rattle.copy.proofs.Onto.{length-onto, onto-append, pasted}
use Rattle.bundle.specs.Bundle.{bundle_of, ends, header_length, u32le}
use Rattle.bundling.specs.Pairs.{all_fit, end_of, part_at, parts_of, start_of}
use Rattle.bundling.specs.Writing.{lent, ranges_fit}
use Rattle.bundle.proofs.Answers.{within}
use Rattle.bundle.proofs.Bundle.{holds, length_bundle, length-ends, length_numbers}
use Rattle.bundle.proofs.Numbers.{length_u32}

-- ---- the ranges by pairs

by_pairs : (input rs : List ℕ) (k : ℕ) → length rs ≡ 2 * k → (lent input rs ≡ parts_of input (first_chunks 2 k rs)) × (ranges_fit input rs ≡ all_fit input (first_chunks 2 k rs))
by_pairs input [] zero e = (refl, refl)
by_pairs input [] (suc k) e = absurd (omega arith)
by_pairs input (x ∷ []) k e = absurd (omega arith)
by_pairs input (x ∷ y ∷ rs) zero e = absurd (omega arith)
by_pairs input (x ∷ y ∷ rs) (suc k) e =
    let more = by_pairs input rs k (omega arith) in
    (ap (λ ms. part_at input (x ∷ y ∷ []) ∷ ms) more.0, ap (λ b. range_fits x y input && b) more.1)

-- a last start without an end
odd_one : (input rs : List ℕ) (k : ℕ) → length rs ≡ suc (2 * k) → ranges_fit input rs ≡ false
odd_one input [] k e = absurd (omega arith)
odd_one input (x ∷ []) k e = refl
odd_one input (x ∷ y ∷ rs) zero e = absurd (omega arith)
odd_one input (x ∷ y ∷ rs) (suc k) e = rw (odd_one input rs k (omega arith)) (none (range_fits x y input))
  where
    none : (b : Bool) → b && false ≡ false
    none true = refl
    none false = refl

-- the messages of the ranges, where none is left over and all of them fit
abbrev pub made : List ℕ → List ℕ → Option (List (List ℕ))
made input rs = if ranges_fit input rs then Some (lent input rs) else None

module _ (input rs : List ℕ) {ranges : List (List ℕ)} {left : ℕ} (e : ranges ≡ first_chunks 2 (length rs / 2) rs) (l : left ≡ length rs % 2) where
  pub made_some : eqb left 0 ≡ true → all_fit input ranges ≡ true → Some (parts_of input ranges) ≡ made input rs
  made_some z f =
      let even : length rs ≡ 2 * (length rs / 2) = omega (arith, eqb→eq left 0 (holds (eqb left 0) z)) in
      let p = by_pairs input rs (length rs / 2) even in
      let fit : ranges_fit input rs ≡ true = rw p.1 (rw (← e) f) in
      rw (fit, p.0, ← e)

  pub made_odd : eqb left 0 ≡ false → None ≡ made input rs
  made_odd z =
      let odd : length rs ≡ suc (2 * (length rs / 2)) = omega (arith, eqb-false left 0 z) in
      rw (odd_one input rs (length rs / 2) odd)

  pub made_none : eqb left 0 ≡ true → all_fit input ranges ≡ false → None ≡ made input rs
  made_none z f =
      let even : length rs ≡ 2 * (length rs / 2) = omega (arith, eqb→eq left 0 (holds (eqb left 0) z)) in
      let fit : ranges_fit input rs ≡ false = (by_pairs input rs (length rs / 2) even).1 ∙ rw (← e) f in
      rw fit

-- ---- one message more

-- the message of a range that fits: as long as the range says, and a part of the input
pub record Next (input : List ℕ) (ranges ms : List (List ℕ)) (j : ℕ) : Type 0 where
  pub order : start_of (get_or ranges j []) ≤ end_of (get_or ranges j [])
  pub inside : end_of (get_or ranges j []) ≤ length input
  pub some : j < length ms
  pub part : get_or ms j [] ≡ part_at input (get_or ranges j [])
  pub long : length (get_or ms j []) ≡ end_of (get_or ranges j []) - start_of (get_or ranges j [])

pub next : (input : List ℕ) (ranges ms : List (List ℕ)) (j : ℕ) → ms ≡ parts_of input ranges → all_fit input ranges ≡ true → j < length ranges → Next input ranges ms j
next input ranges ms j e f h =
    let r = get_or ranges j [] in
    let t : T (range_fits (start_of r) (end_of r) input) = fits ranges j h (holds (all_fit input ranges) f) in
    let lo : start_of r ≤ end_of r = leb→le (start_of r) (end_of r) (and_left (leb (start_of r) (end_of r)) (leb (end_of r) (length input)) t) in
    let hi : end_of r ≤ length input = leb→le (end_of r) (length input) (and_right (leb (start_of r) (end_of r)) (leb (end_of r) (length input)) t) in
    let there : get_or ms j [] ≡ part_at input r = rw e (part_there ranges j h) in
    record {
      order = lo;
      inside = hi;
      some = rw e (omega (arith, length-map ranges (part_at input)));
      part = there;
      long = rw there (length-take-le (end_of r - start_of r) (drop (start_of r) input) (omega (arith, length-drop (start_of r) input)));
    }
  where
    fits : (ranges : List (List ℕ)) (j : ℕ) → j < length ranges → T (all_fit input ranges) → T (range_fits (start_of (get_or ranges j [])) (end_of (get_or ranges j [])) input)
    fits [] j h t = absurd (omega arith)
    fits (r ∷ rs) zero h t = and_left (range_fits (start_of r) (end_of r) input) (all_fit input rs) t
    fits (r ∷ rs) (suc j) h t = fits rs j (omega arith) (and_right (range_fits (start_of r) (end_of r) input) (all_fit input rs) t)

    part_there : (ranges : List (List ℕ)) (j : ℕ) → j < length ranges → get_or (parts_of input ranges) j [] ≡ part_at input (get_or ranges j [])
    part_there [] j h = absurd (omega arith)
    part_there (r ∷ rs) zero h = refl
    part_there (r ∷ rs) (suc j) h = part_there rs j (omega arith)

module _ (ms : List (List ℕ)) (j : ℕ) (h : j < length ms) where
  first_left : drop j ms ≡ get_or ms j [] ∷ drop (j + 1) ms
  first_left = rw (add-one j, drop-cons ms j [] h)

  pub length_next : length (join (drop j ms)) ≡ length (get_or ms j []) + length (join (drop (j + 1) ms))
  length_next = omega (arith, ap (λ ns. length (join ns)) first_left, length-append (get_or ms j []) (join (drop (j + 1) ms)))

  pub part_next : (out : List ℕ) (at : ℕ) → at + length (join (drop j ms)) ≤ length out → let m = get_or ms j [] in onto (at + length m) (join (drop (j + 1) ms)) (paste out at m (length m)) ≡ onto at (join (drop j ms)) out
  part_next out at fits =
      let m = get_or ms j [] in
      let left = join (drop (j + 1) ms) in
      let room : at + length m ≤ length out = omega (arith, length_next) in
      ap (λ (o : List ℕ). onto (at + length m) left o) (pasted out m at)
      ∙ sym (onto-append at m left out room)
      ∙ ap (λ (ns : List (List ℕ)). onto at (join ns) out) (sym first_left)

  pub end_next : (out : List ℕ) (at place : ℕ) → place + 4 ≤ length out → let to = at + length (get_or ms j []) in onto (place + 4) (join (map u32le (ends to (drop (j + 1) ms)))) (onto place (u32le to) out) ≡ onto place (join (map u32le (ends at (drop j ms)))) out
  end_next out at place fits =
      let to = at + length (get_or ms j []) in
      let left = join (map u32le (ends to (drop (j + 1) ms))) in
      let room : place + length (u32le to) ≤ length out = omega (arith, length_u32 to) in
      ap (λ (k : ℕ). onto (place + k) left (onto place (u32le to) out)) (sym (length_u32 to))
      ∙ sym (onto-append place (u32le to) left out room)
      ∙ ap (λ (ns : List (List ℕ)). onto place (join (map u32le (ends at ns))) out) (sym first_left)

pub none_left : (input : List ℕ) (ranges ms : List (List ℕ)) (j : ℕ) → ms ≡ parts_of input ranges → length ranges ≤ j → drop j ms ≡ []
none_left input ranges ms j e h = drop_of_length-le ms (rw e (omega (arith, length-map ranges (part_at input))))

-- header and messages are the bundle
pub whole_bundle : (ms : List (List ℕ)) (d : List ℕ) → length (bundle_of ms) ≤ length d → let n = length ms in let h = header_length n in onto h (join ms) (onto 8 (join (map u32le (ends h ms))) (onto 4 (u32le h) (onto 0 (u32le n) d))) ≡ onto 0 (bundle_of ms) d
unfolding bundle_of
whole_bundle ms d l =
    let n = length ms in
    let h = header_length n in
    let es = join (map u32le (ends h ms)) in
    let size : h + length (join ms) ≤ length d = omega (arith, length_bundle ms) in
    let d₁ = onto 0 (u32le n) d in
    let d₂ = onto 4 (u32le h) d₁ in
    let long : length es ≡ 4 * n = length_numbers (ends h ms) ∙ ap (λ k. 4 * k) (length-ends h ms) in
    let l₁ : length d₁ ≡ length d = length-onto 0 (u32le n) d (omega (arith, length_u32 n)) in
    let l₂ : length d₂ ≡ length d = length-onto 4 (u32le h) d₁ (omega (arith, length_u32 h)) ∙ l₁ in
    let k₁ : 0 + length (u32le n) ≡ 4 = omega (arith, length_u32 n) in
    let k₂ : 4 + length (u32le h) ≡ 8 = omega (arith, length_u32 h) in
    let k₃ : 8 + length es ≡ h = omega arith in
    let one : onto 0 (u32le n ++ (u32le h ++ (es ++ join ms))) d ≡ onto 4 (u32le h ++ (es ++ join ms)) d₁ =
    onto-append 0 (u32le n) (u32le h ++ (es ++ join ms)) d (omega (arith, length_u32 n)) ∙ ap (λ k. onto k (u32le h ++ (es ++ join ms)) d₁) k₁ in
    let two : onto 4 (u32le h ++ (es ++ join ms)) d₁ ≡ onto 8 (es ++ join ms) d₂ =
    onto-append 4 (u32le h) (es ++ join ms) d₁ (omega (arith, length_u32 h)) ∙ ap (λ k. onto k (es ++ join ms) d₂) k₂ in
    let three : onto 8 (es ++ join ms) d₂ ≡ onto h (join ms) (onto 8 es d₂) =
    onto-append 8 es (join ms) d₂ (omega arith) ∙ ap (λ k. onto k (join ms) (onto 8 es d₂)) k₃ in
    let all : (u32le n ++ (u32le h ++ es)) ++ join ms ≡ u32le n ++ (u32le h ++ (es ++ join ms)) = simp append_assoc in
    sym (ap (λ b. onto 0 b d) all ∙ one ∙ two ∙ three)

-- ---- what `write_bundle` knows of the messages

-- each message is a part of the input
lent_bound : (input : List ℕ) (rs : List ℕ) → length (join (lent input rs)) ≤ length (lent input rs) * length input
lent_bound input [] = omega arith
lent_bound input (x ∷ []) = omega arith
lent_bound input (x ∷ y ∷ rs) =
    let m = take (y - x) (drop x input) in
    omega (arith, lent_bound input rs, length-append m (join (lent input rs)), length-take (y - x) (drop x input), length-drop x input)

pub record Given (input rs : List ℕ) (ms : List (List ℕ)) : Type 0 where
  pub short : length input ≤ limit
  pub fit : ranges_fit input rs ≡ true
  pub same : ms ≡ lent input rs
  pub bound : length (join ms) ≤ length ms * limit

pub given : (input rs : List ℕ) (ms : List (List ℕ)) → limited input ≡ Ok tt → Some ms ≡ made input rs → Given input rs ms
given input rs ms l e = by (ranges_fit input rs) refl e
  where
    by : (t : Bool) → ranges_fit input rs ≡ t → Some ms ≡ (if t then Some (lent input rs) else None) → Given input rs ms
    by false f e = absurd (cc)
    by true f e =
        let short : length input ≤ limit = ltb-false limit (length input) (within input l) in
        let same : ms ≡ lent input rs = cc in
        record {
          short = short;
          fit = f;
          same = same;
          bound = rw same (omega (arith, lent_bound input rs, mul-le-mul_left (length (lent input rs)) short));
        }
