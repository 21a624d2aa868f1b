-- Where a content stands: a good one is a part of the message, at the place that the answer gives (content_shown). Assumes nothing.
use Rattle.std.specs.Prelude.{if◌then◌else◌}
use mathlib.Core.Bool.{Bool, true, false}
use mathlib.Core.List.{List, [], ◌∷◌, ◌++◌, append_assoc, map}
use mathlib.Core.Path.{◌≡◌, refl, sym, ap, ◌∙◌}
use Prim.Native.Nat.{ℕ, zero, suc, ◌+◌, ◌-◌, ◌≤◌}
use native.Mathlib.Omega.{arith}
use borrow.Author.Tests.{le-leb}
use lib.Dec.{T}
use lib.ListN.{length, take, drop, length-append, length-map}
use lib.Seq.{drop-append_seam, drop-drop, take-append_seam, take-take}
use Rattle.rules.specs.Answers.{part_of}
use Rattle.rules.specs.Lines.{Line, lines}
use Rattle.rules.specs.Lists.{any, filled, join}
use Rattle.rules.specs.Trailer.{Trailer, raw_value, raw_value_at, end_of, those, token_of, unfolded, walk_from}
use Rattle.rules.specs.White.{Trimmed, trim, trim_at}
use Rattle.rules.proofs.Lines.{join-lines}
use Rattle.rules.proofs.Walk.{Stands, walk_stands, walk_step}
use Rattle.rules.proofs.White.{trimmed, trim_fits}
use Rattle.closing.specs.Closing.{has, content, contents, One}
use Rattle.closing.specs.Contents.{Good, good}
use Rattle.closing.specs.Judged.{sole_of, sole_line, first_kept, kept_at, first_at, content_at}
use Rattle.closing.specs.declared.Field.{Field}
use Rattle.closing.proofs.Contents.{is_good}
use Rattle.closing.proofs.Exactly.{trailer_one}
use Rattle.closing.proofs.Judged.{good-filled, good_sole}

-- a part of a part
pub part_in_lem : (s m k : ℕ) (xs : List ℕ) → s + m ≤ k → take m (drop s (take k xs)) ≡ take m (drop s xs)
part_in_lem zero m k xs l = take-take m k xs (omega arith)
part_in_lem (suc s) m zero xs l = absurd (omega arith)
part_in_lem (suc s) m (suc k) [] l = refl
part_in_lem (suc s) m (suc k) (x ∷ xs) l = part_in_lem s m k xs (omega arith)

-- ---- the first line that trims to something, in its raw value

-- what is kept of a line stands where it is kept, whatever follows the line
trim_front : (l rest : List ℕ) → take (length (trim l)) (drop (trim_at l) (l ++ rest)) ≡ trim l
trim_front l rest =
    let r : Trimmed l (trim l) (trim_at l) = trimmed l in
    let e : l ++ rest ≡ r.front ++ (trim l ++ (r.back ++ rest)) = ap (λ (x : List ℕ). x ++ rest) r.read ∙ simp append_assoc in
    rw (e, r.place) (ap (take (length (trim l))) (drop-append_seam r.front (trim l ++ (r.back ++ rest))) ∙ take-append_seam (trim l) (r.back ++ rest))

past_line : (l rest : List ℕ) (k : ℕ) → drop (length l + k) (l ++ rest) ≡ drop k rest
past_line l rest k = sym (drop-drop k (length l) (l ++ rest)) ∙ ap (drop k) (drop-append_seam l rest)

pub kept_there : (ls : List Line) → take (length (first_kept ls)) (drop (kept_at ls) (join ls)) ≡ first_kept ls
kept_there [] = refl
kept_there (l ∷ ls) = at (filled (trim l)) (kept_there ls)
  where
    at : (b : Bool) → take (length (first_kept ls)) (drop (kept_at ls) (join ls)) ≡ first_kept ls →
        take (length (if b then trim l else first_kept ls)) (drop (if b then trim_at l else length l + kept_at ls) (l ++ join ls)) ≡ (if b then trim l else first_kept ls)
    at true h = trim_front l (join ls)
    at false h = ap (take (length (first_kept ls))) (past_line l (join ls) (kept_at ls)) ∙ h

-- the sole line is the first
sole_first : (ls : List Line) → T (filled (sole_of (map trim ls))) → sole_of (map trim ls) ≡ first_kept ls
sole_first [] f = refl
sole_first (l ∷ ls) f = at (trim l) f (sole_first ls)
  where
    some : (b : Bool) (c : ℕ) (s : List ℕ) → T (filled (if b then [] else c ∷ s)) → (if b then [] else c ∷ s) ≡ c ∷ s
    some true c s f = absurd f
    some false c s f = refl

    at : (s : List ℕ) → T (filled (sole_of (s ∷ map trim ls))) → (T (filled (sole_of (map trim ls))) → sole_of (map trim ls) ≡ first_kept ls) →
        sole_of (s ∷ map trim ls) ≡ (if filled s then s else first_kept ls)
    at [] f h = h f
    at (c ∷ s) f h = some (any filled (map trim ls)) c s f

pub kept_fits : (ls : List Line) → kept_at ls + length (first_kept ls) ≤ length (join ls)
kept_fits [] = omega arith
kept_fits (l ∷ ls) = at (filled (trim l)) (kept_fits ls)
  where
    at : (b : Bool) → kept_at ls + length (first_kept ls) ≤ length (join ls) →
        (if b then trim_at l else length l + kept_at ls) + length (if b then trim l else first_kept ls) ≤ length (l ++ join ls)
    at true h = omega (arith, trim_fits l, length-append l (join ls))
    at false h = omega (arith, h, length-append l (join ls))

-- a good content is what the first such line keeps, so it stands in its raw value
module _ (f : Field) (raw : List ℕ) (g : T (good f (unfolded raw))) where
  first_content : unfolded raw ≡ first_kept (lines raw)
  unfolding sole_line
  first_content =
      let s : sole_line raw ≡ unfolded raw = good_sole f raw g in
      sym s ∙ sole_first (lines raw) (rw s (good-filled f (unfolded raw) g))

  in_raw : take (length (unfolded raw)) (drop (kept_at (lines raw)) raw) ≡ unfolded raw
  in_raw =
      rw first_content
      (ap (λ (x : List ℕ). take (length (first_kept (lines raw))) (drop (kept_at (lines raw)) x)) (sym (join-lines raw)) ∙ kept_there (lines raw))

  raw_fits : kept_at (lines raw) + length (unfolded raw) ≤ length raw
  raw_fits = omega (arith, kept_fits (lines raw), ap length (join-lines raw), ap length first_content)

-- ---- the one trailer that has a field's name, in the message

pub record Alone (f : Field) (m : List ℕ) (ts : List Trailer) : Type 0 where
  pub the_trailer : Trailer
  pub stands : Stands m the_trailer
  pub those_are : those (has f) ts ≡ the_trailer ∷ []

none_left : (ts : List Trailer) → length ts ≡ 0 → ts ≡ []
none_left [] z = refl
none_left (t ∷ ts) z = absurd (omega arith)

pub alone : (f : Field) (m : List ℕ) (at : ℕ) (ts : List Trailer) → walk_from m at ≡ ts → length (those (has f) ts) ≡ 1 → Alone f m ts
alone f m at [] e z = absurd (omega arith)
alone f m at (t ∷ ts) e z = by (has f (token_of t)) refl (alone f m (end_of t) ts (walk_step m at t ts e))
  where
    by : (b : Bool) → has f (token_of t) ≡ b → (length (those (has f) ts) ≡ 1 → Alone f m ts) → Alone f m (t ∷ ts)
    by true q more =
        let k : suc (length (those (has f) ts)) ≡ 1 = rw q at z in
        record { the_trailer = t; stands = walk_stands m at t ts e; those_are = rw (q, none_left (those (has f) ts) (omega arith)) }
    by false q more =
        let r : Alone f m ts = more (rw q at z) in
        record { the_trailer = r.the_trailer; stands = r.stands; those_are = rw q r.those_are }

module _ (f : Field) (m : List ℕ) (t : Trailer) (s : Stands m t) (g : T (good f (content t))) where
  there : take (length (content t)) (drop (raw_value_at t + kept_at (lines (raw_value t))) m) ≡ content t
  there =
      rw (← (drop-drop (kept_at (lines (raw_value t))) (raw_value_at t) m))
      (sym (part_in_lem (kept_at (lines (raw_value t))) (length (content t)) (length (raw_value t)) (drop (raw_value_at t) m) (raw_fits f (raw_value t) g))
      ∙ ap (λ (x : List ℕ). take (length (content t)) (drop (kept_at (lines (raw_value t))) x)) s.raw_at
      ∙ in_raw f (raw_value t) g)

  within : raw_value_at t + kept_at (lines (raw_value t)) + length (content t) ≤ length m
  within = omega (arith, raw_fits f (raw_value t) g, s.raw_ends, s.inside)

  part_there : part_of m (raw_value_at t + kept_at (lines (raw_value t))) (raw_value_at t + kept_at (lines (raw_value t)) + length (content t)) ≡ content t
  part_there =
      let at : ℕ = raw_value_at t + kept_at (lines (raw_value t)) in
      let size : at + length (content t) - at ≡ length (content t) = omega arith in
      rw (le-leb at (at + length (content t)) (omega arith), le-leb (at + length (content t)) (length m) within, size) there

shown_by : (f : Field) (m : List ℕ) (us : List Trailer) (v : List ℕ) (t : Trailer) → Stands m t → us ≡ t ∷ [] → content t ≡ v → T (good f v) →
    part_of m (first_at us) (first_at us + length v) ≡ v
shown_by f m us v t s e q g = rw (e, ← q) (part_there f m t s (rw q g))

-- a closing note's vehicle, like every good content, is the part of the message that the answer shows
pub content_shown : (f : Field) (m : List ℕ) (at : ℕ) (v : List ℕ) → One f (walk_from m at) v → Good f v →
    part_of m (content_at f (walk_from m at)) (content_at f (walk_from m at) + length v) ≡ v
content_shown f m at v o g =
    let e : contents f (walk_from m at) ≡ v ∷ [] = trailer_one f (walk_from m at) v o in
    let a : Alone f m (walk_from m at) = alone f m at (walk_from m at) refl (sym (length-map (those (has f) (walk_from m at)) content) ∙ ap length e) in
    shown_by f m (those (has f) (walk_from m at)) v a.the_trailer a.stands a.those_are (heads (sym (ap (map content) a.those_are) ∙ e)) (is_good f v g)
  where
    heads : {x y : List ℕ} → x ∷ [] ≡ y ∷ [] → x ≡ y
    heads e = cc
