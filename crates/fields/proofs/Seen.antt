-- What is found of a field says whether it is missing and whether it is repeated; and of one trailer alone, where its content is judged
-- and where it stands (Good). Assumes nothing.
use Rattle.std.specs.Prelude.{Option, None, Some}
use mathlib.Core.Bool.{true, false}
use mathlib.Core.List.{List, [], ◌∷◌, map}
use mathlib.Core.Path.{◌≡◌, refl, sym, ap, ◌∙◌}
use Prim.Native.Nat.{ℕ, ◌+◌, ◌-◌}
use native.Mathlib.Omega.{arith}
use borrow.Author.Tests.{lt-ltb}
use lib.Dec.{not_T}
use lib.ListN.{length, take, drop, length-drop}
use lib.Seq.{drop-drop, length-take-le}
use Rattle.rules.specs.Lines.{lines}
use Rattle.rules.specs.Trailer.{Trailer, raw_value, raw_value_at, end_of, those, unfolded, walk_from}
use Rattle.rules.specs.declared.Part.{Part}
use Rattle.rules.proofs.Lists.{is_false}
use Rattle.closing.specs.Closing.{has, content, contents, head, says}
use Rattle.closing.specs.Contents.{good}
use Rattle.closing.specs.Judged.{sole_line, kept_at, first_at, content_at}
use Rattle.closing.specs.declared.Fault.{Fault}
use Rattle.closing.specs.declared.Field.{Field}
use Rattle.closing.proofs.Judged.{judged_alone, good-filled, good_sole}
use Rattle.closing.proofs.Place.{part_in_lem, Alone, alone}
use Rattle.fields.specs.Note.{Inside, IsContent, repeats}
use Rattle.fields.specs.Sole.{IsSole, part_in}
use Rattle.fields.specs.Tally.{raw_part, found_of, tally_of}
use Rattle.fields.specs.declared.tally.Found.{Found}

-- ---- the content of a raw value, by its sole line

module _ (f : Field) (value : List ℕ) where
  -- no line is the sole one
  pub none_good : sole_line value ≡ [] → good f (unfolded value) ≡ false
  none_good e = sym (judged_alone f value) ∙ ap (good f) e ∙ is_false (good f []) (not_T (good f []) (good-filled f []))

  module _ {p : Part} (s : IsSole value p) where
    judged : good f (part_in value p) ≡ good f (unfolded value)
    judged = ap (good f) s.sole ∙ judged_alone f value

    pub bad_content : good f (part_in value p) ≡ false → good f (unfolded value) ≡ false
    bad_content e = sym judged ∙ e

module _ (f : Field) (m : List ℕ) (raw : Part) (fits : Inside m raw) (p : Part) (s : IsSole (part_in m raw) p) where
  raw_length : length (part_in m raw) ≡ raw.end - raw.start
  raw_length = length-take-le (raw.end - raw.start) (drop raw.start m) (omega (arith, fits, length-drop raw.start m))

  there : take (raw.start + p.end - (raw.start + p.start)) (drop (raw.start + p.start) m) ≡ sole_line (part_in m raw)
  there =
      let n : raw.start + p.end - (raw.start + p.start) ≡ p.end - p.start = omega (arith, s.order) in
      rw (n, ← (drop-drop p.start raw.start m))
      (sym (part_in_lem p.start (p.end - p.start) (raw.end - raw.start) (drop raw.start m) (omega (arith, s.order, raw_length))) ∙ s.sole)

  pub good_content : good f (part_in (part_in m raw) p) ≡ true → IsContent f m raw (record { start = raw.start + p.start; end = raw.start + p.end })
  good_content g =
      let good_value : good f (unfolded (part_in m raw)) ≡ true = sym (judged f (part_in m raw) s) ∙ g in
      record {
        inside = omega (arith, s.order, raw_length, fits);
        is_good = good_value;
        place = ap (λ (n : ℕ). raw.start + n) s.place;
        shown = there ∙ good_sole f (part_in m raw) (rw good_value tt);
      }

-- ---- what is found of a field

module _ (f : Field) (ts : List Trailer) where
  is_missing : (us : List Trailer) → None ≡ found_of us → says Fault.Missing f (map content us) ≡ true
  is_missing [] e = refl
  is_missing (t ∷ []) e = absurd (cc)
  is_missing (t ∷ u ∷ us) e = absurd (cc)

  is_present : (us : List Trailer) {x : Found} → Some x ≡ found_of us → says Fault.Missing f (map content us) ≡ false
  is_present [] e = absurd (cc)
  is_present (t ∷ us) e = refl

  is_repeated : (us : List Trailer) (x : Found) → Some x ≡ found_of us → repeats x ≡ true → says Fault.Repeated f (map content us) ≡ true
  is_repeated [] x e r = absurd (cc)
  is_repeated (t ∷ []) (Found.Once raw) e r = absurd (cc)
  is_repeated (t ∷ []) (Found.Repeated count last) e r = absurd (cc)
  is_repeated (t ∷ u ∷ us) x e r = lt-ltb 1 (length (map content (t ∷ u ∷ us))) (omega arith)

  pub missing : None ≡ tally_of f ts → says Fault.Missing f (contents f ts) ≡ true
  missing = is_missing (those (has f) ts)

  pub present : {x : Found} → Some x ≡ tally_of f ts → says Fault.Missing f (contents f ts) ≡ false
  present = is_present (those (has f) ts)

  pub repeated : {x : Found} → Some x ≡ tally_of f ts → repeats x ≡ true → says Fault.Repeated f (contents f ts) ≡ true
  repeated {x} = is_repeated (those (has f) ts) x

-- ---- of one trailer alone

one_long : (us : List Trailer) {raw : Part} → Some (Found.Once raw) ≡ found_of us → length us ≡ 1
one_long [] e = absurd (cc)
one_long (t ∷ []) e = refl
one_long (t ∷ u ∷ us) e = absurd (cc)

same_raw : {raw : Part} (us : List Trailer) (t : Trailer) → us ≡ t ∷ [] → Some (Found.Once raw) ≡ found_of us → raw ≡ raw_part t
same_raw {raw} us t q e =
    let k : Some (Found.Once raw) ≡ Some (Found.Once (raw_part t)) = e ∙ ap found_of q in
    cc

-- one trailer alone of the walk from `at` on has the field's name, and its raw value stands at `raw`
pub record Once (f : Field) (m : List ℕ) (at : ℕ) (raw : Part) : Type 0 where
  pub found : Some (Found.Once raw) ≡ tally_of f (walk_from m at)

pub once : {f : Field} {m : List ℕ} {at : ℕ} {raw : Part} {some : Found} {all : Option Found}
    → some ≡ Found.Once raw → all ≡ Some some → all ≡ tally_of f (walk_from m at) → Once f m at raw
once p q e = record { found = ap Some (sym p) ∙ sym q ∙ e }

module _ {f : Field} {m : List ℕ} {at : ℕ} {raw : Part} (e : Once f m at raw) where
  o : Alone f m (walk_from m at)
  o = alone f m at (walk_from m at) refl (one_long (those (has f) (walk_from m at)) e.found)

  starts : raw.start ≡ raw_value_at o.the_trailer
  starts = ap (λ (p : Part). p.start) (same_raw (those (has f) (walk_from m at)) o.the_trailer o.those_are e.found)

  ends : raw.end ≡ end_of o.the_trailer
  ends = ap (λ (p : Part). p.end) (same_raw (those (has f) (walk_from m at)) o.the_trailer o.those_are e.found)

  pub raw_inside : Inside m raw
  raw_inside = omega (arith, starts, ends, o.stands.raw_ends, o.stands.inside)

  raw_there : part_in m raw ≡ raw_value o.the_trailer
  raw_there =
      let size : raw.end - raw.start ≡ length (raw_value o.the_trailer) = omega (arith, starts, ends, o.stands.raw_ends) in
      rw size (ap (λ (n : ℕ). take (length (raw_value o.the_trailer)) (drop n m)) starts ∙ o.stands.raw_at)

  one_content : contents f (walk_from m at) ≡ unfolded (part_in m raw) ∷ []
  one_content = ap (map content) o.those_are ∙ ap (λ (s : List ℕ). unfolded s ∷ []) (sym raw_there)

  pub not_repeated : says Fault.Repeated f (contents f (walk_from m at)) ≡ false
  not_repeated = rw one_content

  pub bad : good f (unfolded (part_in m raw)) ≡ false → says Fault.BadContent f (contents f (walk_from m at)) ≡ true
  bad b = rw (one_content, b)

  module _ {p : Part} (c : IsContent f m raw p) where
    pub not_bad : says Fault.BadContent f (contents f (walk_from m at)) ≡ false
    not_bad = rw (one_content, c.is_good)

    pub is_good : good f (head (contents f (walk_from m at))) ≡ true
    is_good = rw (one_content, c.is_good)

    pub shown : part_in m p ≡ head (contents f (walk_from m at))
    shown = c.shown ∙ sym (ap head one_content)

    pub place : p.start ≡ content_at f (walk_from m at)
    place =
        c.place ∙ ap (λ (s : List ℕ). raw.start + kept_at (lines s)) raw_there
        ∙ ap (λ (n : ℕ). n + kept_at (lines (raw_value o.the_trailer))) starts
        ∙ sym (ap first_at o.those_are)

    pub end_place : p.end ≡ content_at f (walk_from m at) + length (head (contents f (walk_from m at)))
    end_place =
        let size : length (part_in m p) ≡ p.end - p.start = length-take-le (p.end - p.start) (drop p.start m) (omega (arith, c.inside, length-drop p.start m)) in
        omega (arith, size, ap length shown, place, c.inside)
