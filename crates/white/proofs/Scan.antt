-- The form at the end of an input, and the scans from the front and from the end: the laws that `white_len_last`, `trim_start`,
-- `trim_end` and `trim` of src/white.rt go by. Assumes nothing.
use Rattle.std.specs.Prelude.{if◌then◌else◌}
use mathlib.Core.Bool.{Bool, true, false, false≢true, ◌&&◌}
use mathlib.Core.List.{List, [], ◌∷◌, ◌++◌, append-nil}
use mathlib.Core.Path.{◌≡◌, refl, sym, ap, ◌∙◌}
use Prim.Native.Nat.{ℕ, zero, suc, ◌+◌, ◌-◌, ◌≤◌, ◌<◌}
use native.Mathlib.Omega.{arith}
use borrow.Author.Tests.{eq-eqb, ne_eqb, eqb-true, ltb-true}
use lib.Dec.{T, eqb, leb, leb→le, ltb, not_T}
use lib.ListN.{length, take, drop, get_or, length-append, length-drop, take-append-drop}
use lib.Seq.{drop-append_seam, drop-drop, get_or-drop, get_or-take, length-take-le, take_all, take-append_seam, take-take}
use Rattle.rules.specs.Lists.{filled}
use Rattle.rules.specs.White.{white_space, Form, form_at, trim_start, trim_end, trim, trim_at}
use Rattle.rules.proofs.Lists.{filled_some, is_false, is_true}
use Rattle.rules.proofs.White.{EndsWithNone, form, bare, form_at_lem, form_filled, form_length, front_trimmed}
use Rattle.rules.proofs.White.{trim_start_step, trim_start_stop, trim_end_step, trim_end_stop}
use Rattle.white.specs.White.{last_form, form_end, graphic, plain, solid}
use Rattle.white.proofs.Forms.{form_at_fits, form_at_most_three, high_longer, low_alone_lem, part_front}
use Rattle.white.proofs.Utf8.{low_found, low_passed}
use Rattle.rules.proofs.Parts.{rest}

-- ---- a form at the end, or none

pub data Back (s : List ℕ) (n : ℕ) : Type 0 where
  form_last : (f rest : List ℕ) → Form f → s ≡ rest ++ f → n ≡ length f → Back s n
  bare_last : EndsWithNone s → n ≡ 0 → Back s n

last_from : (k : ℕ) (s f rest : List ℕ) → Form f → drop (length s - k) s ≡ f ++ rest → k ≡ length f → Back s k
last_from k s f [] m e l =
    form_last f (take (length s - k) s) m (sym (take-append-drop (length s - k) s) ∙ rw (e, append-nil)) l
last_from k s f (c ∷ rest) m e l = absurd (omega (arith, simp (length-drop, length-append) at (ap length e)))

last_back : (k : ℕ) (s : List ℕ) → 0 < k → last_form k s ≡ true → Back s k
last_back k s h t =
    let e : form_at (drop (length s - k) s) ≡ k = eqb-true (form_at (drop (length s - k) s)) k t in
    elim (form_at_lem (drop (length s - k) s)) [
      | form f rest m q l ↦ last_from k s f rest m q (sym e ∙ l)
      | bare b z ↦ absurd (omega arith)
    ]

last_of : (f rest : List ℕ) → Form f → last_form (length f) (rest ++ f) ≡ true
last_of f rest m =
    let l : length (rest ++ f) - length f ≡ length rest = simp length-append (omega arith) in
    rw (l, drop-append_seam) (eq-eqb (form_at f) (length f) (ap form_at (sym (append-nil f)) ∙ form_length f [] m))

-- one of the three lengths is that of a form at the end
one_of_three : (k : ℕ) (s : List ℕ) → 0 < k → k ≤ 3 → last_form k s ≡ true →
    last_form 1 s ≡ false → last_form 2 s ≡ false → last_form 3 s ≡ false → ⊥
one_of_three zero s h l t p q r = omega arith
one_of_three (suc zero) s h l t p q r = false≢true (sym p ∙ t)
one_of_three (suc (suc zero)) s h l t p q r = false≢true (sym q ∙ t)
one_of_three (suc (suc (suc zero))) s h l t p q r = false≢true (sym r ∙ t)
one_of_three (suc (suc (suc (suc k)))) s h l t p q r = omega arith

end_by_tests : (a b c : Bool) (s : List ℕ) → last_form 1 s ≡ a → last_form 2 s ≡ b → last_form 3 s ≡ c →
    Back s (if a then 1 else if b then 2 else if c then 3 else 0)
end_by_tests true b c s p q r = last_back 1 s (omega arith) p
end_by_tests false true c s p q r = last_back 2 s (omega arith) q
end_by_tests false false true s p q r = last_back 3 s (omega arith) r
end_by_tests false false false s p q r = bare_last none refl
  where
    none : EndsWithNone s
    none f rest m e =
        one_of_three (length f) s (filled_some f (form_filled f m)) (form_at_most_three f m) (rw e (last_of f rest m)) p q r

pub form_end_lem : (s : List ℕ) → Back s (form_end s)
unfolding form_end
form_end_lem s = end_by_tests (last_form 1 s) (last_form 2 s) (last_form 3 s) s refl refl refl

-- ---- the last byte decides which lengths are in question

not_last : (k : ℕ) (s : List ℕ) → 0 < k → ((f rest : List ℕ) → Form f → s ≡ rest ++ f → k ≡ length f → ⊥) → last_form k s ≡ false
not_last k s h n = is_false (last_form k s) (not_T (last_form k s) refuted)
  where
    refuted : T (last_form k s) → ⊥
    refuted t = elim (last_back k s h (is_true (last_form k s) t)) [ form_last f rest m e l ↦ n f rest m e l | bare_last b z ↦ omega arith ]

low_longer : (k : ℕ) (s : List ℕ) → 1 < k → get_or s (length s - 1) 0 < 0x80 → last_form k s ≡ false
low_longer k s h l = not_last k s (omega arith) (λ f rest m e q. omega (arith, low_alone_lem f rest m (rw e at l)))

one_or_none : (n : ℕ) → n ≤ 1 → (if eqb n 1 then 1 else 0) ≡ n
one_or_none zero h = refl
one_or_none (suc zero) h = refl
one_or_none (suc (suc n)) h = absurd (omega arith)

pub low_last : (s : List ℕ) → get_or s (length s - 1) 0 < 0x80 → 0 < length s → form_end s ≡ form_at (drop (length s - 1) s)
unfolding form_end
low_last s l h =
    rw (low_longer 2 s (omega arith) l, low_longer 3 s (omega arith) l)
    (one_or_none (form_at (drop (length s - 1) s)) (omega (arith, form_at_fits (drop (length s - 1) s), length-drop (length s - 1) s)))

pub high_last : (s : List ℕ) → 0x80 ≤ get_or s (length s - 1) 0 → last_form 1 s ≡ false
high_last s l = not_last 1 s (omega arith) (λ f rest m e q. omega (arith, high_longer f rest m (rw e at l)))

-- ---- a graphic byte at either end

both_hold : (a b : Bool) → (a && b) ≡ true → (a ≡ true) × (b ≡ true)
both_hold true b e = (refl, e)
both_hold false b e = absurd (false≢true e)

-- it is above every entry that is a form of one byte
graphic_none : (s : List ℕ) → 0 < length s → graphic (get_or s 0 0) ≡ true → form_at s ≡ 0
unfolding white_space
graphic_none s h g =
    let b = get_or s 0 0 in
    let (above, below) = both_hold (ltb 0x20 b) (ltb b 0x80) g in
    let low : b < 0x80 = ltb-true b 0x80 below in
    let high : 0x20 < b = ltb-true 0x20 b above in
    sym (low_passed s h low (rw (
      ne_eqb b 0x09 (λ e. omega arith),
      ne_eqb b 0x0a (λ e. omega arith),
      ne_eqb b 0x0b (λ e. omega arith),
      ne_eqb b 0x0c (λ e. omega arith),
      ne_eqb b 0x0d (λ e. omega arith),
      ne_eqb b 0x20 (λ e. omega arith),
    )))

pub graphic_front : (s : List ℕ) (at : ℕ) → at < length s → graphic (get_or s at 0) ≡ true → form_at (drop at s) ≡ 0
graphic_front s at h g = graphic_none (drop at s) (omega (arith, length-drop at s)) (rw (part_front s at) g)

pub graphic_last : (s : List ℕ) (end : ℕ) → 0 < end → end ≤ length s → graphic (get_or s (end - 1) 0) ≡ true → form_end (take end s) ≡ 0
graphic_last s end z h g =
    let l : length (take end s) ≡ end = length-take-le end s h in
    let same : get_or (take end s) (end - 1) 0 ≡ get_or s (end - 1) 0 = get_or-take end s (end - 1) 0 (omega arith) in
    let k : graphic (get_or (take end s) (length (take end s) - 1) 0) ≡ true = rw (l, same) g in
    let (above, below) = both_hold (ltb 0x20 (get_or (take end s) (length (take end s) - 1) 0)) (ltb (get_or (take end s) (length (take end s) - 1) 0) 0x80) k in
    low_last (take end s) (ltb-true _ _ below) (omega arith)
    ∙ graphic_front (take end s) (length (take end s) - 1) (omega arith) k

-- ---- the scan from the front: where it stands, as much is left to trim as at first

pub start_turn : (s : List ℕ) (at k : ℕ) → k ≡ form_at (drop at s) → trim_start (drop at s) ≡ trim_start (drop (at + k) s)
start_turn s at k e = trim_start_step (drop at s) ∙ rw (← e, drop-drop)

pub start_stop : (s : List ℕ) (at : ℕ) → at ≤ length s → trim_start s ≡ trim_start (drop at s) → form_at (drop at s) ≡ 0 →
    at ≡ length s - length (trim_start s)
start_stop s at h t e = omega (arith, ap length (t ∙ trim_start_stop (drop at s) e), length-drop at s)

-- ---- the scan from the end

pub form_end_fits : (s : List ℕ) → form_end s ≤ length s
form_end_fits s =
    elim (form_end_lem s) [ form_last f rest m e l ↦ omega (arith, simp length-append at (ap length e)) | bare_last b z ↦ omega arith ]

last_off : (s : List ℕ) → trim_end s ≡ trim_end (take (length s - form_end s) s)
last_off s =
    elim (form_end_lem s) [
      | form_last f rest m e l ↦ (
          let h : length s - form_end s ≡ length rest = omega (arith, simp length-append at (ap length e)) in
          let k : take (length s - form_end s) s ≡ rest = rw h (ap (take (length rest)) e ∙ take-append_seam rest f) in
          ap trim_end e ∙ trim_end_step rest f m ∙ ap trim_end (sym k)
          )
      | bare_last b z ↦ ap trim_end (sym (take_all (length s - form_end s) s (omega arith)))
    ]

pub end_turn : (s : List ℕ) (end k : ℕ) → end ≤ length s → k ≡ form_end (take end s) → trim_end (take end s) ≡ trim_end (take (end - k) s)
end_turn s end k h e =
    let l : length (take end s) ≡ end = length-take-le end s h in
    last_off (take end s) ∙ rw (l, ← e, take-take (end - k) end s (omega arith))

none_last : (s : List ℕ) → form_end s ≡ 0 → trim_end s ≡ s
none_last s z =
    elim (form_end_lem s) [
      | form_last f rest m e l ↦ absurd (omega (arith, filled_some f (form_filled f m)))
      | bare_last b z ↦ trim_end_stop s b
    ]

pub end_stop : (s : List ℕ) (end : ℕ) → end ≤ length s → trim_end s ≡ trim_end (take end s) → form_end (take end s) ≡ 0 →
    end ≡ length (trim_end s)
end_stop s end h t e = omega (arith, ap length (t ∙ none_last (take end s) e), length-take-le end s h)

-- ---- both

pub from_start : (s : List ℕ) → drop (length s - length (trim_start s)) s ≡ trim_start s
from_start s =
    let (front, w, e, b) = front_trimmed s in
    let h : length s - length (trim_start s) ≡ length front = omega (arith, simp length-append at (ap length e)) in
    rw h (ap (drop (length front)) e ∙ drop-append_seam front (trim_start s))

-- what the scan from the end keeps of the part from `start` on is as long as what trimming keeps
pub kept : (s : List ℕ) {start n : ℕ} → start ≡ length s - length (trim_start s) →
    n ≡ length (trim_end (take (length s - start) (drop start s))) → n ≡ length (trim s)
unfolding trim
kept s e k = k ∙ rw (rest, e, from_start)

pub kept_place : (s : List ℕ) → 0 < length (trim s) → trim_at s ≡ length s - length (trim_start s)
unfolding trim_at
kept_place s h = at (trim s) h
  where
    at : (t : List ℕ) → 0 < length t → (if filled t then length s - length (trim_start s) else 0) ≡ length s - length (trim_start s)
    at [] k = absurd (omega arith)
    at (c ∷ t) k = refl

pub empty_place : (s : List ℕ) → length (trim s) ≡ 0 → trim_at s ≡ 0
unfolding trim_at
empty_place s h = at (trim s) h
  where
    at : (t : List ℕ) → length t ≡ 0 → (if filled t then length s - length (trim_start s) else 0) ≡ 0
    at [] k = refl
    at (c ∷ t) k = absurd (omega arith)

-- ---- between graphic bytes

pub solid_kept : (s : List ℕ) → solid s ≡ true → (trim_at s ≡ 0) × (length (trim s) ≡ length s)
solid_kept s e =
    let n = length s in
    let a = graphic (get_or s 0 0) in
    let b = graphic (get_or s (n - 1) 0) in
    let (some, ends) = both_hold (leb 1 n) (a && b) e in
    let (first, last) = both_hold a b ends in
    let h : 1 ≤ n = leb→le 1 n (rw some tt) in
    let start : 0 ≡ n - length (trim_start s) = start_stop s 0 (omega arith) refl (graphic_front s 0 (omega arith) first) in
    let stop : n ≡ length (trim_end s) =
    end_stop s n (omega arith) (rw (take_all n s (omega arith))) (graphic_last s n (omega arith) (omega arith) last) in
    let all : n ≡ length (trim s) = kept s start (rw (rest s 0) stop) in
    (kept_place s (omega (arith, all)) ∙ sym start, sym all)

-- ---- as people write a value

-- the first byte and the last are forms, and no other beside them
plain_by : (s : List ℕ) → 3 ≤ length s → get_or s 0 0 ≡ 0x20 → graphic (get_or s 1 0) ≡ true → graphic (get_or s (length s - 2) 0) ≡ true
    → get_or s (length s - 1) 0 ≡ 0x0a → (trim_at s ≡ 1) × (length (trim s) ≡ length s - 2)
unfolding white_space
plain_by s h a b c d =
    let n = length s in
    let t = drop 1 s in
    let size : length t ≡ n - 1 = length-drop 1 s in
    let at : (k j : ℕ) → j ≡ 1 + k → get_or t k 0 ≡ get_or s j 0 = λ k j e. get_or-drop 1 s k 0 ∙ ap (λ i. get_or s i 0) (sym e) in
    let front : 1 ≡ form_at s = low_found s (omega arith) (omega (arith, a)) (rw a) in
    let turned : trim_start s ≡ trim_start t = start_turn s 0 1 front in
    let start : 1 ≡ n - length (trim_start s) = start_stop s 1 (omega arith) turned (graphic_front s 1 (omega arith) b) in
    let lf : get_or t (length t - 1) 0 ≡ 0x0a = at (length t - 1) (n - 1) (omega (arith, size)) ∙ d in
    let one : 1 ≡ form_at (drop (length t - 1) t) =
    low_found (drop (length t - 1) t) (omega (arith, size, length-drop (length t - 1) t)) (omega (arith, part_front t (length t - 1), lf))
    (rw (part_front t (length t - 1), lf)) in
    let last : 1 ≡ form_end t = one ∙ sym (low_last t (omega (arith, lf)) (omega (arith, size))) in
    let whole : take (n - 1) t ≡ t = take_all (n - 1) t (omega (arith, size)) in
    let less : n - 1 - 1 ≡ n - 2 = omega arith in
    let turned-back : trim_end t ≡ trim_end (take (n - 2) t) = rw (whole, less) at (end_turn t (n - 1) 1 (omega (arith, size)) (rw whole last)) in
    let bare : graphic (get_or t (n - 2 - 1) 0) ≡ true = ap graphic (at (n - 2 - 1) (n - 2) (omega arith)) ∙ c in
    let stop : n - 2 ≡ length (trim_end t) = end_stop t (n - 2) (omega (arith, size)) turned-back (graphic_last t (n - 2) (omega arith) (omega (arith, size)) bare) in
    let all : n - 2 ≡ length (trim s) = kept s start (rw whole stop) in
    (kept_place s (omega (arith, all)) ∙ sym start, sym all)

pub plain_long : (s : List ℕ) → plain s ≡ true → 3 ≤ length s
plain_long s e =
    let rest = ((eqb (get_or s 0 0) 0x20 && graphic (get_or s 1 0)) && graphic (get_or s (length s - 2) 0)) && eqb (get_or s (length s - 1) 0) 0x0a in
    leb→le 3 (length s) (rw (both_hold (leb 3 (length s)) rest e).0 tt)

pub plain_kept : (s : List ℕ) → plain s ≡ true → (trim_at s ≡ 1) × (length (trim s) ≡ length s - 2)
plain_kept s e =
    let a = eqb (get_or s 0 0) 0x20 in
    let b = graphic (get_or s 1 0) in
    let c = graphic (get_or s (length s - 2) 0) in
    let d = eqb (get_or s (length s - 1) 0) 0x0a in
    let (_, all) = both_hold (leb 3 (length s)) (((a && b) && c) && d) e in
    let (three, fourth) = both_hold ((a && b) && c) d all in
    let (two, third) = both_hold (a && b) c three in
    let (first, second) = both_hold a b two in
    plain_by s (plain_long s e) (eqb-true _ _ first) second third (eqb-true _ _ fourth)
