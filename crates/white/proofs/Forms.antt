-- How long a form is, and what its last byte says of that: the laws that the scans go by. Assumes nothing.
use Rattle.std.specs.Prelude.{if◌then◌else◌}
use mathlib.Core.Bool.{Bool, false}
use mathlib.Core.List.{List, [], ◌∷◌, ◌++◌}
use mathlib.Core.Path.{◌≡◌, refl, ap}
use Prim.Native.Nat.{ℕ, suc, ◌-◌, ◌≤◌, ◌<◌}
use native.Mathlib.Nat.{add-zero}
use native.Mathlib.Omega.{arith}
use borrow.Author.Tests.{ne_eqb, lt-ltb, le-ltb}
use lib.Dec.{T, eqb, leb, ltb, eqb→eq, leb→le, ltb→lt}
use lib.ListN.{length, drop, get_or, length-append}
use lib.Seq.{get_or-drop}
use Rattle.rules.specs.Lists.{all}
use Rattle.rules.specs.White.{white_space, forms, Form, form_at}
use Rattle.rules.proofs.Lists.{filled_some}
use Rattle.rules.proofs.White.{form, bare, form_at_lem, form_filled, passes}

pub form_at_fits : (s : List ℕ) → form_at s ≤ length s
form_at_fits s = elim (form_at_lem s) [ form f rest m e l ↦ omega (arith, simp length-append at (ap length e)) | bare b z ↦ omega arith ]

-- there is none longer than the input
pub too_short : (s : List ℕ) (k : ℕ) → length s < k → eqb (form_at s) k ≡ false
too_short s k h = ne_eqb (form_at s) k (λ e. omega (arith, form_at_fits s))

pub part_front : (s : List ℕ) (at : ℕ) → get_or (drop at s) 0 0 ≡ get_or s at 0
part_front s at = rw (get_or-drop at s 0 0, add-zero at)

-- ---- what holds of every form

all_short : T (all (λ f. leb (length f) 3) forms)
unfolding forms white_space
all_short = tt

pub form_at_most_three : (f : List ℕ) → Form f → length f ≤ 3
form_at_most_three f m = leb→le (length f) 3 (passes (λ g. leb (length g) 3) forms f all_short m)

-- the last byte of a form is below 0x80 just where the form has no other byte
abbrev low_alone : List ℕ → Bool
low_alone f = if ltb (get_or f (length f - 1) 0) 0x80 then eqb (length f) 1 else ltb 1 (length f)

all-low_alone : T (all low_alone forms)
unfolding forms white_space
all-low_alone = tt

last_byte : (f rest : List ℕ) → 0 < length f → get_or (rest ++ f) (length (rest ++ f) - 1) 0 ≡ get_or f (length f - 1) 0
last_byte f [] h = refl
last_byte f (c ∷ rest) h =
    let k : length (c ∷ rest ++ f) - 1 ≡ suc (length (rest ++ f) - 1) = omega (arith, length-append rest f) in
    rw k (last_byte f rest h)

pub low_alone_lem : (f rest : List ℕ) → Form f → get_or (rest ++ f) (length (rest ++ f) - 1) 0 < 0x80 → length f ≡ 1
low_alone_lem f rest m h =
    let k : get_or f (length f - 1) 0 < 0x80 = rw (last_byte f rest (filled_some f (form_filled f m))) at h in
    eqb→eq (length f) 1 (rw (lt-ltb (get_or f (length f - 1) 0) 0x80 k) at (passes low_alone forms f all-low_alone m))

pub high_longer : (f rest : List ℕ) → Form f → 0x80 ≤ get_or (rest ++ f) (length (rest ++ f) - 1) 0 → 1 < length f
high_longer f rest m h =
    let k : 0x80 ≤ get_or f (length f - 1) 0 = rw (last_byte f rest (filled_some f (form_filled f m))) at h in
    ltb→lt 1 (length f) (rw (le-ltb (get_or f (length f - 1) 0) 0x80 k) at (passes low_alone forms f all-low_alone m))
