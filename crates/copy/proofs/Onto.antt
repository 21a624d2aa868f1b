-- Writing a list over another, from a place on. Assumes nothing.
use mathlib.Core.List.{List, [], ◌∷◌, ◌++◌, append_assoc, append-nil}
use mathlib.Core.Path.{◌≡◌, refl, ap, ◌∙◌}
use Prim.Native.Nat.{ℕ, suc, ◌+◌, ◌-◌, ◌≤◌, ◌<◌}
use native.Mathlib.Nat.{zero-add, add-zero}
use native.Mathlib.Numerals.{add-one}
use native.Mathlib.Omega.{arith}
use borrow.Rule.Slice.PartMut.{put_mid}
use lib.ListN.{length, take, drop, set, length-append, length-drop, take-append-drop, drop_of_length-le}
use lib.Seq.{paste, drop-append-add, drop-drop, drop-set-lt, length-take-le, take_at, take-suc-set}
use Rattle.std.proofs.lemmas.List.Edits.{paste_all}
use Rattle.rules.proofs.Parts.{rest}
use Rattle.copy.specs.Onto.{onto}

pub onto-nil : {A : Type 0} (i : ℕ) (d : List A) → onto i [] d ≡ d
onto-nil i d = rw (add-zero i) (take-append-drop i d)

pub onto_front : {A : Type 0} (w d : List A) → onto 0 w d ≡ w ++ drop (length w) d
onto_front w d = rw (zero-add (length w))

pub length-onto : {A : Type 0} (i : ℕ) (w d : List A) → i + length w ≤ length d → length (onto i w d) ≡ length d
length-onto i w d h =
    let t : length (take i d) ≡ i = length-take-le i d (omega arith) in
    simp (length-append, length-drop, t) (omega arith)

-- one element more, by a store
pub onto-cons : {A : Type 0} (i : ℕ) (r : A) (rs d : List A) → i < length d → onto i (r ∷ rs) d ≡ onto (i + 1) rs (set d i r)
onto-cons i r rs d h =
    let t : take (i + 1) (set d i r) ≡ take i d ++ (r ∷ []) = rw (add-one i) (take-suc-set d i r h) in
    let n : i + 1 + length rs ≡ i + suc (length rs) = omega arith in
    let k : drop (i + 1 + length rs) (set d i r) ≡ drop (i + suc (length rs)) d = drop-set-lt (i + 1 + length rs) d i r (omega arith) ∙ ap (λ (m : ℕ). drop m d) n in
    rw (t, k, append_assoc)

-- a list more
pub onto-append : {A : Type 0} (i : ℕ) (v vs d : List A) → i + length v ≤ length d → onto i (v ++ vs) d ≡ onto (i + length v) vs (onto i v d)
onto-append i v vs d h =
    let t : length (take i d) ≡ i = length-take-le i d (omega arith) in
    let tv : length (take i d ++ v) ≡ i + length v = simp (length-append, t) in
    let whole : onto i v d ≡ (take i d ++ v) ++ drop (i + length v) d = simp append_assoc in
    let front : take (i + length v) (onto i v d) ≡ take i d ++ v = rw whole (take_at (take i d ++ v) (drop (i + length v) d) (i + length v) tv) in
    let behind : drop (i + length v + length vs) (onto i v d) ≡ drop (i + length v + length vs) d =
    rw (whole, ← tv) (drop-append-add (take i d ++ v) (drop (length (take i d ++ v)) d) (length vs) ∙ drop-drop (length vs) (length (take i d ++ v)) d) in
    let n : i + length (v ++ vs) ≡ i + length v + length vs = simp length-append (omega arith) in
    rw (front, behind, n) (simp append_assoc)

-- a whole copy
pub pasted : {A : Type 0} (d s : List A) (at : ℕ) → paste d at s (length s) ≡ onto at s d
pasted d s at = paste_all d at s (length s) refl

-- what was written to the front of a tail, said of the whole
pub front_written : {A : Type 0} (d w : List A) (at : ℕ) → take at d ++ (w ++ drop (length w) (drop at d)) ≡ onto at w d
front_written d w at = rw (drop-drop (length w) at d)

-- the same of a tail that was lent
pub tail_written : (d w : List ℕ) (at : ℕ)
    → put_mid at (length d - at) d (w ++ drop (length w) (take (length d - at) (drop at d))) ≡ onto at w d
tail_written d w at =
    let short : length (drop at d) ≤ length d - at = simp length-drop (omega arith) in
    let none : drop (length d - at) (drop at d) ≡ [] = drop_of_length-le (drop at d) short in
    simp (rest, none, append-nil, drop-drop)
