-- A line that is pushed behind what the front of a buffer holds: the front is then the two joined, the rest is kept. Assumes nothing.
use mathlib.Core.List.{List, [], ◌∷◌, ◌++◌, append_assoc}
use mathlib.Core.Path.{◌≡◌, sym, ap, ◌∙◌}
use Prim.Native.Nat.{ℕ, ◌+◌, ◌<◌}
use native.Mathlib.Nat.{zero-add}
use native.Mathlib.Numerals.{add-one}
use native.Mathlib.Omega.{arith}
use lib.ListN.{length, take, drop, set, take-append-drop}
use lib.Seq.{drop-set-lt, length-take-le, paste, take-length, take-suc-set}
use Rattle.rules.specs.Bytes.{space}
use Rattle.value.specs.Joined.{joined_length}
use Rattle.rules.proofs.Unfolded.{one_piece}
use Rattle.value.proofs.Joined.{joined, joined_both, joined-nil, length_both, length_first}

pub push_none : (d line : List ℕ) (len end : ℕ) → end ≡ joined_length len (length line) → length line ≡ 0
    → d ≡ joined (take len d) line ++ drop end d
push_none d [] len end e z = let same : end ≡ len = e in rw (same, joined-nil (take len d), take-append-drop len d)
push_none d (c ∷ line) len end e z = absurd (omega arith)

module _ (d line : List ℕ) (len end : ℕ) (e : end ≡ joined_length len (length line)) (some : length line ≡ 0 → ⊥) where
  pub push_first : len ≡ 0 → paste d 0 line (length line) ≡ joined (take len d) line ++ drop end d
  push_first z =
      let size : end ≡ length line = e ∙ length_first len (length line) z some in
      let front : joined (take len d) line ≡ line = ap (λ (k : ℕ). joined (take k d) line) z ∙ one_piece line in
      rw (front, size, take-length line, zero-add)

  pub push_after : len < length d → (len ≡ 0 → ⊥) → paste (set d len space) (len + 1) line (length line) ≡ joined (take len d) line ++ drop end d
  push_after h more =
      let size : end ≡ len + 1 + length line = e ∙ length_both len (length line) more some in
      let held : length (take len d) ≡ len = length-take-le len d (omega arith) in
      let front : joined (take len d) line ≡ take len d ++ space ∷ line = joined_both (take len d) line (λ z. more (sym held ∙ z)) some in
      let before : take (len + 1) (set d len space) ≡ take len d ++ space ∷ [] = rw (add-one len) (take-suc-set d len space h) in
      let behind : drop (len + 1 + length line) (set d len space) ≡ drop (len + 1 + length line) d =
      drop-set-lt (len + 1 + length line) d len space (omega arith) in
      rw (front, size, before, behind, take-length line) (simp append_assoc)
