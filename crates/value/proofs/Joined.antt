-- Pieces joined by spaces from the left: what is joined so far takes the next piece, and the rest after it. Assumes nothing.
use mathlib.Core.List.{List, [], ◌∷◌, ◌++◌, append_assoc, append-nil}
use mathlib.Core.Path.{◌≡◌, refl, sym, ap, ◌∙◌}
use Prim.Native.Nat.{ℕ, ◌+◌, ◌≤◌}
use native.Mathlib.Omega.{arith}
use borrow.Author.Tests.{eq-eqb, ne_eqb}
use lib.ListN.{length, length-append}
use Rattle.rules.specs.Bytes.{space}
use Rattle.rules.specs.Trailer.{after_space, by_spaces}
use Rattle.rules.proofs.Unfolded.{one_piece}
use Rattle.value.specs.Joined.{joined_length}

-- two pieces
abbrev pub joined : List ℕ → List ℕ → List ℕ
joined a b = by_spaces (a ∷ b ∷ [])

pub joined-nil : (a : List ℕ) → joined a [] ≡ a
joined-nil [] = refl
joined-nil (c ∷ a) = append-nil (c ∷ a)

pub joined-cons : (l : List ℕ) (ls : List (List ℕ)) → by_spaces (l ∷ ls) ≡ joined l (by_spaces ls)
joined-cons [] ls = sym (one_piece (by_spaces ls))
joined-cons (c ∷ l) ls = rw (one_piece (by_spaces ls))

pub joined_assoc : (a b d : List ℕ) → joined (joined a b) d ≡ joined a (joined b d)
joined_assoc [] b d = rw (one_piece b, one_piece (joined b d))
joined_assoc (x ∷ a) [] d = rw (append-nil a, one_piece (joined [] d))
joined_assoc (x ∷ a) (y ∷ b) d =
    let more : List ℕ = after_space (by_spaces (d ∷ [])) in
    rw (append-nil b, append-nil (b ++ more), append_assoc a (space ∷ y ∷ b) more)

pub joined_both : (a b : List ℕ) → (length a ≡ 0 → ⊥) → (length b ≡ 0 → ⊥) → joined a b ≡ a ++ space ∷ b
joined_both [] b na nb = absurd (na refl)
joined_both (x ∷ a) [] na nb = absurd (nb refl)
joined_both (x ∷ a) (y ∷ b) na nb = rw (append-nil b)

-- ---- and their length

pub length_none : (m n : ℕ) → n ≡ 0 → joined_length m n ≡ m
length_none m n z = rw (eq-eqb n 0 z)

pub length_first : (m n : ℕ) → m ≡ 0 → (n ≡ 0 → ⊥) → joined_length m n ≡ n
length_first m n z some = rw (ne_eqb n 0 some, eq-eqb m 0 z)

pub length_both : (m n : ℕ) → (m ≡ 0 → ⊥) → (n ≡ 0 → ⊥) → joined_length m n ≡ m + 1 + n
length_both m n some more = rw (ne_eqb n 0 more, ne_eqb m 0 some)

pub length-joined : (a b : List ℕ) → length (joined a b) ≡ joined_length (length a) (length b)
length-joined a [] = ap length (joined-nil a)
length-joined [] (y ∷ b) = ap length (one_piece (y ∷ b)) ∙ sym (length_first 0 (length (y ∷ b)) refl (λ e. omega arith))
length-joined (x ∷ a) (y ∷ b) =
    ap length (joined_both (x ∷ a) (y ∷ b) (λ e. omega arith) (λ e. omega arith))
    ∙ omega (arith, length-append (x ∷ a) (space ∷ y ∷ b), length_both (length (x ∷ a)) (length (y ∷ b)) (λ e. omega arith) (λ e. omega arith))

-- what is joined so far is no longer than all
pub joined_longer : (a b : List ℕ) → length a ≤ length (joined a b)
joined_longer [] b = omega arith
joined_longer (x ∷ a) b = omega (arith, length-append (x ∷ a) (after_space (by_spaces (b ∷ []))))
