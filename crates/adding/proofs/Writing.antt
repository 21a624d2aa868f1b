-- The pieces of a new message, written one after another, and that they are the message. Assumes nothing.
use Rattle.std.specs.Prelude.{None, Some, if◌then◌else◌}
use mathlib.Core.Bool.{Bool, true, false}
use mathlib.Core.List.{List, [], ◌∷◌, ◌++◌, map, append_assoc, append-nil}
use mathlib.Core.Path.{◌≡◌, refl, sym, ap, ◌∙◌}
use denote.Bor.{Bor}
use Rattle.std.proofs.lemmas.List.{length-map}
use Prim.Native.Nat.{ℕ, zero, suc, ◌+◌, ◌≤◌, ◌<◌}
use native.Mathlib.Numerals.{add-one}
use native.Mathlib.Omega.{arith}
use borrow.Author.Tests.{eq-eqb, ne_eqb, not-false, not-true}
use lib.ListN.{length, get_or, take, drop, length-append}
use lib.Seq.{drop-cons, paste}
use Rattle.rules.specs.Bytes.{colon, space}
use Rattle.rules.specs.Lists.{join}
use Rattle.rules.specs.Paragraph.{ending_below}
use Rattle.rules.specs.declared.Ending.{Ending}
use Rattle.copy.specs.Onto.{onto}
use Rattle.copy.proofs.Onto.{length-onto, onto-append, pasted}
use Rattle.appending.specs.Added.{above, added, empty_line, has_block, has_line, kept, lacking, new_end}
use Rattle.appending.proofs.ForCode.{kept_ending, kept_front, kept_none}

-- ---- one piece after another

pub size_kept : (d o a : List ℕ) (i : ℕ) → o ≡ onto i a d → i + length a ≤ length d → length o ≡ length d
size_kept d o a i e h = ap length e ∙ length-onto i a d h

pub copied : (d o s : List ℕ) (at : ℕ) → o ≡ paste d at s (length s) → o ≡ onto at s d
copied d o s at e = e ∙ pasted d s at

pub behind : (d o p a b : List ℕ) (i j : ℕ) → o ≡ onto i a d → p ≡ onto j b o → j ≡ i + length a → i + length a ≤ length d → p ≡ onto i (a ++ b) d
behind d o p a b i j e f q h =
    f ∙ ap (λ (k : ℕ). onto k b o) q ∙ ap (λ (x : List ℕ). onto (i + length a) b x) e ∙ sym (onto-append i a b d h)

-- the piece at place j, and those after it
module _ (pieces : List (List ℕ)) (j : ℕ) (h : j < length pieces) where
  first_left : drop j pieces ≡ get_or pieces j [] ∷ drop (j + 1) pieces
  first_left = rw (add-one j, drop-cons pieces j [] h)

  pub length_next : length (join (drop j pieces)) ≡ length (get_or pieces j []) + length (join (drop (j + 1) pieces))
  length_next = omega (arith, ap (λ ps. length (join ps)) first_left, length-append (get_or pieces j []) (join (drop (j + 1) pieces)))

  pub piece_next : (out : List ℕ) (at : ℕ) → at + length (join (drop j pieces)) ≤ length out → let p = get_or pieces j [] in onto (at + length p) (join (drop (j + 1) pieces)) (paste out at p (length p)) ≡ onto at (join (drop j pieces)) out
  piece_next out at fits =
      let p = get_or pieces j [] in
      let left = join (drop (j + 1) pieces) in
      let room : at + length p ≤ length out = omega (arith, length_next) in
      ap (λ (o : List ℕ). onto (at + length p) left o) (pasted out p at)
      ∙ sym (onto-append at p left out room)
      ∙ ap (λ (ps : List (List ℕ)). onto at (join ps) out) (sym first_left)

-- the bytes of the pieces that are lent
abbrev pub bytes_of : List (Bor (List ℕ)) → List (List ℕ)
bytes_of pieces = map (λ piece. piece.now) pieces

abbrev pub lent_at : List (Bor (List ℕ)) → ℕ → List ℕ
lent_at pieces j = (get_or pieces j (record { ref_ptr = (0, 0); now = [] })).now

pub lent_is : (pieces : List (Bor (List ℕ))) (j : ℕ) → get_or (bytes_of pieces) j [] ≡ lent_at pieces j
lent_is [] j = refl
lent_is (p ∷ ps) zero = refl
lent_is (p ∷ ps) (suc j) = lent_is ps j

pub lent_there : (pieces : List (Bor (List ℕ))) (j : ℕ) → j < length pieces → j < length (bytes_of pieces)
lent_there pieces j h = omega (arith, length-map pieces (λ (p : Bor (List ℕ)). p.now))

-- ---- the pieces of the new message

-- what is kept, the LF that its last line lacks, the empty line, the token, the colon and the space, the value, the new line's end
module _ (message token value : List ℕ) {len : ℕ} {ending : Ending} {block : Bool} {lf line end : List ℕ}
    (k : len ≡ length (kept message)) (e : ending ≡ ending_below (take len message)) (b : block ≡ has_block message)
    (p : lf ≡ lacking ending) (q : line ≡ empty_line block ending) (r : end ≡ new_end ending) where
  pub pieces_join : join (take len message ∷ lf ∷ line ∷ token ∷ (colon ∷ space ∷ []) ∷ value ∷ end ∷ []) ≡ added message token value
  unfolding added above
  pieces_join =
      let front : take len message ≡ kept message = rw k (kept_front message) in
      let same : ending ≡ ending_below message = e ∙ ap ending_below front ∙ kept_ending message in
      rw (front, p, q, r, b, same) (simp (append_assoc, append-nil))

  pub added_size : length (added message token value) ≡ length (take len message) + length lf + length line + length token + 2 + length value + length end
  added_size = sym (ap length pieces_join) ∙ simp length-append (omega arith)

pub front_size : (message : List ℕ) {len : ℕ} → len ≡ length (kept message) → len ≡ length (take len message)
front_size message {len} k =
    let front : take len message ≡ kept message = rw k (kept_front message) in
    k ∙ sym (ap length front)

-- ---- whether there is a line to stand on

pub nothing_there : (message : List ℕ) → 0 ≡ length (kept message) → None ≡ (if has_line message then Some (length (kept message)) else None)
nothing_there message e =
    let none : has_line message ≡ false = not-true (has_line message) (sym (kept_none message) ∙ eq-eqb (length (kept message)) 0 (sym e)) in
    rw none

pub something_there : (message : List ℕ) (k : ℕ) → k ≡ length (kept message) → 0 < k → Some k ≡ (if has_line message then Some (length (kept message)) else None)
something_there message k e z =
    let some : has_line message ≡ true = not-false (has_line message) (sym (kept_none message) ∙ ne_eqb (length (kept message)) 0 (λ h. omega arith)) in
    rw (some, e)
