-- The pieces of the listing, written one behind another: the first line (first_put), the halves of a trailer's line (name_put,
-- value_put) and the line (line_put). Assumes nothing.
use mathlib.Core.List.{List, [], ◌∷◌, ◌++◌, append_assoc}
use mathlib.Core.Path.{◌≡◌, refl, sym, ap, ◌∙◌}
use Prim.Native.Nat.{ℕ, ◌+◌, ◌-◌, ◌≤◌}
use native.Mathlib.Omega.{arith}
use borrow.Rule.Slice.PartMut.{put_mid}
use lib.ListN.{length, take, drop, length-append}
use lib.Seq.{paste}
use Rattle.rules.specs.Bytes.{LF, bytes}
use Rattle.rules.specs.Trailer.{unfolded}
use Rattle.copy.specs.Onto.{onto}
use Rattle.copy.proofs.Onto.{tail_written}
use Rattle.adding.proofs.Writing.{behind, copied, size_kept}
use Rattle.screen.specs.Listing.{first_line, line_of}
use Rattle.screen.specs.Parts.{name_of, value_line}

-- ---- how long they are

pub first_size : (digits : List ℕ) → length (first_line digits) ≡ 10 + length digits
first_size digits = omega (arith, length-append digits (LF ∷ []))

pub name_size : (token : List ℕ) → length (name_of token) ≡ length token + 2
name_size token = length-append token (bytes ": ")

pub value_size : (raw : List ℕ) → length (value_line raw) ≡ length (unfolded raw) + 1
value_size raw = length-append (unfolded raw) (LF ∷ [])

line_halves : (token raw : List ℕ) → name_of token ++ value_line raw ≡ line_of token raw
line_halves token raw = append_assoc token (bytes ": ") (value_line raw)

pub line_size : (token raw : List ℕ) → length (line_of token raw) ≡ length (name_of token) + length (value_line raw)
line_size token raw = sym (ap length (line_halves token raw)) ∙ length-append (name_of token) (value_line raw)

-- ---- the first line

module _ (digits d : List ℕ) (h : length (first_line digits) ≤ length d) where
  pub first_fits : 10 + length digits ≤ length d
  first_fits = omega (arith, first_size digits)

  module _ (o : List ℕ) (e : o ≡ paste d 0 (bytes "trailers ") 9) where
    word : o ≡ onto 0 (bytes "trailers ") d
    word = copied d o (bytes "trailers ") 0 e

    pub word_size : length o ≡ length d
    word_size = size_kept d o (bytes "trailers ") 0 word (omega (arith, first_fits))

    module _ (p : List ℕ) (f : p ≡ paste o 9 digits (length digits)) where
      number : p ≡ onto 9 digits o
      number = copied o p digits 9 f

      pub first_put : (q : List ℕ) → q ≡ paste p (9 + length digits) (LF ∷ []) 1 → q ≡ onto 0 (first_line digits) d
      first_put q g =
          let lf : q ≡ onto (9 + length digits) (LF ∷ []) p = copied p q (LF ∷ []) (9 + length digits) g in
          let two : q ≡ onto 9 (digits ++ (LF ∷ [])) o = behind o p q digits (LF ∷ []) 9 (9 + length digits) number lf refl (omega (arith, first_fits, word_size)) in
          behind d o q (bytes "trailers ") (digits ++ (LF ∷ [])) 0 9 word two refl (omega (arith, first_fits))

-- ---- a token, the colon and the space

module _ (token : List ℕ) (at : ℕ) (d : List ℕ) (h : at + length (name_of token) ≤ length d) where
  pub name_fits : at + length token + 2 ≤ length d
  name_fits = omega (arith, name_size token)

  module _ (o : List ℕ) (e : o ≡ paste d at token (length token)) where
    there : o ≡ onto at token d
    there = copied d o token at e

    pub name_put : (p : List ℕ) → p ≡ paste o (at + length token) (bytes ": ") 2 → p ≡ onto at (name_of token) d
    name_put p f =
        let colon : p ≡ onto (at + length token) (bytes ": ") o = copied o p (bytes ": ") (at + length token) f in
        behind d o p token (bytes ": ") at (at + length token) there colon refl (omega (arith, name_fits))

-- ---- a value, unfolded into the tail that is lent, and the LF

module _ (raw : List ℕ) (at : ℕ) (d : List ℕ) (h : at + length (value_line raw) ≤ length d) where
  pub value_fits : at + length (unfolded raw) + 1 ≤ length d
  value_fits = omega (arith, value_size raw)

  module _ (z : List ℕ) (e : z ≡ unfolded raw ++ drop (length (unfolded raw)) (take (length d - at) (drop at d))) where
    tail : put_mid at (length d - at) d z ≡ onto at (unfolded raw) d
    tail = ap (put_mid at (length d - at) d) e ∙ tail_written d (unfolded raw) at

    pub value_put : (n : ℕ) (q : List ℕ) → n ≡ length (unfolded raw) → q ≡ paste (put_mid at (length d - at) d z) (at + n) (LF ∷ []) 1 → q ≡ onto at (value_line raw) d
    value_put n q k f =
        let o : List ℕ = put_mid at (length d - at) d z in
        let lf : q ≡ onto (at + n) (LF ∷ []) (put_mid at (length d - at) d z) = copied o q (LF ∷ []) (at + n) f in
        behind d o q (unfolded raw) (LF ∷ []) at (at + n) tail lf (omega arith) (omega (arith, value_fits))

-- ---- both

module _ (token raw d : List ℕ) (i : ℕ) (h : i + length (line_of token raw) ≤ length d) (o : List ℕ) (e : o ≡ onto i (name_of token) d) where
  pub line_put : (p : List ℕ) (j : ℕ) → j ≡ i + length (name_of token) → p ≡ onto j (value_line raw) o → p ≡ onto i (line_of token raw) d
  line_put p j k f =
      behind d o p (name_of token) (value_line raw) i j e f k (omega (arith, line_size token raw)) ∙ ap (λ (w : List ℕ). onto i w d) (line_halves token raw)
