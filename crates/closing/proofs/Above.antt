-- Text above the last paragraph cannot make the answer yes, nor change it in any way: two entries whose bodies end in the same bytes,
-- as K12 has it, have the same closing note or the same refusal (nothing_above_decides, nothing_above_erases). Assumes nothing.
use Rattle.std.specs.Prelude.{if◌then◌else◌}
use mathlib.Core.Bool.{Bool, true, false}
use mathlib.Core.List.{List, [], ◌∷◌, map, map-map}
use mathlib.Core.Path.{◌≡◌, refl, sym, ap, ◌∙◌}
use Prim.Native.Nat.{ℕ}
use Rattle.rules.specs.Above.{EndsIn, BlankThenNot, Told, told, from_end}
use Rattle.rules.specs.Lines.{lines}
use Rattle.rules.specs.Paragraph.{message_trailers, trailers_of}
use Rattle.rules.specs.Title.{body, body_start}
use Rattle.rules.specs.Trailer.{Trailer, trailer, those, token_of}
use Rattle.rules.proofs.Above.{nothing_reaches_down}
use Rattle.rules.proofs.Messages.{message_trailers_lem}
use Rattle.rules.proofs.Walk.{shifted}
use Rattle.closing.specs.Closing.{has, content, contents, answer, may_erase, erases}
use Rattle.closing.specs.declared.Field.{Field}
use Rattle.closing.proofs.Exactly.{same_answer}

-- the contents go by the trailers' lines, and not by their places
contents_kept : (f : Field) (g : Trailer → Trailer) → ((t : Trailer) → (token_of (g t) ≡ token_of t) × (content (g t) ≡ content t)) →
    (ts : List Trailer) → contents f (map g ts) ≡ contents f ts
contents_kept f g same [] = refl
contents_kept f g same (t ∷ ts) = rw (same t).0 (by (has f (token_of t)) (contents_kept f g same ts))
  where
    by : (b : Bool) → contents f (map g ts) ≡ contents f ts →
        map content (if b then g t ∷ those (has f) (map g ts) else those (has f) (map g ts))
        ≡ map content (if b then t ∷ those (has f) ts else those (has f) ts)
    by true e = rw (same t).1 (ap (λ (cs : List (List ℕ)). content t ∷ cs) e)
    by false e = e

-- the trailers of a message have the contents of its body's
pub of_the_body : (m : List ℕ) → answer (message_trailers m) ≡ answer (trailers_of (body m))
of_the_body m =
    ap answer (message_trailers_lem m)
    ∙ same_answer (map (shifted (body_start m)) (trailers_of (body m))) (trailers_of (body m))
    (λ f. contents_kept f (shifted (body_start m)) same (trailers_of (body m)))
  where
    same : (t : Trailer) → (token_of (shifted (body_start m) t) ≡ token_of t) × (content (shifted (body_start m) t) ≡ content t)
    same (trailer at l js) = (refl, refl)

-- told from the end, a trailer has its lines; here it is told as a trailer at 0
abbrev unplaced : Told → Trailer
unplaced (told distance l js) = trailer 0 l js

contents_told : (f : Field) (s : List ℕ) (ts : List Trailer) → contents f (map unplaced (map (from_end s) ts)) ≡ contents f ts
contents_told f s ts = ap (contents f) (map-map unplaced (from_end s) ts) ∙ contents_kept f (λ (t : Trailer). unplaced (from_end s t)) same ts
  where
    same : (t : Trailer) → (token_of (unplaced (from_end s t)) ≡ token_of t) × (content (unplaced (from_end s t)) ≡ content t)
    same (trailer at l js) = (refl, refl)

pub nothing_above_decides : (one two foot : List ℕ) → EndsIn (body one) foot → EndsIn (body two) foot → BlankThenNot (lines foot)
    → answer (message_trailers one) ≡ answer (message_trailers two)
nothing_above_decides one two foot a b p =
    of_the_body one
    ∙ same_answer (trailers_of (body one)) (trailers_of (body two))
    (λ f.
    sym (contents_told f (body one) (trailers_of (body one)))
    ∙ ap (λ (us : List Told). contents f (map unplaced us)) (nothing_reaches_down (body one) (body two) foot a b p)
    ∙ contents_told f (body two) (trailers_of (body two)))
    ∙ sym (of_the_body two)

pub nothing_above_erases : (one two foot : List ℕ) (received : ℕ) → EndsIn (body one) foot → EndsIn (body two) foot → BlankThenNot (lines foot)
    → may_erase (message_trailers one) received ≡ may_erase (message_trailers two) received
unfolding may_erase
nothing_above_erases one two foot received a b p = ap (erases received) (nothing_above_decides one two foot a b p)
