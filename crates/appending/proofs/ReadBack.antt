-- "Read back, the trailers are the old ones, then the new one" (read_back); the old ones keep their places (read_back_at,
-- places_kept), and the bytes up to the last non-blank line stay (bytes_kept). Assumes nothing.
use Rattle.std.specs.Prelude.{if◌then◌else◌}
use mathlib.Core.Bool.{Bool, true, false, not}
use mathlib.Core.List.{List, [], ◌∷◌, ◌++◌, map, map-append, append_assoc, append-nil}
use mathlib.Core.Logic.{◌⊎◌, inl, inr}
use mathlib.Core.Path.{◌≡◌, refl, sym, ap, ◌∙◌}
use Prim.Native.Nat.{ℕ, ◌+◌, ◌≤◌}
use native.Mathlib.Omega.{arith}
use lib.Dec.{T, T_not, not_T}
use lib.ListN.{length, take, length-append, length-drop}
use lib.Seq.{take-append_seam}
use Rattle.rules.specs.Bytes.{LF, CR}
use Rattle.rules.specs.Lines.{Line, lines, blank}
use Rattle.rules.specs.Lists.{All, any, equal, join}
use Rattle.rules.specs.Paragraph.{solid, Body, empty, ended, nothing, above_lines, grouped_lines, body_lines, IsBody, parse, ending_below, trailers_of, message_trailers}
use Rattle.rules.specs.Title.{LineEnd, lf, crlf, body, body_start}
use Rattle.rules.specs.Trailer.{Trailer, trailer, place_of}
use Rattle.rules.proofs.BodyTrailers.{block_trailers, body_trailers}
use Rattle.rules.proofs.Lines.{join-lines}
use Rattle.rules.proofs.Lists.{equal_is, is_true, join-append, or_cases}
use Rattle.rules.proofs.Paragraph.{no_last_run, parse_is, parse-lines, tree_last_run}
use Rattle.rules.proofs.Title.{body_fits}
use Rattle.rules.proofs.Messages.{message_trailers_lem}
use Rattle.rules.proofs.Walk.{shifted}
use Rattle.appending.specs.Added.{NewMessage, kept, lacking, new_end, is_block, has_block, empty_line, new_line, above, added, Asked, pair_of, told_of}
use Rattle.appending.proofs.Alike.{Alike}
use Rattle.appending.proofs.Bodies.{New, added_below, one_more, only_trailers, trailers_by}
use Rattle.appending.proofs.Titles.{is_end, behind_end, after_title, body-lines, title_cut}
use Rattle.appending.proofs.Written.{added-lines, cut, end, end-blank, given, how, kept_bytes, last_completed, last_ending, new, new_end_lem, new_line_lem, none_solid}

-- ---- the trailers of a message are those of its body

-- what is told of the trailers of a body
abbrev told_in : List ℕ → List (ℕ × List ℕ × List ℕ)
told_in b = map told_of (trailers_of b)

-- n bytes further on
abbrev further : ℕ → ℕ × List ℕ × List ℕ → ℕ × List ℕ × List ℕ
further n p = (n + p.0, p.1, p.2)

told_shifted : (n : ℕ) (ts : List Trailer) → map told_of (map (shifted n) ts) ≡ map (further n) (map told_of ts)
told_shifted n [] = refl
told_shifted n (trailer at l js ∷ ts) = rw (told_shifted n ts)

message_told : (m : List ℕ) → map told_of (message_trailers m) ≡ map (further (body_start m)) (told_in (body m))
message_told m = ap (map told_of) (message_trailers_lem m) ∙ told_shifted (body_start m) (trailers_of (body m))

body_size : (m : List ℕ) → body_start m + length (body m) ≡ length m
body_size m = omega (arith, length-drop (body_start m) m, body_fits m)

-- the body starts where it did, or it had no trailers
in_message : (m r token value : List ℕ) (at : ℕ) → told_in (body r) ≡ told_in (body m) ++ ((at, token, value) ∷ [])
    → (body_start r ≡ body_start m) ⊎ (told_in (body m) ≡ [])
    → map told_of (message_trailers r) ≡ map told_of (message_trailers m) ++ ((body_start r + at, token, value) ∷ [])
in_message m r token value at e (inl s) =
    let same : map (further (body_start r)) (told_in (body m)) ≡ map told_of (message_trailers m) = rw s (sym (message_told m)) in
    message_told r ∙ ap (map (further (body_start r))) e
    ∙ map-append (further (body_start r)) (told_in (body m)) ((at, token, value) ∷ [])
    ∙ ap (λ (x : List (ℕ × List ℕ × List ℕ)). x ++ ((body_start r + at, token, value) ∷ [])) same
in_message m r token value at e (inr s) =
    let none : map told_of (message_trailers m) ≡ [] = message_told m ∙ ap (map (further (body_start m))) s in
    let one : told_in (body r) ≡ (at, token, value) ∷ [] = e ∙ ap (λ (x : List (ℕ × List ℕ × List ℕ)). x ++ ((at, token, value) ∷ [])) s in
    message_told r ∙ ap (map (further (body_start r))) one
    ∙ ap (λ (x : List (ℕ × List ℕ × List ℕ)). x ++ ((body_start r + at, token, value) ∷ [])) (sym none)

-- ---- a line that is no line end alone

end_is_blank : (l : Line) → T (is_end l) → T (blank l)
end_is_blank l t = elim (or_cases (equal l (LF ∷ [])) (equal l (CR ∷ LF ∷ [])) t) [
  | inl e ↦ rw (equal_is l (LF ∷ []) e) (end-blank lf)
  | inr e ↦ rw (equal_is l (CR ∷ LF ∷ []) e) (end-blank crlf)
]

solid_no_end : (l : Line) → T (solid l) → T (not (is_end l))
solid_no_end l s = not_T (is_end l) (λ e. T_not (blank l) s (end_is_blank l e))

is_end_lem : {e : List ℕ} → LineEnd e → T (is_end e)
is_end_lem lf = tt
is_end_lem crlf = tt

-- ---- a body of blank lines

behind_blank : (bs : List Line) → All blank bs → All blank (behind_end bs)
behind_blank [] a = tt
behind_blank (b ∷ bs) a = by (is_end b) (behind_blank bs a.1)
  where
    by : (c : Bool) → All blank (behind_end bs) → All blank (if c then bs else behind_end bs)
    by true h = a.1
    by false h = h

no_block : (b : List ℕ) → All blank (lines b) → is_block (parse (lines b)) ≡ false
no_block b w = by (parse (lines b)) (parse_is (lines b)) (parse-lines (lines b))
  where
    by : (x : Body) → IsBody x → body_lines x ≡ lines b → is_block x ≡ false
    by (empty cs) i e = refl
    by (ended a p cs) i e = absurd (no_last_run (above_lines a) (grouped_lines p) cs (lines b) (tree_last_run a p cs i) w e)

no_trailers : (b : List ℕ) → All blank (lines b) → told_in b ≡ []
no_trailers b w = ap (map told_of) (trailers_by b (empty (lines b)) w refl)

-- ---- how long the parts are

new_last : (b : Bool) (e n : Line) → (k : ℕ) × (k + length n ≡ length (join (added_below b e n)))
new_last true e n = (0, rw (append-nil n) (omega arith))
new_last false e n = (length e, rw (append-nil n) (sym (length-append e n)))

body_starts : (s : List ℕ) (us y rest : List Line) → lines s ≡ us ++ rest → lines (body s) ≡ y ++ rest → body_start s + length (join y) ≡ length (join us)
body_starts s us y rest e f =
    omega (
      arith,
      body_size s,
      ap length (sym (join-lines s) ∙ ap join e ∙ join-append us rest),
      ap length (sym (join-lines (body s)) ∙ ap join f ∙ join-append y rest),
      length-append (join us) (join rest),
      length-append (join y) (join rest),
    )

-- ---- the theorem

module _ (message token value : List ℕ) (r : Asked message token value) where
  abbrev result : List ℕ
  result = added message token value

  abbrev at_end : NewMessage message token value result
  at_end = cut message token value r

  abbrev last : Line
  last = at_end.last

  abbrev given_last : Line
  given_last = given message token value r

  abbrev added_line : Line
  added_line = new message token value r

  abbrev line_end : Line
  line_end = end message token value r

  is_new : New added_line token value
  is_new = new_line_lem token value line_end r.some r.token_bytes r.no_lf r.own_trim (new_end_lem (how message token value r))

  alike : Alike last given_last
  alike = (last_completed message token value r).alike

  k_solid : T (solid given_last)
  k_solid = rw alike.same_blank at_end.not_blank

  abbrev below_given : List Line
  below_given = added_below (has_block message) line_end added_line

  message_lines : lines (body message) ≡ after_title (at_end.front ++ last ∷ at_end.blanks)
  message_lines = body-lines message ∙ ap after_title at_end.read

  result-lines : lines (body result) ≡ after_title (at_end.front ++ given_last ∷ below_given)
  result-lines = body-lines result ∙ ap after_title (added-lines message token value r)

  -- the new line's place
  new_place : length (above message) + length added_line ≡ length result
  unfolding added
  new_place = rw (last_ending message token value r) (sym (length-append (above message) added_line))

  same_start : (y : List Line) → lines (body message) ≡ y ++ last ∷ at_end.blanks → lines (body result) ≡ y ++ given_last ∷ below_given
      → body_start result ≡ body_start message
  same_start y p q =
      omega (
        arith,
        body_starts message at_end.front y (last ∷ at_end.blanks) at_end.read p,
        body_starts result at_end.front y (given_last ∷ below_given) (added-lines message token value r) q,
      )

  -- the body has the last non-blank line
  in_body : (y : List Line) → lines (body message) ≡ y ++ last ∷ at_end.blanks → lines (body result) ≡ y ++ given_last ∷ below_given
      → map told_of (message_trailers result) ≡ map told_of (message_trailers message) ++ ((length (above message), token, value) ∷ [])
  unfolding has_block
  in_body y p q =
      let (j, s) = new_last (has_block message) line_end added_line in
      let size : length (body result) ≡ length (join y) + (length given_last + length (join below_given)) =
      ap length (sym (join-lines (body result)) ∙ ap join q ∙ join-append y (given_last ∷ below_given)) ∙ (simp length-append) in
      let at : ℕ = length (join y) + (length given_last + j) in
      let fits : at + length added_line ≡ length (body result) = omega arith in
      let place : body_start result + at ≡ length (above message) = omega (arith, body_size result, new_place) in
      rw (← place) (in_message message result token value at
      (one_more added_line given_last token value is_new y last at_end.blanks at_end.not_blank at_end.all_blank alike (body message) (body result) at p fits line_end (end-blank (new_end_lem (how message token value r))) q)
      (inl (same_start y p q)))

  -- it has not
  in_title : lines (body message) ≡ behind_end at_end.blanks → lines (body result) ≡ behind_end below_given
      → map told_of (message_trailers result) ≡ map told_of (message_trailers message) ++ ((length (above message), token, value) ∷ [])
  unfolding has_block
  in_title p q =
      let w : All blank (lines (body message)) = rw p (behind_blank at_end.blanks at_end.all_blank) in
      let none : has_block message ≡ false = no_block (body message) w in
      let alone : lines (body result) ≡ added_line ∷ [] = q ∙ rw (none, is_true (is_end line_end) (is_end_lem (new_end_lem (how message token value r)))) in
      let size : 0 + length added_line ≡ length (body result) = omega (arith, ap length (sym (join-lines (body result)) ∙ ap join alone ∙ append-nil added_line)) in
      let place : body_start result + 0 ≡ length (above message) = omega (arith, body_size result, new_place) in
      rw (← place) (in_message message result token value 0
      (only_trailers added_line token value is_new (body result) nothing 0 tt alone size ∙ rw (no_trailers (body message) w))
      (inr (no_trailers (body message) w)))

  -- where a body has a non-blank line, it starts where it did, in what is kept
  pub body_start-kept : T (any solid (lines (body message))) → (body_start result ≡ body_start message) × (body_start message ≤ length (kept message))
  body_start-kept f = elim (title_cut last given_last (solid_no_end last at_end.not_blank) (solid_no_end given_last k_solid) at_end.blanks below_given at_end.front) [
    | inl (y, p, q) ↦ (
      same_start y (message_lines ∙ p) (result-lines ∙ q),
      omega (
        arith,
        body_starts message at_end.front y (last ∷ at_end.blanks) at_end.read (message_lines ∙ p),
        ap length (kept_bytes message token value r),
        length-append (join at_end.front) last,
      ),
    )
    | inr (p, q) ↦ absurd (rw (none_solid (lines (body message)) (rw (message_lines ∙ p) (behind_blank at_end.blanks at_end.all_blank))) at f)
  ]

  pub read_back_at : map told_of (message_trailers result) ≡ map told_of (message_trailers message) ++ ((length (above message), token, value) ∷ [])
  read_back_at = elim (title_cut last given_last (solid_no_end last at_end.not_blank) (solid_no_end given_last k_solid) at_end.blanks below_given at_end.front) [
    | inl (y, p, q) ↦ in_body y (message_lines ∙ p) (result-lines ∙ q)
    | inr (p, q) ↦ in_title (message_lines ∙ p) (result-lines ∙ q)
  ]

-- ---- without the places, and the places alone

pairs : (ts : List Trailer) → map (λ (p : ℕ × List ℕ × List ℕ). (p.1, p.2)) (map told_of ts) ≡ map pair_of ts
pairs [] = refl
pairs (t ∷ ts) = rw (pairs ts)

places : (ts : List Trailer) → map (λ (p : ℕ × List ℕ × List ℕ). p.0) (map told_of ts) ≡ map place_of ts
places [] = refl
places (t ∷ ts) = rw (places ts)

module _ (message token value : List ℕ) (r : Asked message token value) where
  pub read_back : map pair_of (message_trailers (added message token value)) ≡ map pair_of (message_trailers message) ++ ((token, value) ∷ [])
  read_back =
      let f : ℕ × List ℕ × List ℕ → List ℕ × List ℕ = λ p. (p.1, p.2) in
      sym (pairs (message_trailers (added message token value))) ∙ ap (map f) (read_back_at message token value r)
      ∙ map-append f (map told_of (message_trailers message)) ((length (above message), token, value) ∷ [])
      ∙ ap (λ (x : List (List ℕ × List ℕ)). x ++ ((token, value) ∷ [])) (pairs (message_trailers message))

  pub places_kept : map place_of (message_trailers (added message token value)) ≡ map place_of (message_trailers message) ++ (length (above message) ∷ [])
  places_kept =
      let f : ℕ × List ℕ × List ℕ → ℕ = λ p. p.0 in
      sym (places (message_trailers (added message token value))) ∙ ap (map f) (read_back_at message token value r)
      ∙ map-append f (map told_of (message_trailers message)) ((length (above message), token, value) ∷ [])
      ∙ ap (λ (x : List ℕ). x ++ (length (above message) ∷ [])) (places (message_trailers message))

  -- ---- the bytes up to the last non-blank line

  -- the message begins with them, and what is written does
  kept_in_message : message ≡ kept message ++ join (cut message token value r).blanks
  kept_in_message =
      let c : NewMessage message token value (added message token value) = cut message token value r in
      sym (join-lines message) ∙ ap join c.read ∙ join-append c.front (c.last ∷ c.blanks)
      ∙ (rw (kept_bytes message token value r) (sym (append_assoc (join c.front) c.last (join c.blanks))))

  -- what is added
  abbrev more : List ℕ
  more = lacking (ending_below message) ++ (empty_line (has_block message) (ending_below message) ++ new_line token value (new_end (ending_below message)))

  kept_in_result : added message token value ≡ kept message ++ more
  unfolding added above
  kept_in_result = simp append_assoc

  pub bytes_kept : take (length (kept message)) (added message token value) ≡ take (length (kept message)) message
  bytes_kept =
      let size : ℕ = length (kept message) in
      let after : take (length (kept message)) (added message token value) ≡ kept message =
      ap (take size) kept_in_result ∙ take-append_seam (kept message) more in
      let before : take (length (kept message)) message ≡ kept message =
      ap (take size) kept_in_message ∙ take-append_seam (kept message) (join (cut message token value r).blanks) in
      after ∙ sym before

  -- and only blank lines are left out
  pub dropped_blank : (bs : List Line) × All blank bs × (message ≡ kept message ++ join bs)
  dropped_blank = ((cut message token value r).blanks, (cut message token value r).all_blank, kept_in_message)

  -- ---- afterwards there is a block: a second trailer needs no empty line

  no_trailers_of : (x : Body) → is_block x ≡ false → block_trailers x ≡ []
  no_trailers_of (empty cs) e = refl
  no_trailers_of (ended a p cs) e = rw e

  pub block_after : has_block (added message token value) ≡ true
  unfolding has_block
  block_after = by (has_block (added message token value)) refl
    where
      by : (b : Bool) → has_block (added message token value) ≡ b → b ≡ true
      by true e = refl
      by false e =
          let s : List ℕ = body (added message token value) in
          let none : trailers_of s ≡ [] = body_trailers s ∙ no_trailers_of (parse (lines s)) e in
          let gone : map told_of (message_trailers (added message token value)) ≡ [] =
          message_told (added message token value) ∙ ap (λ (ts : List Trailer). map (further (body_start (added message token value))) (map told_of ts)) none in
          absurd (omega (arith, simp length-append at (ap length (sym gone ∙ read_back_at message token value r))))
