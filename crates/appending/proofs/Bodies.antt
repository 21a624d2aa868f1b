-- A body with a trailer line more: below an accepted block (block-added), or below an empty line where there was none
-- (no-block-added), its trailers are the old ones, then the new one; the old ones keep their places. Assumes nothing.
use mathlib.Core.Bool.{Bool, true, false, not}
use mathlib.Core.List.{List, [], ◌∷◌, ◌++◌, map, map-append, append_assoc, append-nil}
use mathlib.Core.Path.{◌≡◌, refl, sym, ap, ◌∙◌}
use Prim.Native.Nat.{ℕ, ◌+◌}
use native.Mathlib.Omega.{arith}
use lib.Dec.{T, T_not, not_T}
use lib.ListN.{length, length-append}
use Rattle.rules.specs.Lines.{Line, lines, blank, folds}
use Rattle.rules.specs.Lists.{All, filled, join}
use Rattle.rules.specs.Paragraph.{recognised, leads, group, Grouped, grouped, grouped_lines, Above, under, above_lines, IsAbove, solid}
use Rattle.rules.specs.Paragraph.{Body, empty, ended, body_lines, IsBody, accepted, groups, parse, trailers_of}
use Rattle.rules.specs.Trailer.{Trailer, trailer_line, token_in, value_in, unfolded, walk}
use Rattle.rules.proofs.BodyTrailers.{block_trailers, body_trailers}
use Rattle.rules.proofs.Lines.{join-lines}
use Rattle.rules.proofs.Lists.{all_append, all_left, all_right, cut_unique, ends_append, is_true, join-append, or_right, tail_unique}
use Rattle.rules.proofs.Paragraph.{body_unique, grouped_unique, groups_is, groups-lines, leads_not_folds, parse_is, parse-lines}
use Rattle.rules.proofs.Trailer.{blank_no_trailer, walk-append}
use Rattle.appending.specs.Added.{is_block, told_of}
use Rattle.appending.proofs.Alike.{Alike}
use Rattle.appending.proofs.Longer.{accepted_longer, longer, walk_last}

-- ---- lists with a last element

module _ {A : Type 0} where
  pub last_view : (xs : List A) → T (filled xs) → (ys : List A) × (y : A) × (xs ≡ ys ++ y ∷ [])
  last_view [] f = absurd f
  last_view (x ∷ []) f = ([], x, refl)
  last_view (x ∷ z ∷ xs) f =
      let (ys, y, e) = last_view (z ∷ xs) tt in
      (x ∷ ys, y, ap (λ (r : List A). x ∷ r) e)

  pub last_unique : (xs ys : List A) (x y : A) → xs ++ x ∷ [] ≡ ys ++ y ∷ [] → (xs ≡ ys) × (x ≡ y)
  last_unique xs ys x y e =
      let (p, q) = cut_unique xs (x ∷ []) ys (y ∷ []) (omega (arith, simp length-append at (ap length e))) e in
      (p, cc)

-- ---- the trailers of a body, by any tree that reads it

pub trailers_by : (body : List ℕ) (t : Body) → IsBody t → body_lines t ≡ lines body → trailers_of body ≡ block_trailers t
trailers_by body t w e =
    body_trailers body ∙ ap block_trailers (body_unique (parse (lines body)) t (parse_is (lines body)) w (parse-lines (lines body) ∙ sym e))

-- ---- the new line

-- a trailer line with this token and, unfolded, this value
pub record New (new : Line) (token value : List ℕ) : Type 0 where
  pub leading : T (trailer_line new)
  pub token_is : token_in new ≡ token
  pub value_is : unfolded (value_in new) ≡ value

module _ (new : Line) (token value : List ℕ) (n : New new token value) where
  pub new_leads : T (leads new)
  unfolding leads
  new_leads = or_right (recognised new) (trailer_line new) n.leading

  pub new_folds : T (not (folds new))
  new_folds = leads_not_folds new new_leads

  pub new_solid : T (solid new)
  new_solid = not_T (blank new) (λ b. T_not (trailer_line new) (blank_no_trailer new b) n.leading)

  pub walk_new : (at : ℕ) → map told_of (walk at (new ∷ [])) ≡ (at, token, value) ∷ []
  walk_new at =
      let v : unfolded (value_in new ++ []) ≡ value = ap unfolded (append-nil (value_in new)) ∙ n.value_is in
      rw (is_true (trailer_line new) n.leading, v, n.token_is)

  -- alone it is a paragraph, and accepted
  abbrev pub only : Grouped
  only = grouped [] (group new [] ∷ [])

  pub only-accepted : T (accepted only)
  unfolding accepted
  only-accepted = rw (is_true (leads new) new_leads) tt

  pub only_found : (a : Above) → map told_of (block_trailers (ended a only [])) ≡ (length (join (above_lines a)), token, value) ∷ []
  only_found a = rw (is_true (accepted only) only-accepted) (walk_new (length (join (above_lines a))))

  only_is : (a : Above) → IsAbove a → IsBody (ended a only [])
  only_is a w = (w, tt, (new_solid, tt), (tt, (new_folds, tt, tt)), tt)

  -- a body that is such a paragraph below `a`
  pub only_trailers : (body : List ℕ) (a : Above) (at : ℕ) → IsAbove a → lines body ≡ above_lines a ++ new ∷ [] → at + length new ≡ length body
      → map told_of (trailers_of body) ≡ (at, token, value) ∷ []
  only_trailers body a at w e h =
      let read : body_lines (ended a only []) ≡ lines body = append-nil (above_lines a ++ new ∷ []) ∙ sym e in
      let size : length body ≡ length (join (above_lines a)) + length new =
      ap length (sym (join-lines body) ∙ ap join e ∙ join-append (above_lines a) (new ∷ [])) ∙ length-append (join (above_lines a)) (new ++ []) ∙ rw (append-nil new) in
      let place : length (join (above_lines a)) ≡ at = omega arith in
      rw (trailers_by body (ended a only []) (only_is a w) read, only_found a, place)

-- ---- the last non-blank line is the last of the paragraph

module _ (y : List Line) (l : Line) (bs : List Line) (s : T (solid l)) (z : All blank bs) where
  pub at_the_end : (a : Above) (p : Grouped) (cs : List Line) → IsBody (ended a p cs) → body_lines (ended a p cs) ≡ y ++ l ∷ bs
      → (ps : List Line) × (grouped_lines p ≡ ps ++ l ∷ []) × (y ≡ above_lines a ++ ps)
  at_the_end a p cs w e =
      let (ps, x, h) = last_view (grouped_lines p) w.1 in
      let so : T (solid x) = (all_right solid ps (x ∷ []) (rw h at w.2)).0 in
      let front : above_lines a ++ grouped_lines p ≡ (above_lines a ++ ps) ++ x ∷ [] =
      ap (λ (r : List Line). above_lines a ++ r) h ∙ sym (append_assoc (above_lines a) ps (x ∷ [])) in
      let whole : ((above_lines a ++ ps) ++ x ∷ []) ++ cs ≡ (y ++ l ∷ []) ++ bs =
      ap (λ (r : List Line). r ++ cs) (sym front) ∙ e ∙ sym (append_assoc y (l ∷ []) bs) in
      let (u, v) = tail_unique blank ((above_lines a ++ ps) ++ x ∷ []) cs (y ++ l ∷ []) bs (ends_append blank (above_lines a ++ ps) x [] so) w.4
      (ends_append blank y l [] s) z whole in
      let (p, q) = last_unique (above_lines a ++ ps) y x l u in
      (ps, h ∙ ap (λ (r : Line). ps ++ r ∷ []) q, sym p)

  pub not_empty : (cs : List Line) → All blank cs → cs ≡ y ++ l ∷ bs → ⊥
  not_empty cs w e = T_not (blank l) s (all_right blank y (l ∷ bs) (rw e at w)).0

-- ---- one more

-- the lines below the last non-blank one: behind a block the new line, otherwise an empty line and the new one
abbrev pub added_below : Bool → Line → Line → List Line
added_below true end new = new ∷ []
added_below false end new = end ∷ new ∷ []

module _ (new k : Line) (token value : List ℕ) (n : New new token value) (y : List Line) (l : Line) (bs : List Line) (s : T (solid l)) (z : All blank bs) (r : Alike l k)
    (body more : List ℕ) (at : ℕ) (e : lines body ≡ y ++ l ∷ bs) (h : at + length new ≡ length more) where
  -- what is shown: the old trailers, then the new one
  abbrev pub OneMore : Type 0
  OneMore = map told_of (trailers_of more) ≡ map told_of (trailers_of body) ++ ((at, token, value) ∷ [])

  k_solid : T (solid k)
  k_solid = rw r.same_blank s

  block_at : (a : Above) (p : Grouped) (cs ps : List Line) → IsBody (ended a p cs) → body_lines (ended a p cs) ≡ lines body → T (accepted p)
      → grouped_lines p ≡ ps ++ l ∷ [] → y ≡ above_lines a ++ ps → lines more ≡ y ++ k ∷ new ∷ [] → OneMore
  block_at a p cs ps w b t g u m =
      let lasts : List Line = ps ++ k ∷ new ∷ [] in
      let old : p ≡ groups (ps ++ l ∷ []) = grouped_unique p (groups (ps ++ l ∷ [])) w.3 (groups_is (ps ++ l ∷ [])) (g ∙ sym (groups-lines (ps ++ l ∷ []))) in
      let yes : T (accepted (groups lasts)) =
      accepted_longer (groups (ps ++ l ∷ [])) (groups lasts) (longer l k new r (new_folds new token value n) (new_leads new token value n) ps) (rw old at t) in
      let solids : All solid lasts =
      all_append solid ps (k ∷ new ∷ []) (all_left solid ps (l ∷ []) (rw g at w.2)) (k_solid, (new_solid new token value n, tt)) in
      let tree : Body = ended a (groups lasts) [] in
      let is : IsBody (ended a (groups lasts) []) =
      (w.0, rw (groups-lines lasts) (some ps), rw (groups-lines lasts) solids, groups_is lasts, tt) in
      let read : body_lines (ended a (groups lasts) []) ≡ lines more =
      append-nil (above_lines a ++ grouped_lines (groups lasts)) ∙ ap (λ (x : List Line). above_lines a ++ x) (groups-lines lasts)
      ∙ sym (append_assoc (above_lines a) ps (k ∷ new ∷ [])) ∙ ap (λ (x : List Line). x ++ k ∷ new ∷ []) (sym u) ∙ sym m in
      let top : ℕ = length (join (above_lines a)) in
      let size : length more ≡ top + length (join (ps ++ k ∷ [])) + length new =
      ap length (sym (join-lines more) ∙ ap join m ∙ ap (λ (x : List Line). join (x ++ k ∷ new ∷ [])) u)
      ∙ (simp (join-append, length-append, append-nil) (omega arith)) in
      let place : top + length (join (ps ++ k ∷ [])) ≡ at = omega arith in
      let found-now : block_trailers (ended a (groups lasts) []) ≡ walk top lasts = rw (is_true (accepted (groups lasts)) yes, groups-lines lasts) in
      let found_before : block_trailers (ended a p cs) ≡ walk top (ps ++ l ∷ []) = rw (is_true (accepted p) t, g) in
      let parts : walk top lasts ≡ walk top (ps ++ k ∷ []) ++ walk at (new ∷ []) =
      ap (walk top) (sym (append_assoc ps (k ∷ []) (new ∷ []))) ∙ walk-append top at (ps ++ k ∷ []) (new ∷ []) (new_folds new token value n) (sym place) in
      ap (map told_of) (trailers_by more (ended a (groups lasts) []) is read ∙ found-now ∙ parts)
      ∙ map-append told_of (walk top (ps ++ k ∷ [])) (walk at (new ∷ []))
      ∙ rw (walk_new new token value n at, walk_last l k r top ps, trailers_by body (ended a p cs) w b, found_before)
    where
      some : (ps : List Line) → T (filled (ps ++ k ∷ new ∷ []))
      some [] = tt
      some (x ∷ ps) = tt

  block_tree : (a : Above) (p : Grouped) (cs : List Line) → IsBody (ended a p cs) → body_lines (ended a p cs) ≡ lines body → T (accepted p)
      → lines more ≡ y ++ k ∷ new ∷ [] → OneMore
  block_tree a p cs w b t m =
      let (ps, g, u) = at_the_end y l bs s z a p cs w (b ∙ e) in
      block_at a p cs ps w b t g u m

  -- no block: an empty line `b`, and the new line below it
  no_block_tree : (b : Line) → T (blank b) → lines more ≡ y ++ k ∷ b ∷ new ∷ [] → trailers_of body ≡ [] → OneMore
  no_block_tree b t m none =
      let read : lines more ≡ above_lines (under y k b) ++ new ∷ [] = m ∙ sym (append_assoc y (k ∷ b ∷ []) (new ∷ [])) in
      only_trailers new token value n more (under y k b) at t read h ∙ ap (λ (ts : List Trailer). map told_of ts ++ ((at, token, value) ∷ [])) (sym none)

  pub one_more : (b : Line) → T (blank b) → lines more ≡ y ++ k ∷ added_below (is_block (parse (lines body))) b new → OneMore
  one_more b t m = by (parse (lines body)) refl
    where
      by : (x : Body) → parse (lines body) ≡ x → OneMore
      by (empty cs) q =
          let w : All blank cs = rw q at (parse_is (lines body)) in
          let read : cs ≡ lines body = rw q at (parse-lines (lines body)) in
          absurd (not_empty y l bs s z cs w (read ∙ e))
      by (ended a p cs) q = to (accepted p) refl
        where
          w : IsBody (ended a p cs)
          w = rw q at (parse_is (lines body))

          read : body_lines (ended a p cs) ≡ lines body
          read = rw q at (parse-lines (lines body))

          to : (c : Bool) → accepted p ≡ c → OneMore
          to true c = block_tree a p cs w read (rw c tt) (rw (q, c) at m)
          to false c = no_block_tree b t (rw (q, c) at m) (trailers_by body (ended a p cs) w read ∙ rw c)
