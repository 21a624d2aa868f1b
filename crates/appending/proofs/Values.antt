-- Values: an LF behind a raw value changes nothing of the unfolded one (unfolded_lf), and behind colon and space a value that
-- is its own trim is read back (unfolded_new). Assumes nothing.
use mathlib.Core.List.{List, [], ◌∷◌, ◌++◌, map, append_assoc, append-nil, nil≢cons}
use mathlib.Core.Path.{◌≡◌, refl, sym, ap, ◌∙◌}
use Prim.Native.Nat.{ℕ}
use Rattle.rules.specs.Bytes.{LF, CR, space}
use Rattle.rules.specs.Lines.{Line, LinesOf, none, last, line, inner, lines}
use Rattle.rules.specs.Lists.{All}
use Rattle.rules.specs.Title.{LineEnd, lf, crlf}
use Rattle.rules.specs.Trailer.{after_space, by_spaces, unfolded}
use Rattle.rules.specs.White.{white_space, forms, Form, White, more, Trimmed, trim, trim_at}
use Rattle.rules.proofs.Lines.{lines_of, lines_only}
use Rattle.rules.proofs.Lists.{all_append}
use Rattle.rules.proofs.Spaces.{lf_form, space_form}
use Rattle.rules.proofs.Unfolded.{one_piece}
use Rattle.rules.proofs.White.{all_white, trimmed, trimmed_unique, white_append, white_form}

-- ---- a line: bytes inside a line, then a line end

pub one_line : (t : List ℕ) {e : List ℕ} (s : List ℕ) → LineEnd e → All inner t → lines ((t ++ e) ++ s) ≡ (t ++ e) ∷ lines s
one_line t s lf a = ap lines (append_assoc t (LF ∷ []) s) ∙ lines_only (line t a (lines_of s))
one_line t s crlf a =
    let cr : All inner (t ++ CR ∷ []) = all_append inner t (CR ∷ []) a (tt, tt) in
    let q : (t ++ CR ∷ []) ++ LF ∷ [] ≡ t ++ CR ∷ LF ∷ [] = append_assoc t (CR ∷ []) (LF ∷ []) in
    rw q at (ap lines (append_assoc (t ++ CR ∷ []) (LF ∷ []) s) ∙ lines_only (line (t ++ CR ∷ []) cr (lines_of s)))

-- ---- forms at the end

cr_form : Form (CR ∷ [])
unfolding forms white_space
cr_form = tt

end_white : {e : List ℕ} → LineEnd e → White e
end_white lf = white_form (LF ∷ []) lf_form
end_white crlf = more (CR ∷ []) cr_form (white_form (LF ∷ []) lf_form)

trim_form : (s f : List ℕ) → Form f → trim (s ++ f) ≡ trim s
trim_form s f m =
    let r : Trimmed s (trim s) (trim_at s) = trimmed s in
    let longer : Trimmed (s ++ f) (trim s) (trim_at s) = record {
      front = r.front;
      back = r.back ++ f;
      read = ap (λ (x : List ℕ). x ++ f) r.read ∙ simp append_assoc;
      white_front = r.white_front;
      white_back = white_append r.white_back (white_form f m);
      begins_with_none = r.begins_with_none;
      ends_with_none = r.ends_with_none;
      place = r.place;
      nothing_at_the_front = r.nothing_at_the_front;
    } in
    (trimmed_unique (trimmed (s ++ f)) longer).0

-- ---- an LF more

same_behind : (l : List ℕ) (ls ks : List (List ℕ)) → by_spaces ls ≡ by_spaces ks → by_spaces (l ∷ ls) ≡ by_spaces (l ∷ ks)
same_behind [] ls ks e = e
same_behind (c ∷ l) ls ks e = ap (λ (x : List ℕ). (c ∷ l) ++ after_space x) e

lf_more : {s : List ℕ} {ls : List Line} → LinesOf s ls → by_spaces (map trim (lines (s ++ LF ∷ []))) ≡ by_spaces (map trim ls)
lf_more none = one_piece (trim (LF ∷ [])) ∙ (all_white (white_form (LF ∷ []) lf_form)).0
lf_more (last {c} {t} a) =
    ap (λ (x : List Line). by_spaces (map trim x)) (lines_only (line (c ∷ t) a none))
    ∙ ap (λ (x : List ℕ). by_spaces (x ∷ [])) (trim_form (c ∷ t) (LF ∷ []) lf_form)
lf_more (line {s} {ls} t a r) =
    ap (λ (x : List Line). by_spaces (map trim x)) (ap lines (append_assoc t (LF ∷ s) (LF ∷ [])) ∙ lines_only (line t a (lines_of (s ++ LF ∷ []))))
    ∙ same_behind (trim (t ++ LF ∷ [])) (map trim (lines (s ++ LF ∷ []))) (map trim ls) (lf_more r)

pub unfolded_lf : (raw : List ℕ) → unfolded (raw ++ LF ∷ []) ≡ unfolded raw
unfolding unfolded
unfolded_lf raw = lf_more (lines_of raw)

-- ---- the new value

trim_new : (value e : List ℕ) → LineEnd e → trim value ≡ value → trim (space ∷ value ++ e) ≡ value
trim_new [] e w q = (all_white (more (space ∷ []) space_form (end_white w))).0
trim_new (c ∷ v) e w q =
    let r : Trimmed (c ∷ v) (c ∷ v) (trim_at (c ∷ v)) = rw q at (trimmed (c ∷ v)) in
    let there : Trimmed (space ∷ (c ∷ v) ++ e) (c ∷ v) 1 = record {
      front = space ∷ [];
      back = e;
      read = refl;
      white_front = white_form (space ∷ []) space_form;
      white_back = end_white w;
      begins_with_none = r.begins_with_none;
      ends_with_none = r.ends_with_none;
      place = refl;
      nothing_at_the_front = λ h. absurd (nil≢cons (sym h));
    } in
    (trimmed_unique (trimmed (space ∷ (c ∷ v) ++ e)) there).0

pub unfolded_new : (value e : List ℕ) → LineEnd e → All inner value → trim value ≡ value → unfolded (space ∷ value ++ e) ≡ value
unfolding unfolded
unfolded_new value e w a q =
    let alone : lines (space ∷ value ++ e) ≡ (space ∷ value ++ e) ∷ [] =
    ap lines (sym (append-nil (space ∷ value ++ e))) ∙ one_line (space ∷ value) [] w (tt, a) in
    ap (λ (x : List Line). by_spaces (map trim x)) alone ∙ one_piece (trim (space ∷ value ++ e)) ∙ trim_new value e w q
