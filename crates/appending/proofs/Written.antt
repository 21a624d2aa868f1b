-- What is written: `added` is the new message of a message with a non-blank line, and the only one (new_message,
-- new_message_only). By lines it is the lines up to the last non-blank one, that one with its LF, the empty line unless there is
-- a block, the new line (added-lines). Assumes nothing.
use Rattle.std.specs.Prelude.{Option, if◌then◌else◌}
use mathlib.Core.Bool.{Bool, true, false}
use mathlib.Core.List.{List, [], ◌∷◌, ◌++◌, append_assoc, append-nil, nil≢cons}
use mathlib.Core.Logic.{◌⊎◌, inl, inr}
use mathlib.Core.Path.{◌≡◌, refl, sym, ap, ◌∙◌}
use Prim.Native.Nat.{ℕ}
use native.Mathlib.Omega.{arith}
use lib.Dec.{T, T_not, not_T, eqb, eqb→eq}
use Rattle.rules.specs.Bytes.{LF, CR, colon, space, token_byte}
use Rattle.rules.specs.Lines.{Line, LineStart, LinesOf, none, last, line, inner, ending, ends_with, without, lines, text, blank}
use Rattle.rules.specs.Lists.{All, any, filled, join}
use Rattle.rules.specs.Paragraph.{LastEnding, nowhere, or_none, ending_below, solid}
use Rattle.rules.specs.Title.{LineEnd, lf, crlf}
use Rattle.rules.specs.Trailer.{TrailerLine, trailer_line, token_in, gap_in, value_in, unfolded}
use Rattle.rules.specs.White.{trim}
use Rattle.rules.specs.declared.Ending.{Ending}
use Rattle.rules.proofs.LastEndings.{last_is, last_only}
use Rattle.rules.proofs.Lines.{filled-lines, lines-append, lines_of, lines_prefix}
use Rattle.rules.proofs.Lists.{all_append, all_of, all_right, is_false, is_true, join-append, or_left, or_right}
use Rattle.rules.proofs.Trailer.{is_trailer_line, trailer_line_lem, trailer_line_unique}
use Rattle.appending.specs.Added.{NewMessage, up_to_last, kept, lacking, new_end, has_block, empty_line, new_line, above, added, Asked}
use Rattle.appending.proofs.Alike.{Alike, alike_self, alike_lf, inner_lacks}
use Rattle.appending.proofs.Bodies.{New, added_below}
use Rattle.appending.proofs.Values.{one_line, unfolded_new}

-- ---- up to the last non-blank line

pub none_solid : (bs : List Line) → All blank bs → any solid bs ≡ false
none_solid [] a = refl
none_solid (b ∷ bs) a = rw (is_true (blank b) a.0) (none_solid bs a.1)

pub some_solid : (us : List Line) (l : Line) (bs : List Line) → T (solid l) → T (any solid (us ++ l ∷ bs))
some_solid [] l bs s = or_left (solid l) (any solid bs) s
some_solid (u ∷ us) l bs s = or_right (solid u) (any solid (us ++ l ∷ bs)) (some_solid us l bs s)

pub none_left : (bs : List Line) → All blank bs → up_to_last bs ≡ []
none_left [] a = refl
none_left (b ∷ bs) a = rw (none_solid (b ∷ bs) a)

up_to : (us : List Line) (l : Line) (bs : List Line) → T (solid l) → All blank bs → up_to_last (us ++ l ∷ bs) ≡ us ++ l ∷ []
up_to [] l bs s b = rw (is_true (any solid (l ∷ bs)) (some_solid [] l bs s), none_left bs b)
up_to (u ∷ us) l bs s b = rw (is_true (any solid (u ∷ (us ++ l ∷ bs))) (some_solid (u ∷ us) l bs s), up_to us l bs s b)

module _ (message : List ℕ) (us : List Line) (l : Line) (bs : List Line) (read : lines message ≡ us ++ l ∷ bs) (s : T (solid l)) (b : All blank bs) where
  pub kept_is : kept message ≡ join us ++ l
  unfolding kept
  kept_is =
      ap (λ (ls : List Line). join (up_to_last ls)) read ∙ ap join (up_to us l bs s b) ∙ join-append us (l ∷ [])
      ∙ ap (λ (x : List ℕ). join us ++ x) (append-nil l)

  pub ending_is : ending_below message ≡ ending l
  unfolding ending_below
  ending_is = ap or_none (sym (last_only (LastEnding.last us l bs read s b)))

  written_as : (token value : List ℕ) → added message token value ≡
      (join us ++ l) ++ (lacking (ending l) ++ (empty_line (has_block message) (ending l) ++ new_line token value (new_end (ending l))))
  unfolding added above
  written_as token value = rw (kept_is, ending_is) (simp append_assoc)

-- ---- the new message

module _ (message token value : List ℕ) where
  by_last : {o : Option Ending} → LastEnding (lines message) o → T (any solid (lines message)) → NewMessage message token value (added message token value)
  by_last (LastEnding.last us l bs read s b) t = record {
    front = us;
    last = l;
    blanks = bs;
    read = read;
    not_blank = s;
    all_blank = b;
    written = written_as message us l bs read s b token value;
  }
  by_last (nowhere b) t = absurd (T_not (any solid (lines message)) (rw (none_solid (lines message) b) tt) t)

  pub new_message : T (any solid (lines message)) → NewMessage message token value (added message token value)
  new_message t = by_last (last_is (lines message)) t

  pub new_message_only : {result : List ℕ} → NewMessage message token value result → result ≡ added message token value
  new_message_only n = n.written ∙ sym (written_as message n.front n.last n.blanks n.read n.not_blank n.all_blank token value)

-- ---- a line has LF at its end, or nowhere

abbrev Shaped : Line → Type 0
Shaped l = All inner l ⊎ ((t : List ℕ) × All inner t × (l ≡ t ++ LF ∷ []))

behind_lf : (s : List ℕ) → LineStart s → LineStart (LF ∷ s)
behind_lf [] h = tt
behind_lf (c ∷ s) h = h

start_append : (t : List ℕ) (c : ℕ) (s : List ℕ) → LineStart (c ∷ s) → LineStart (t ++ c ∷ s)
start_append [] c s h = h
start_append (x ∷ []) c s h = h
start_append (x ∷ y ∷ t) c s h = start_append (y ∷ t) c s h

shaped : {s : List ℕ} {ls : List Line} (us : List Line) (l : Line) (bs : List Line) → LinesOf s ls → ls ≡ us ++ l ∷ bs → LineStart (join us) × Shaped l
shaped [] l bs none e = absurd (nil≢cons e)
shaped (u ∷ us) l bs none e = absurd (nil≢cons e)
shaped [] l bs (last {c = c} {t = t} a) e = let h : l ≡ c ∷ t = cc in (tt, inl (rw h a))
shaped (u ∷ []) l bs (last {c = c} {t = t} a) e = let z : ◌≡◌ {A = ℕ} 0 1 = cc in absurd (omega arith)
shaped (u ∷ v ∷ us) l bs (last {c = c} {t = t} a) e = let z : ◌≡◌ {A = ℕ} 0 1 = cc in absurd (omega arith)
shaped [] l bs (line {ls = ls} t a r) e = let h : l ≡ t ++ LF ∷ [] = cc in (tt, inr (t, a, h))
shaped (u ∷ us) l bs (line {ls = ls} t a r) e =
    let h : u ≡ t ++ LF ∷ [] = cc in
    let q : ls ≡ us ++ l ∷ bs = cc in
    let (x, y) = shaped us l bs r q in
    (rw (h, append_assoc) (start_append t LF (join us) (behind_lf (join us) x)), y)

-- ---- the LF that it lacks

lacks_by : (l : Line) → lacking (ending l) ≡ (if ends_with LF l then [] else LF ∷ [])
unfolding ending
lacks_by l = by (ends_with LF l) (ends_with CR (without LF l)) (ends_with CR l)
  where
    by : (a b c : Bool) → lacking (if a then (if b then Ending.CrLf else Ending.Lf) else if c then Ending.Cr else Ending.None)
        ≡ (if a then [] else LF ∷ [])
    by true true c = refl
    by true false c = refl
    by false b true = refl
    by false b false = refl

lf_ends : (t : List ℕ) → ends_with LF (t ++ LF ∷ []) ≡ true
lf_ends [] = refl
lf_ends (c ∷ []) = refl
lf_ends (c ∷ d ∷ t) = lf_ends (d ∷ t)

-- a line with its LF: the bytes inside it, and how it was
pub record Completed (l k : Line) : Type 0 where
  pub inside : List ℕ
  pub no_lf : All inner inside
  pub is : k ≡ inside ++ LF ∷ []
  pub alike : Alike l k

completed : (l : Line) → T (filled l) → Shaped l → Completed l (l ++ lacking (ending l))
completed l f (inl a) =
    rw (lacks_by l, is_false (ends_with LF l) (inner_lacks l a)) (record { inside = l; no_lf = a; is = refl; alike = alike_lf l f a })
completed l f (inr (t, a, e)) =
    let h : ends_with LF l ≡ true = rw e (lf_ends t) in
    rw (lacks_by l, h, append-nil l) (record { inside = t; no_lf = a; is = e; alike = alike_self l })

pub new_end_lem : (e : Ending) → LineEnd (new_end e)
new_end_lem Ending.Lf = lf
new_end_lem Ending.CrLf = crlf
new_end_lem Ending.Cr = lf
new_end_lem Ending.None = lf

pub end-blank : {e : List ℕ} → LineEnd e → T (blank e)
unfolding blank text
end-blank lf = tt
end-blank crlf = tt

-- ---- the new line

token_inner : (c : ℕ) → T (token_byte c) → T (inner c)
unfolding token_byte
token_inner c t = not_T (eqb c LF) (λ e. let h : T (token_byte LF) = rw (eqb→eq c LF e) at t in h)

module _ (token value end : List ℕ) (f : T (filled token)) (a : All token_byte token) (b : All inner value) (q : trim value ≡ value) (w : LineEnd end) where
  new_reads : TrailerLine (new_line token value end) token [] (space ∷ value ++ end)
  new_reads = record { read = refl; not_empty = f; token_bytes = a; gap_bytes = tt }

  pub new_line_lem : New (new_line token value end) token value
  new_line_lem =
      let t : T (trailer_line (new_line token value end)) = is_trailer_line (new_line token value end) token [] (space ∷ value ++ end) new_reads in
      let (x, y, z) = trailer_line_unique (new_line token value end) (token_in (new_line token value end)) (gap_in (new_line token value end)) (value_in (new_line token value end))
      token [] (space ∷ value ++ end) (trailer_line_lem (new_line token value end) t) new_reads in
      record { leading = t; token_is = x; value_is = ap unfolded z ∙ unfolded_new value end w b q }

  pub new_line-lines : lines (new_line token value end) ≡ new_line token value end ∷ []
  new_line-lines =
      let i : All inner (token ++ colon ∷ space ∷ value) = all_append inner token (colon ∷ space ∷ value) (all_of token_byte inner token_inner token a) (tt, (tt, b)) in
      let e : (token ++ colon ∷ space ∷ value) ++ end ≡ new_line token value end = append_assoc token (colon ∷ space ∷ value) end in
      rw e at (ap lines (sym (append-nil ((token ++ colon ∷ space ∷ value) ++ end))) ∙ one_line (token ++ colon ∷ space ∷ value) [] w i)

-- ---- all of it

below_lines : (b : Bool) {end : List ℕ} (new : Line) → LineEnd end → lines new ≡ new ∷ []
    → lines ((if b then [] else end) ++ new) ≡ added_below b end new
below_lines true new w e = e
below_lines false {end} new w e = one_line [] new w tt ∙ ap (λ (x : List Line). end ∷ x) e

module _ (message token value : List ℕ) (r : Asked message token value) where
  abbrev pub cut : NewMessage message token value (added message token value)
  cut = new_message message token value r.non_blank

  abbrev pub how : Ending
  how = ending cut.last

  pub last_ending : ending_below message ≡ how
  last_ending = ending_is message cut.front cut.last cut.blanks cut.read cut.not_blank cut.all_blank

  pub kept_bytes : kept message ≡ join cut.front ++ cut.last
  kept_bytes = kept_is message cut.front cut.last cut.blanks cut.read cut.not_blank cut.all_blank

  line_shaped : LineStart (join cut.front) × Shaped cut.last
  line_shaped = shaped cut.front cut.last cut.blanks (lines_of message) cut.read

  line_filled : T (filled cut.last)
  line_filled = (all_right filled cut.front (cut.last ∷ cut.blanks) (rw cut.read at (filled-lines message))).0

  -- that line with its LF
  abbrev pub given : Line
  given = cut.last ++ lacking how

  pub last_completed : Completed cut.last given
  last_completed = completed cut.last line_filled line_shaped.1

  abbrev pub end : List ℕ
  end = new_end how

  abbrev pub new : Line
  new = new_line token value end

  added_bytes : added message token value ≡ join cut.front ++ (given ++ (empty_line (has_block message) how ++ new))
  added_bytes = cut.written ∙ simp append_assoc

  new_alone : lines new ≡ new ∷ []
  new_alone = new_line-lines token value end r.some r.token_bytes r.no_lf r.own_trim (new_end_lem how)

  pub added-lines : lines (added message token value) ≡ cut.front ++ given ∷ added_below (has_block message) end new
  added-lines =
      let c : Completed cut.last given = last_completed in
      let tail : List ℕ = empty_line (has_block message) how ++ new in
      let first : lines (given ++ tail) ≡ given ∷ lines tail = rw (← c.is) at (one_line c.inside tail lf c.no_lf) in
      ap lines added_bytes
      ∙ lines-append (join cut.front) (given ++ tail) line_shaped.0
      ∙ ap (λ (x : List Line). x ++ lines (given ++ tail)) (lines_prefix message cut.front (cut.last ∷ cut.blanks) cut.read)
      ∙ ap (λ (x : List Line). cut.front ++ x) (first
      ∙ ap (λ (x : List Line). given ∷ x) (below_lines (has_block message) new (new_end_lem how) new_alone))
