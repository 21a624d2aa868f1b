-- A line that is given the LF that it lacks reads as before: blank, indented, its kind, its token, and its value unfolded.
-- Assumes nothing.
use Rattle.std.specs.Prelude.{if◌then◌else◌}
use mathlib.Core.Bool.{Bool, true, false, not}
use mathlib.Core.List.{List, [], ◌∷◌, ◌++◌, append-nil}
use mathlib.Core.Path.{◌≡◌, refl, sym, ap}
use Prim.Native.Nat.{ℕ}
use lib.Dec.{T, eqb}
use lib.ListN.{drop}
use Rattle.rules.specs.Bytes.{LF, colon, token_byte, gap_byte}
use Rattle.rules.specs.Lines.{Line, inner, ends_with, without, text, blank, indented, folds}
use Rattle.rules.specs.Lists.{All, all, filled, first, past, run, starts}
use Rattle.rules.specs.Paragraph.{signed_off, cherry_picked, recognised, leads}
use Rattle.rules.specs.Trailer.{named, coloned, trailer_line, token_in, value_in, unfolded}
use Rattle.rules.proofs.Endings.{stays}
use Rattle.rules.proofs.Lists.{and_left, and_right, is_false}
use Rattle.appending.proofs.Values.{unfolded_lf}

-- k is l, with `more` behind it that does not count
pub record Alike (l k : Line) : Type 0 where
  pub more : List ℕ
  pub is : k ≡ l ++ more
  pub same_blank : blank k ≡ blank l
  pub same_folds : folds k ≡ folds l
  pub same_trailer : trailer_line k ≡ trailer_line l
  pub same_recognised : recognised k ≡ recognised l
  pub same_token : token_in k ≡ token_in l
  pub longer : T (trailer_line l) → value_in k ≡ value_in l ++ more
  pub unfolds : (raw : List ℕ) → unfolded (raw ++ more) ≡ unfolded raw

pub alike_self : (l : Line) → Alike l l
alike_self l = record {
  more = [];
  is = sym (append-nil l);
  same_blank = refl;
  same_folds = refl;
  same_trailer = refl;
  same_recognised = refl;
  same_token = refl;
  longer = λ t. sym (append-nil (value_in l));
  unfolds = λ raw. ap unfolded (append-nil raw);
}

-- ---- tests that LF does not pass, on a line with LF behind it

first_lf : (p : ℕ → Bool) (s : List ℕ) → p LF ≡ false → first p (s ++ LF ∷ []) ≡ first p s
first_lf p [] e = e
first_lf p (c ∷ s) e = refl

run_lf : (p : ℕ → Bool) (s : List ℕ) → p LF ≡ false → run p (s ++ LF ∷ []) ≡ run p s
run_lf p [] e = rw e
run_lf p (c ∷ s) e = rw (run_lf p s e)

past_lf : (p : ℕ → Bool) (s : List ℕ) → p LF ≡ false → past p (s ++ LF ∷ []) ≡ past p s ++ LF ∷ []
past_lf p [] e = rw e
past_lf p (c ∷ s) e = by (p c) (past_lf p s e)
  where
    by : (b : Bool) → past p (s ++ LF ∷ []) ≡ past p s ++ LF ∷ []
        → (if b then past p (s ++ LF ∷ []) else c ∷ s ++ LF ∷ []) ≡ (if b then past p s else c ∷ s) ++ LF ∷ []
    by true h = h
    by false h = refl

starts_lf : (q s : List ℕ) → T (all inner q) → starts q (s ++ LF ∷ []) ≡ starts q s
starts_lf [] s a = refl
starts_lf (x ∷ q) [] a = rw (is_false (eqb x LF) (and_left (inner x) (all inner q) a))
starts_lf (x ∷ q) (c ∷ s) a = rw (starts_lf q s (and_right (inner x) (all inner q) a))

-- ---- its text

without_lf : (s : List ℕ) → without LF (s ++ LF ∷ []) ≡ s
without_lf [] = refl
without_lf (c ∷ []) = refl
without_lf (c ∷ d ∷ s) = ap (λ (x : List ℕ). c ∷ x) (without_lf (d ∷ s))

pub inner_lacks : (s : List ℕ) → All inner s → T (not (ends_with LF s))
inner_lacks [] a = tt
inner_lacks (c ∷ []) a = a.0
inner_lacks (c ∷ d ∷ s) a = inner_lacks (d ∷ s) a.1

text_lf : (l : Line) → All inner l → text (l ++ LF ∷ []) ≡ text l
unfolding text
text_lf l a = rw (without_lf l, stays LF l (inner_lacks l a))

-- ---- what is asked of it

blank_lf : (l : Line) → All inner l → blank (l ++ LF ∷ []) ≡ blank l
unfolding blank
blank_lf l a = rw (text_lf l a)

indented_lf : (l : Line) → T (filled l) → indented (l ++ LF ∷ []) ≡ indented l
unfolding indented
indented_lf [] f = absurd f
indented_lf (c ∷ l) f = refl

folds_lf : (l : Line) → T (filled l) → All inner l → folds (l ++ LF ∷ []) ≡ folds l
unfolding folds
folds_lf l f a = rw (indented_lf l f, blank_lf l a)

no_token_lf : token_byte LF ≡ false
unfolding token_byte
no_token_lf = refl

no_gap_lf : gap_byte LF ≡ false
unfolding gap_byte
no_gap_lf = refl

behind_lf : (l : Line) → past gap_byte (past token_byte (l ++ LF ∷ [])) ≡ past gap_byte (past token_byte l) ++ LF ∷ []
behind_lf l = rw (past_lf token_byte l no_token_lf, past_lf gap_byte (past token_byte l) no_gap_lf)

trailer_lf : (l : Line) → trailer_line (l ++ LF ∷ []) ≡ trailer_line l
unfolding trailer_line named coloned
trailer_lf l = rw (first_lf token_byte l no_token_lf, behind_lf l, first_lf (eqb colon) (past gap_byte (past token_byte l)) refl)

recognised_lf : (l : Line) → recognised (l ++ LF ∷ []) ≡ recognised l
unfolding recognised
recognised_lf l = rw (starts_lf signed_off l tt, starts_lf cherry_picked l tt)

token_lf : (l : Line) → token_in (l ++ LF ∷ []) ≡ token_in l
unfolding token_in
token_lf l = run_lf token_byte l no_token_lf

drop_lf : (s : List ℕ) → T (first (eqb colon) s) → drop 1 (s ++ LF ∷ []) ≡ drop 1 s ++ LF ∷ []
drop_lf [] f = absurd f
drop_lf (c ∷ s) f = refl

value_lf : (l : Line) → T (trailer_line l) → value_in (l ++ LF ∷ []) ≡ value_in l ++ LF ∷ []
unfolding value_in trailer_line coloned
value_lf l t = rw (behind_lf l) (drop_lf (past gap_byte (past token_byte l)) (and_right (named l) (coloned l) t))

pub alike_lf : (l : Line) → T (filled l) → All inner l → Alike l (l ++ LF ∷ [])
alike_lf l f a = record {
  more = LF ∷ [];
  is = refl;
  same_blank = blank_lf l a;
  same_folds = folds_lf l f a;
  same_trailer = trailer_lf l;
  same_recognised = recognised_lf l;
  same_token = token_lf l;
  longer = value_lf l;
  unfolds = unfolded_lf;
}

pub same_leads : {l k : Line} → Alike l k → leads k ≡ leads l
unfolding leads
same_leads r = rw (r.same_recognised, r.same_trailer)
