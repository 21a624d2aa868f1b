-- Where the body has a non-blank line, title and body are where they were (title_kept). Assumes nothing.
use mathlib.Core.List.{List, [], ◌++◌, append_assoc}
use mathlib.Core.Logic.{inl, inr}
use mathlib.Core.Path.{◌≡◌, sym, ap, ◌∙◌}
use Prim.Native.Nat.{ℕ, ◌≤◌}
use native.Mathlib.Omega.{arith}
use lib.Dec.{T}
use lib.ListN.{length, take, drop, drop_of_length-le, length-append, take-append-drop}
use lib.Seq.{drop_at, length-take-le, take_at, take-take}
use Rattle.rules.specs.Lines.{lines}
use Rattle.rules.specs.Lists.{any}
use Rattle.rules.specs.Paragraph.{solid}
use Rattle.rules.specs.Title.{TwoEnds, Titled, body, body_start, title_end}
use Rattle.rules.proofs.Title.{body_fits, title_before_body, titled}
use Rattle.appending.specs.Added.{kept, added, Asked}
use Rattle.appending.proofs.ReadBack.{body_start-kept, bytes_kept}

-- two line ends stand where they did in all that begins with the same bytes
moved : {m r : List ℕ} {e s : ℕ} → e ≤ length m → take s m ≡ take s r → TwoEnds m e s → TwoEnds r e s
moved {m} {r} {e} {s} h q w =
    let front : take e m ++ (w.one ++ (w.two ++ w.rest)) ≡ m = ap (λ (x : List ℕ). take e m ++ x) (sym w.read) ∙ take-append-drop e m in
    let size : length (take e m ++ (w.one ++ w.two)) ≡ s =
    omega (arith, w.behind, length-take-le e m h, length-append (take e m) (w.one ++ w.two), length-append w.one w.two) in
    let taken : take s m ≡ take e m ++ (w.one ++ w.two) =
    ap (take s) (sym front ∙ (simp append_assoc)) ∙ take_at (take e m ++ (w.one ++ w.two)) w.rest s size in
    let whole : r ≡ take e m ++ (w.one ++ (w.two ++ drop s r)) =
    sym (take-append-drop s r) ∙ ap (λ (x : List ℕ). x ++ drop s r) (sym q ∙ taken) ∙ (simp append_assoc) in
    let there : drop e (take e m ++ (w.one ++ (w.two ++ drop s r))) ≡ w.one ++ (w.two ++ drop s r) =
    drop_at (take e m) (w.one ++ (w.two ++ drop s r)) e (length-take-le e m h) in
    record {
      one = w.one;
      two = w.two;
      rest = drop s r;
      line_one = w.line_one;
      line_two = w.line_two;
      read = ap (drop e) whole ∙ there;
      behind = w.behind;
    }

title_fits : (m : List ℕ) → title_end m ≤ length m
title_fits m = omega (arith, title_before_body m, body_fits m)

same_title : (m r : List ℕ) → body_start r ≡ body_start m → take (body_start m) m ≡ take (body_start m) r
    → Titled m (title_end m) (body_start m) → Titled r (title_end r) (body_start r) → T (any solid (lines (body m))) → title_end r ≡ title_end m
same_title m r b q (inl (x, first)) (inl (y, least)) f =
    let there : TwoEnds r (title_end m) (body_start m) = moved (title_fits m) q x in
    let back : TwoEnds m (title_end r) (body_start m) = moved (title_fits r) (sym q) (rw b at y) in
    omega (arith, least (title_end m) (body_start m) there, first (title_end r) (body_start m) back)
same_title m r b q (inl (x, first)) (inr (never, p, s)) f = absurd (never (title_end m) (body_start m) (moved (title_fits m) q x))
same_title m r b q (inr (never, p, s)) t f =
    let none : body m ≡ [] = ap (λ (k : ℕ). drop k m) s ∙ drop_of_length-le m {i = length m} (omega arith) in
    absurd (rw none at f)

module _ (message token value : List ℕ) (r : Asked message token value) where
  pub title_kept : T (any solid (lines (body message)))
      → (title_end (added message token value) ≡ title_end message) × (body_start (added message token value) ≡ body_start message)
  title_kept f =
      let (b, within) = body_start-kept message token value r f in
      let k : ℕ = length (kept message) in
      let s : ℕ = body_start message in
      let front : take s message ≡ take s (added message token value) =
      sym (take-take s k message within) ∙ ap (take s) (sym (bytes_kept message token value r)) ∙ take-take s k (added message token value) within in
      (same_title message (added message token value) b front (titled message) (titled (added message token value)) f, b)
