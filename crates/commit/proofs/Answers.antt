-- The answers of the calls. A content is accepted exactly where its header is good (commit_good, commit_only). The line that is asked for
-- stands where the answer says (line_shown), past the last is the end (line_end), and the message is what is behind the header
-- (message_shown), so that it goes through every reading unchanged (message_unchanged). Assumes nothing.
use Rattle.std.specs.Prelude.{Option, Some, None, Err}
use mathlib.Core.Bool.{false, not}
use mathlib.Core.List.{List, [], ◌∷◌, ◌++◌, append_assoc, append-nil}
use mathlib.Core.Path.{◌≡◌, refl, sym, ap, subst, ◌∙◌}
use Prim.Native.Nat.{ℕ, zero, suc, ◌+◌, ◌-◌, ◌≤◌}
use native.Mathlib.Omega.{arith}
use borrow.Author.Tests.{le-leb, le-ltb, ltb-false}
use lib.Dec.{T}
use lib.ListN.{length, take, length-append}
use lib.Seq.{take-append_seam, drop-append_seam}
use Rattle.rules.specs.Answers.{Said, says, limit, over_limit, part_of}
use Rattle.rules.specs.Bytes.{LF, space}
use Rattle.rules.specs.Lines.{lines}
use Rattle.rules.proofs.Answers.{Decides, reread, said_decides}
use Rattle.rules.proofs.Lists.{is_false}
use Rattle.rules.specs.declared.Part.{Part}
use Rattle.commit.specs.Answers.{commit_refused, line_values, line_says, message_values, message_says, behind_header, placed, line_of, line_in, message_start, message_in, message_answer, ShowsLine, ShowsMessage}
use Rattle.commit.specs.Grammar.{HeaderLine, named, written, written_all, Good, At, here, there}
use Rattle.commit.specs.Place.{accepted}
use Rattle.commit.specs.Reader.{Reading, reads, stops, read, answer, commit}
use Rattle.commit.specs.declared.CommitError.{CommitError}
use Rattle.commit.specs.declared.HeaderLine.{HeaderLine as LineParts}
use Rattle.commit.specs.declared.Phase.{Phase}
use Rattle.commit.proofs.Completing.{all_written}
use Rattle.commit.proofs.Accepts.{accepts}
use Rattle.commit.proofs.Derives.{derives}

-- ---- accepted exactly for the grammar

pub commit_good : (content : List ℕ) (header : List HeaderLine) (message : List ℕ) → Good content header message → commit content ≡ accepted header message
unfolding commit
commit_good content header message g = ap answer (accepts content header message g)

commit_only_at : (content : List ℕ) (r : Reading) (header : List HeaderLine) (message : List ℕ) → read Phase.Tree 0 (lines content) ≡ r → answer r ≡ accepted header message
    → Good content header message
commit_only_at content (reads u hs m) header message e d =
    let i : reads u hs m ≡ reads u header message = (let p : hs ≡ header = cc in let q : m ≡ message = cc in cc) in
    derives content 0 u header message (e ∙ i)
commit_only_at content (stops k) header message e d = cc

pub commit_only : (content : List ℕ) (header : List HeaderLine) (message : List ℕ) → commit content ≡ accepted header message → Good content header message
unfolding commit
commit_only content header message e = commit_only_at content (read Phase.Tree 0 (lines content)) header message refl e

-- a good content within the limit is not refused
pub not_refused : (content : List ℕ) (header : List HeaderLine) (message : List ℕ) (answer : Said) → Good content header message → T (not (over_limit content))
    → behind_header content answer ≡ answer
not_refused content header message answer g h = rw (is_false (over_limit content) h, commit_good content header message g)

-- ---- a part of a content

part_is : (front p rest : List ℕ) → part_of (front ++ (p ++ rest)) (length front) (length front + length p) ≡ p
part_is front p rest =
    let l : length (front ++ (p ++ rest)) ≡ length front + (length p + length rest) = omega (arith, length-append front (p ++ rest), length-append p rest) in
    let size : length front + length p - length front ≡ length p = omega arith in
    rw (le-leb (length front) (length front + length p) (omega arith), le-leb (length front + length p) (length (front ++ (p ++ rest))) (omega (arith, l)), size)
    (ap (take (length p)) (drop-append_seam front (p ++ rest)) ∙ take-append_seam p rest)

-- ---- the line that is asked for

record Stands (content n t values : List ℕ) : Type 0 where
  front : List ℕ
  rest : List ℕ
  splits : content ≡ front ++ (n ++ space ∷ (t ++ LF ∷ rest))
  places : values ≡ placed (length front) (named n t)

stands : (p q : List ℕ) {hs : List HeaderLine} {k : ℕ} {n t : List ℕ} → At hs k (named n t) → Stands (p ++ (written_all hs ++ q)) n t (line_of hs (length p) k)
stands p q {n = n} {t = t} (here {hs = hs}) =
    record { front = p; rest = written_all hs ++ q; splits = ap (λ (z : List ℕ). p ++ z) (all_written n t hs q); places = refl }
stands p q {n = n} {t = t} (there {g = g} {hs = hs} {k = k} x) =
    let r = stands (p ++ written g) q x in
    let e : p ++ ((written g ++ written_all hs) ++ q) ≡ (p ++ written g) ++ (written_all hs ++ q) =
    ap (λ (z : List ℕ). p ++ z) (append_assoc (written g) (written_all hs) q) ∙ sym (append_assoc p (written g) (written_all hs ++ q)) in
    record {
      front = r.front;
      rest = r.rest;
      splits = e ∙ r.splits;
      places = ap (λ (z : ℕ). line_of hs z k) (sym (length-append p (written g))) ∙ r.places;
    }

shown : (content n t values : List ℕ) → Stands content n t values → ShowsLine content n t values
shown content n t values s =
    let w : List ℕ = t ++ LF ∷ s.rest in
    let f : List ℕ = s.front ++ (n ++ space ∷ []) in
    let l : suc (length s.front + length n) ≡ length f = omega (arith, length-append s.front (n ++ space ∷ []), length-append n (space ∷ [])) in
    let e : content ≡ f ++ w =
    s.splits ∙ ap (λ (z : List ℕ). s.front ++ z) (sym (append_assoc n (space ∷ []) w)) ∙ sym (append_assoc s.front (n ++ space ∷ []) w) in
    record {
      name_start = length s.front;
      name_end = length s.front + length n;
      text_start = suc (length s.front + length n);
      text_end = suc (length s.front + length n) + length t;
      places = s.places;
      name_is = ap (λ (z : List ℕ). part_of z (length s.front) (length s.front + length n)) s.splits ∙ part_is s.front n (space ∷ w);
      text_is = ap (λ (z : List ℕ). part_of z (suc (length s.front + length n)) (suc (length s.front + length n) + length t)) e
          ∙ ap (λ (i : ℕ). part_of (f ++ w) i (i + length t)) l ∙ part_is f t (LF ∷ s.rest);
    }

-- "the name and content as parts"
pub line_shown : (content : List ℕ) (header : List HeaderLine) (message name text : List ℕ) (k : ℕ) → Good content header message → At header k (named name text)
    → ShowsLine content name text (line_in k (commit content))
line_shown content header message name text k g x =
    shown content name text (line_in k (commit content)) (subst (Stands content name text) (sym (ap (line_in k) (commit_good content header message g)))
    (subst (λ (z : List ℕ). Stands z name text (line_of header 0 k)) (sym g.reads) (stands [] (LF ∷ message) x)))

past : (hs : List HeaderLine) (at k : ℕ) → length hs ≤ k → line_of hs at k ≡ []
past [] at k h = refl
past (g ∷ hs) at zero h = absurd (omega arith)
past (g ∷ hs) at (suc k) h = past hs (at + length (written g)) k (omega arith)

-- "or the end past the last"
pub line_end : (content : List ℕ) (header : List HeaderLine) (message : List ℕ) (k : ℕ) → Good content header message → length header ≤ k → line_in k (commit content) ≡ []
line_end content header message k g h = ap (line_in k) (commit_good content header message g) ∙ past header 0 k h

-- ---- the message

pub message_length : (content : List ℕ) (header : List HeaderLine) (message : List ℕ) → Good content header message → length content ≡ message_start header + length message
message_length content header message g = omega (arith, ap length g.reads, length-append (written_all header) (LF ∷ message))

pub message_shown : (content : List ℕ) (header : List HeaderLine) (message : List ℕ) → Good content header message → ShowsMessage content message (message_in (commit content))
message_shown content header message g =
    let f : List ℕ = written_all header ++ LF ∷ [] in
    let l : message_start header ≡ length f = omega (arith, length-append (written_all header) (LF ∷ [])) in
    let e : content ≡ f ++ (message ++ []) =
    g.reads ∙ sym (append_assoc (written_all header) (LF ∷ []) message) ∙ ap (λ (z : List ℕ). f ++ z) (sym (append-nil message)) in
    record {
      start = message_start header;
      end = message_start header + length message;
      places = ap message_in (commit_good content header message g);
      message_is = ap (λ (z : List ℕ). part_of z (message_start header) (message_start header + length message)) e
          ∙ ap (λ (i : ℕ). part_of (f ++ (message ++ [])) i (i + length message)) l ∙ part_is f message [];
    }

-- "the message, which then goes through both readings unchanged": of a good content within the limit, whatever is read of a message is
-- read of the part that is answered, and that part is within the limit too
pub record Unchanged {A : Type 0} (reading : List ℕ → A) (content message : List ℕ) : Type 0 where
  pub start : ℕ
  pub end : ℕ
  pub answered : message_answer content ≡ says 0 (start ∷ end ∷ [])
  pub read_the_same : reading (part_of content start end) ≡ reading message
  pub within_limit : over_limit message ≡ false

pub message_unchanged : {A : Type 0} (reading : List ℕ → A) (content : List ℕ) (header : List HeaderLine) (message : List ℕ) → Good content header message → T (not (over_limit content))
    → Unchanged reading content message
message_unchanged reading content header message g h =
    let s = message_shown content header message g in
    let k : length content ≤ limit = ltb-false limit (length content) (is_false (over_limit content) h) in
    record {
      start = s.start;
      end = s.end;
      answered = not_refused content header message (says 0 (message_in (commit content))) g h ∙ ap (says 0) s.places;
      read_the_same = ap reading s.message_is;
      within_limit = le-ltb limit (length message) (omega (arith, message_length content header message g, k));
    }

-- ---- an answer is told by its number and its values

abbrev part : ℕ → ℕ → Part
part start end = record { start = start; end = end }

abbrev error : ℕ → List ℕ → CommitError
error n [] = CommitError.TooLong
error n (line ∷ rest) = CommitError.BadHeader line

error_back : {A : Type 0} (read : List ℕ → A) (e : CommitError) → reread read error (commit_refused e) ≡ Err e
error_back read CommitError.TooLong = refl
error_back read (CommitError.BadHeader line) = refl

abbrev line_found : List ℕ → Option LineParts
line_found [] = None
line_found (a ∷ []) = None
line_found (a ∷ b ∷ []) = None
line_found (a ∷ b ∷ c ∷ []) = None
line_found (a ∷ b ∷ c ∷ d ∷ rest) = Some (record { name = part a b; content = part c d })

pub line_decides : Decides line_says
line_decides = said_decides line_values commit_refused line_found error by (error_back line_found)
  where
    by : (o : Option LineParts) → line_found (line_values o) ≡ o
    by (Some l) = refl
    by None = refl

abbrev message_found : List ℕ → Part
message_found [] = part 0 0
message_found (a ∷ []) = part 0 0
message_found (a ∷ b ∷ rest) = part a b

pub message_decides : Decides message_says
message_decides = said_decides message_values commit_refused message_found error (λ p. refl) (error_back message_found)
