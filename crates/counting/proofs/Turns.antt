-- Counting, one trailer and one message at a time. Assumes nothing.
use Rattle.std.specs.Prelude.{Some, if◌then◌else◌}
use mathlib.Core.Bool.{Bool, true, false, ◌||◌}
use mathlib.Core.List.{List, [], ◌∷◌}
use mathlib.Core.Path.{◌≡◌, refl, sym, ap, ◌∙◌}
use Prim.Native.Nat.{ℕ, zero, suc, ◌+◌, ◌-◌, ◌≤◌, ◌<◌}
use native.Mathlib.Nat.{add_comm, add-zero, sub-zero, zero-add}
use native.Mathlib.Numerals.{add-one}
use native.Mathlib.Omega.{arith}
use lib.Dec.{eqb}
use lib.ListN.{length, take, drop, get_or, set, length-drop}
use Rattle.rules.proofs.Record.{token_is}
use Rattle.rules.proofs.Walk.{Stands, walk_stands, walk_step}
use Rattle.rules.specs.Bytes.{LF}
use Rattle.rules.specs.Lines.{Line, before, folds, lines}
use Rattle.rules.specs.Lists.{filled, run}
use Rattle.rules.specs.Paragraph.{block_start, message_trailers}
use Rattle.rules.specs.Title.{body, body_start}
use Rattle.rules.specs.Trailer.{Trailer, end_of, token_of, trailer, trailer_line, walk, walk_from}
use Rattle.trailer.proofs.Steps.{First, first_is}
use Rattle.rules.specs.declared.Places.{Places}
use Rattle.trailer.specs.Walk.{next_of}
use Rattle.counting.proofs.Figures.{figure_le, seven_sum}
use Rattle.bundle.proofs.Judged.{next_offset}
use Rattle.bundle.specs.Bundle.{count_of, messages_in, offset, offsets, parts}
use Rattle.counting.specs.Report.{counts_of, figure_of, number_of, plus, seven_of, sum, without, without_of}

-- ---- lists of counts

pub plus_assoc : (c d e : List ℕ) → plus c (plus d e) ≡ plus (plus c d) e
plus_assoc [] d e = refl
plus_assoc (x ∷ c) [] e = refl
plus_assoc (x ∷ c) (y ∷ d) [] = refl
plus_assoc (x ∷ c) (y ∷ d) (z ∷ e) =
    let h : x + (y + z) ≡ (x + y) + z = omega arith in
    rw (h, plus_assoc c d e)

pub sum-plus : (c d : List ℕ) → length c ≡ length d → sum (plus c d) ≡ sum c + sum d
sum-plus [] [] e = omega arith
sum-plus [] (y ∷ d) e = absurd (omega arith)
sum-plus (x ∷ c) [] e = absurd (omega arith)
sum-plus (x ∷ c) (y ∷ d) e = omega (arith, sum-plus c d (omega arith))

pub sum_more : (c : List ℕ) (p : ℕ) → sum (set c p (get_or c p 0 + 1)) ≤ sum c + 1
sum_more [] p = omega arith
sum_more (x ∷ c) zero = omega arith
sum_more (x ∷ c) (suc p) = omega (arith, sum_more c p)

-- one more on either side of a sum
plus_more : (c d : List ℕ) (p : ℕ) → plus (set c p (get_or c p 0 + 1)) d ≡ plus c (set d p (get_or d p 0 + 1))
plus_more [] d p = refl
plus_more (x ∷ c) [] zero = refl
plus_more (x ∷ c) [] (suc p) = refl
plus_more (x ∷ c) (y ∷ d) zero =
    let h : (x + 1) + y ≡ x + (y + 1) = omega arith in
    rw h
plus_more (x ∷ c) (y ∷ d) (suc p) = rw (plus_more c d p)

-- ---- one trailer more

seven_at : (k : ℕ) → k ≤ 6 → (n0 n1 n2 n3 n4 n5 n6 : ℕ) → ((if eqb k 0 then 1 else 0) + n0) ∷ ((if eqb k 1 then 1 else 0) + n1) ∷ ((if eqb k 2 then 1 else 0) + n2) ∷ ((if eqb k 3 then 1 else 0) + n3) ∷ ((if eqb k 4 then 1 else 0) + n4) ∷ ((if eqb k 5 then 1 else 0) + n5) ∷ ((if eqb k 6 then 1 else 0) + n6) ∷ [] ≡ set (n0 ∷ n1 ∷ n2 ∷ n3 ∷ n4 ∷ n5 ∷ n6 ∷ []) k (get_or (n0 ∷ n1 ∷ n2 ∷ n3 ∷ n4 ∷ n5 ∷ n6 ∷ []) k 0 + 1)
seven_at zero h n0 n1 n2 n3 n4 n5 n6 = simp (zero-add, add_comm 1 n0)
seven_at (suc zero) h n0 n1 n2 n3 n4 n5 n6 = simp (zero-add, add_comm 1 n1)
seven_at (suc (suc zero)) h n0 n1 n2 n3 n4 n5 n6 = simp (zero-add, add_comm 1 n2)
seven_at (suc (suc (suc zero))) h n0 n1 n2 n3 n4 n5 n6 = simp (zero-add, add_comm 1 n3)
seven_at (suc (suc (suc (suc zero)))) h n0 n1 n2 n3 n4 n5 n6 = simp (zero-add, add_comm 1 n4)
seven_at (suc (suc (suc (suc (suc zero))))) h n0 n1 n2 n3 n4 n5 n6 = simp (zero-add, add_comm 1 n5)
seven_at (suc (suc (suc (suc (suc (suc zero)))))) h n0 n1 n2 n3 n4 n5 n6 = simp (zero-add, add_comm 1 n6)
seven_at (suc (suc (suc (suc (suc (suc (suc k))))))) h n0 n1 n2 n3 n4 n5 n6 = absurd (omega arith)

pub seven_more : (c : List ℕ) (t : Trailer) (ts : List Trailer) → let p = figure_of (token_of t) in plus (set c p (get_or c p 0 + 1)) (seven_of ts) ≡ plus c (seven_of (t ∷ ts))
seven_more c t ts =
    let p = figure_of (token_of t) in
    plus_more c (seven_of ts) p ∙ ap (plus c) (sym (seven_at p (figure_le (token_of t)) (number_of 0 ts) (number_of 1 ts) (number_of 2 ts) (number_of 3 ts) (number_of 4 ts) (number_of 5 ts) (number_of 6 ts)))

-- ---- a step of the walk

-- a step from `at` on has found a trailer: the walk is it and the walk from its end on
pub record Found (m : List ℕ) (at : ℕ) (p : Places) : Type 0 where
  pub found : Trailer
  pub token : take (p.token_end - p.start) (drop p.start m) ≡ token_of found
  pub list : walk_from m at ≡ found ∷ walk_from m p.end

module _ (m : List ℕ) (at : ℕ) {p : Places} (q : next_of (walk_from m at) ≡ Some p) where
  first : First (walk_from m at) p
  first = first_is (walk_from m at) q

  there : Stands m first.found
  there = walk_stands m at first.found first.later first.walked

  pub step_found : Found m at p
  step_found =
      let t = first.found in
      let end : p.end ≡ end_of t = ap (λ (x : Places). x.end) first.places in
      record {
        found = t;
        token = token_is there first.places;
        list = cc (first.walked, end, walk_step m at t first.later first.walked);
      }

pub count_turn : (m so : List ℕ) {from k : ℕ} {p : Places} (f : Found m from p) → k ≡ figure_of (take (p.token_end - p.start) (drop p.start m)) → plus (set so k (get_or so k 0 + 1)) (seven_of (walk_from m p.end)) ≡ plus so (seven_of (walk_from m from))
count_turn m so {from} {k} {p} f q =
    let r : k ≡ figure_of (token_of f.found) = q ∙ ap figure_of f.token in
    rw (r, f.list) (seven_more so f.found (walk_from m p.end))

-- what the walk of one message has counted, at `from`
pub record Walked (m c₀ c : List ℕ) (at from : ℕ) (found : Bool) : Type 0 where
  pub inside : from ≤ length m
  pub counts : plus c (seven_of (walk_from m from)) ≡ plus c₀ (seven_of (walk_from m at))
  pub some : (found || filled (walk_from m from)) ≡ filled (walk_from m at)
  pub few : sum c ≤ sum c₀ + from

pub or_some : (b c : Bool) → (b || true) ≡ c → true ≡ c
or_some true c e = e
or_some false c e = e

-- ---- one message more

pub without_none : (m : List ℕ) (w : ℕ) → filled (message_trailers m) ≡ false → w + 1 ≡ w + without m
without_none m w e = rw e

pub without_some : (m : List ℕ) (w : ℕ) → filled (message_trailers m) ≡ true → w ≡ w + without m
without_some m w e = rw e (sym (add-zero w))

-- no more trailers than bytes
walk_few : (at : ℕ) (ls : List Line) → length (walk at ls) ≤ length ls
walk_few at [] = omega arith
walk_few at (l ∷ ls) =
    let few : length (walk (at + length l) ls) ≤ length ls = walk_few (at + length l) ls in
    elim (trailer_line l) as (λ b. length (if b then trailer at l (run folds ls) ∷ walk (at + length l) ls else walk (at + length l) ls) ≤ suc (length ls)) [ true ↦ omega arith | false ↦ omega arith ]

before_few : (b : Bool) (c : ℕ) (ls : List Line) (n : ℕ) → length ls ≤ n → length (before b c ls) ≤ suc n
before_few true c ls n h = omega arith
before_few false c [] n h = omega arith
before_few false c (l ∷ ls) n h = omega arith

lines_few : (s : List ℕ) → length (lines s) ≤ length s
lines_few [] = omega arith
lines_few (c ∷ s) = before_few (eqb c LF) c (lines s) (length s) (lines_few s)

pub trailers_few : (m : List ℕ) → length (message_trailers m) ≤ length m
unfolding message_trailers
trailers_few m =
    let at = body_start m + block_start (body m) in
    omega (arith, walk_few at (lines (drop at m)), lines_few (drop at m), length-drop at m)

-- ---- the messages of a bundle, one after another

-- those from number k on, of n
abbrev pub messages_from : List ℕ → ℕ → ℕ → List (List ℕ)
messages_from b n k = parts b (offset b k) (offsets b (suc k) (n - k))

-- the same through the messages of a bundle, at message k of n
pub record Reported (b c : List ℕ) (n k without : ℕ) : Type 0 where
  pub counts : plus c (counts_of (messages_from b n k)) ≡ counts_of (messages_in b)
  pub none : without + without_of (messages_from b n k) ≡ without_of (messages_in b)
  pub few_counted : sum c ≤ offset b k
  pub few_none : without ≤ k

pub from_first : (b : List ℕ) (n : ℕ) → n ≡ count_of b → messages_from b n 0 ≡ messages_in b
unfolding messages_in
from_first b n e = rw (sub-zero n, e)

pub from_next : (b : List ℕ) (n k s e : ℕ) → k < n → s ≡ offset b k → e ≡ offset b (suc k) → messages_from b n k ≡ take (e - s) (drop s b) ∷ messages_from b n (k + 1)
from_next b n k s e h p q = rw (next_offset b n k h, add-one k, p, q)

pub counts_turn : (c m : List ℕ) (ms : List (List ℕ)) → plus (plus c (seven_of (message_trailers m))) (counts_of ms) ≡ plus c (counts_of (m ∷ ms))
counts_turn c m ms = sym (plus_assoc c (seven_of (message_trailers m)) (counts_of ms))

pub counts_zero : (ms : List (List ℕ)) → plus (0 ∷ 0 ∷ 0 ∷ 0 ∷ 0 ∷ 0 ∷ 0 ∷ []) (counts_of ms) ≡ counts_of ms
counts_zero ms = simp zero-add

pub sum_message : (c m : List ℕ) → length c ≡ 7 → sum (plus c (seven_of (message_trailers m))) ≤ sum c + length m
sum_message c m e = omega (arith, sum-plus c (seven_of (message_trailers m)) e, seven_sum (message_trailers m), trailers_few m)

pub without_le : (m : List ℕ) → without m ≤ 1
without_le m = elim (filled (message_trailers m)) as (λ b. ◌≤◌ (if b then 0 else 1) 1) [ true ↦ omega arith | false ↦ omega arith ]
