-- The contracts decide: two ends of which one of them holds are the same. Assumes nothing.
use Rattle.std.specs.Prelude.{Result, Ok, Err}
use mathlib.Core.Bool.{true}
use mathlib.Core.List.{List}
use mathlib.Core.Path.{◌≡◌, refl, sym, ap, ◌∙◌}
use Prim.Native.Nat.{ℕ}
use native.Mathlib.Omega.{arith}
use borrow.Author.Tests.{le-ltb}
use lib.Dec.{ltb}
use lib.ListN.{drop}
use Rattle.mailbox.specs.Reader.{Half, State, local, domain, home, opened, sign_of, next}
use Rattle.mailbox.specs.declared.MailboxError.{MailboxError}
use Rattle.comment.specs.Ends.{place, refusal, Watch, stopped, until}
use Rattle.comment.proofs.Decides.{stops_here, same_stop, same_refusal, no_stop, gap_end_decides}
use Rattle.pieces.specs.Ends.{DotEnd}
use Rattle.pieces.proofs.Decides.{dot_end_decides}
use Rattle.signer.specs.Ends.{half_stage, home_stage, stage, Quiet, toward, NamesEnd, HalfEnd}
use Rattle.signer.specs.declared.Passed.{Passed}
use Rattle.signer.proofs.Laws.{passed}

-- stopped behind a stage
watch : ℕ → Watch
watch n = record { over = λ st t. ltb n (stage st); alive = λ m k t. le-ltb n 0 (omega arith) }

quiet : (n : ℕ) → Quiet (watch n) n
unfolding watch
quiet n st t e = le-ltb n (stage st) (omega arith)

same_passed : (p q : Passed) → (p.at ≡ q.at) × (p.part.start ≡ q.part.start) × (p.part.end ≡ q.part.end) → p ≡ q
same_passed p q (k, i, j) =
    ap (λ (n : ℕ). passed n p.part.start p.part.end) k ∙ ap (λ (n : ℕ). passed q.at n p.part.end) i ∙ ap (λ (n : ℕ). passed q.at q.part.start n) j

-- what a piece's end says of what was passed, where it is said of both ends
Both : (Passed → Passed → Type 0) → Result Passed MailboxError → Result Passed MailboxError → Type 0
Both P (Ok p) (Ok q) = P p q
Both P (Ok p) (Err f) = Unit {0}
Both P (Err e) f = Unit {0}

-- two ends behind which a reading goes the same way, where it is stopped at once, and which tells what was passed
passed_same : (w : Watch) (s : List ℕ) (st : Passed → State) (e f : Result Passed MailboxError) → ((g : Passed) (t : List ℕ) → w.over (st g) t ≡ true)
    → Both (λ p q. stopped p.at (st p) (drop p.at s) ≡ stopped q.at (st q) (drop q.at s)
    → (p.at ≡ q.at) × (p.part.start ≡ q.part.start) × (p.part.end ≡ q.part.end)) e f
    → toward w s st e ≡ toward w s st f → e ≡ f
unfolding Both
passed_same w s st e f o tells r = go e f tells r
  where
    there : (g : Passed) → until w g.at (st g) (drop g.at s) ≡ stopped g.at (st g) (drop g.at s)
    there g = stops_here w g.at (st g) (drop g.at s) (o g (drop g.at s))

    go : (e f : Result Passed MailboxError) → Both (λ p q. stopped p.at (st p) (drop p.at s) ≡ stopped q.at (st q) (drop q.at s)
        → (p.at ≡ q.at) × (p.part.start ≡ q.part.start) × (p.part.end ≡ q.part.end)) e f → toward w s st e ≡ toward w s st f → e ≡ f
    go (Ok p) (Ok q) t r = ap Ok (same_passed p q (t (sym (there p) ∙ r ∙ there q)))
    go (Ok p) (Err f) t r = absurd (no_stop p.at (st p) (drop p.at s) (refusal f) (sym (there p) ∙ r))
    go (Err e) (Ok q) t r = absurd (no_stop q.at (st q) (drop q.at s) (refusal e) (sym (there q) ∙ sym r))
    go (Err e) (Err f) t r = ap Err (same_refusal e f r)

names_told : (n m p q k l : ℕ) (t u : List ℕ) → stopped k (home (opened (local n m))) t ≡ stopped l (home (opened (local p q))) u → (k ≡ l) × (n ≡ p) × (m ≡ q)
names_told n m p q k l t u e = (cc, cc, cc)

pub names_end_decides : (s : List ℕ) (e f : Result Passed MailboxError) → NamesEnd s e → NamesEnd s f → e ≡ f
unfolding watch Both
names_end_decides s e f x y =
    passed_same (watch 0) s (λ p. home (opened (local p.part.start p.part.end))) e f (λ g t. refl) (both e f)
    (sym (x.reads (watch 0) (quiet 0)) ∙ y.reads (watch 0) (quiet 0))
  where
    both : (e f : Result Passed MailboxError) → Both (λ p q. stopped p.at (home (opened (local p.part.start p.part.end))) (drop p.at s)
        ≡ stopped q.at (home (opened (local q.part.start q.part.end))) (drop q.at s)
        → (p.at ≡ q.at) × (p.part.start ≡ q.part.start) × (p.part.end ≡ q.part.end)) e f
    both (Ok p) (Ok q) = names_told p.part.start p.part.end q.part.start q.part.end p.at q.at (drop p.at s) (drop q.at s)
    both (Ok p) (Err f) = tt
    both (Err e) (Ok q) = tt
    both (Err e) (Err f) = tt

beyond : (half : Half) (from to : ℕ) → ltb (half_stage half) (home_stage (next half from to)) ≡ true
beyond (local n m) from to = refl
beyond (domain n m k) from to = refl

pub half_end_decides : (half : Half) (s : List ℕ) (at : ℕ) (e f : Result Passed MailboxError) → HalfEnd s at (sign_of half) e → HalfEnd s at (sign_of half) f → e ≡ f
unfolding watch Both
half_end_decides half s at e f x y =
    let w = watch (half_stage half) in
    passed_same w s (λ p. home (next half p.part.start p.part.end)) e f (λ g t. beyond half g.part.start g.part.end) (both e f x y)
    (sym (x.reads w half refl (quiet (half_stage half))) ∙ y.reads w half refl (quiet (half_stage half)))
  where
    both : (e f : Result Passed MailboxError) → HalfEnd s at (sign_of half) e → HalfEnd s at (sign_of half) f
        → Both (λ p q. stopped p.at (home (next half p.part.start p.part.end)) (drop p.at s) ≡ stopped q.at (home (next half q.part.start q.part.end)) (drop q.at s)
        → (p.at ≡ q.at) × (p.part.start ≡ q.part.start) × (p.part.end ≡ q.part.end)) e f
    both (Ok p) (Ok q) x y =
        λ r.
        let from : p.part.start ≡ q.part.start = ap place (gap_end_decides s at (Ok p.part.start) (Ok q.part.start) x.gap y.gap) in
        let dots : DotEnd s q.part.start (Ok p.part.end) = rw from at x.dots in (
          same_stop p.at q.at (home (next half p.part.start p.part.end)) (home (next half q.part.start q.part.end)) (drop p.at s) (drop q.at s) r,
          from,
          ap place (dot_end_decides s q.part.start (Ok p.part.end) (Ok q.part.end) dots y.dots),
        )
    both (Ok p) (Err f) x y = tt
    both (Err e) (Ok q) x y = tt
    both (Err e) (Err f) x y = tt
