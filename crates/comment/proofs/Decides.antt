-- The contracts decide: two ends of which one of them holds are the same. Each is told by a reading that is stopped behind the piece.
-- Assumes nothing.
use Rattle.std.specs.Prelude.{cond, if◌then◌else◌, Ok, Err, IfOk}
use mathlib.Core.Bool.{Bool, true, false, not}
use mathlib.Core.List.{List, [], ◌∷◌}
use mathlib.Core.Path.{◌≡◌, refl, sym, ap, ◌∙◌}
use Prim.Native.Nat.{ℕ, suc}
use native.Mathlib.Omega.{arith}
use lib.Dec.{T, eqb}
use lib.ListN.{drop, get_or}
use Rattle.rules.specs.Lists.{Stops, first}
use Rattle.rules.proofs.Lists.{is_true}
use Rattle.mailbox.specs.Grammar.{white_byte, quote_text, comment_text, Answer, accepted, refused}
use Rattle.mailbox.specs.Reader.{State, home, names, none as none_named, atom, quote, quote_taken, text, dotted, inside, inside_taken, dead}
use Rattle.mailbox.specs.declared.MailboxError.{MailboxError}
use Rattle.comment.specs.Ends.{End, refusal, Watch, stopped, answered, until, onward, text_byte, Text, TextEnd, CommentEnd, in_comment, gap_byte, Passes, GapStep, GapEnd}

-- ---- a reading that is stopped

pub stops_here : (w : Watch) (at : ℕ) (st : State) (t : List ℕ) → w.over st t ≡ true → until w at st t ≡ stopped at st t
stops_here w at st [] o = rw o
stops_here w at st (c ∷ t) o = rw o

pub same_stop : (p q : ℕ) (x y : State) (t u : List ℕ) → stopped p x t ≡ stopped q y u → p ≡ q
same_stop p q x y t u e = cc

pub no_stop : (p : ℕ) (x : State) (t : List ℕ) (a : Answer) → stopped p x t ≡ answered a → ⊥
no_stop p x t a e = let z : ◌≡◌ {A = ℕ} 0 1 = cc in omega arith

-- a refusal is known by its answer
abbrev by_answer : Answer → MailboxError
by_answer (accepted r) = MailboxError.TooLong
by_answer (refused n at) = if eqb n 14 then MailboxError.NotAMailbox at else if eqb n 15 then MailboxError.NinthComment at else MailboxError.TooLong

back : (e : MailboxError) → by_answer (refusal e) ≡ e
back MailboxError.TooLong = refl
back (MailboxError.NotAMailbox at) = refl
back (MailboxError.NinthComment at) = refl

answers : (a b : Answer) → answered a ≡ answered b → a ≡ b
answers a b e = cc

pub same_refusal : (e f : MailboxError) → answered (refusal e) ≡ answered (refusal f) → e ≡ f
same_refusal e f r = sym (back e) ∙ ap by_answer (answers (refusal e) (refusal f) r) ∙ back f

-- two ends behind which a reading goes the same way, where it is stopped at once
pub ends_same : (w : Watch) (s : List ℕ) (x y : State) (e f : End) → IfOk e (λ k. w.over x (drop k s) ≡ true)
    → IfOk f (λ k. w.over y (drop k s) ≡ true) → onward w s x e ≡ onward w s y f → e ≡ f
ends_same w s x y (Ok k) (Ok l) o p q =
    ap Ok (same_stop k l x y (drop k s) (drop l s) (sym (stops_here w k x (drop k s) o) ∙ q ∙ stops_here w l y (drop l s) p))
ends_same w s x y (Ok k) (Err f) o p q = absurd (no_stop k x (drop k s) (refusal f) (sym (stops_here w k x (drop k s) o) ∙ q))
ends_same w s x y (Err e) (Ok l) o p q = absurd (no_stop l y (drop l s) (refusal e) (sym (stops_here w l y (drop l s) p) ∙ sym q))
ends_same w s x y (Err e) (Err f) o p q = ap Err (same_refusal e f q)

-- the same where it is stopped wherever it goes on
pub ends_same_always : (w : Watch) (s : List ℕ) (x y : State) (e f : End) → ((t : List ℕ) → w.over x t ≡ true) → ((t : List ℕ) → w.over y t ≡ true)
    → onward w s x e ≡ onward w s y f → e ≡ f
ends_same_always w s x y e f o p = ends_same w s x y e f (if_ok e (λ k. o (drop k s))) (if_ok f (λ k. p (drop k s)))
  where
    if_ok : (e : End) {P : ℕ → Type 0} → ((k : ℕ) → P k) → IfOk e P
    if_ok (Ok k) h = h k
    if_ok (Err e) h = tt

-- stopped before a byte of no class
pub not_first : (p : ℕ → Bool) (t : List ℕ) → Stops p t → not (first p t) ≡ true
not_first p [] n = refl
not_first p (c ∷ t) n = is_true (not (p c)) n

pub is_first : (p : ℕ → Bool) (c : ℕ) → T (p c) → not (p c) ≡ false
is_first p c t = rw (is_true (p c) t)

-- ---- the readings

-- stopped in a text, before a byte that is none
text_over : State → List ℕ → Bool
text_over (quote from) t = not (first (text_byte quote_text) t)
text_over (inside h d k) t = not (first (text_byte comment_text) t)
text_over (home h) t = false
text_over (atom from) t = false
text_over (quote_taken from) t = false
text_over (text half from) t = false
text_over (dotted half from) t = false
text_over (inside_taken h d k) t = false
text_over (dead n k) t = false

-- stopped where white space and comments may stand; or there before a byte that is neither
home_over : (List ℕ → Bool) → State → List ℕ → Bool
home_over p (home h) t = p t
home_over p (atom from) t = false
home_over p (quote from) t = false
home_over p (quote_taken from) t = false
home_over p (text half from) t = false
home_over p (dotted half from) t = false
home_over p (inside h d k) t = false
home_over p (inside_taken h d k) t = false
home_over p (dead n k) t = false

text_watch : Watch
unfolding text_over
text_watch = record { over = text_over; alive = λ n k t. refl }

pub home_watch : (List ℕ → Bool) → Watch
unfolding home_over
home_watch p = record { over = home_over p; alive = λ n k t. refl }

-- stopped before a byte that ends the piece
pub stops_at : (p : ℕ → Bool) (s : List ℕ) (e : End) → IfOk e (λ k. Stops p (drop k s)) → IfOk e (λ k. not (first p (drop k s)) ≡ true)
stops_at p s (Ok k) n = not_first p (drop k s) n
stops_at p s (Err e) n = tt

-- ---- the contracts

quotes_end_decides : (s : List ℕ) (at : ℕ) (e f : End) → TextEnd quote_text s at e → TextEnd quote_text s at f → e ≡ f
unfolding text_watch text_over
quotes_end_decides s at e f x y =
    ends_same text_watch s (quote 0) (quote 0) e f (stops_at (text_byte quote_text) s e x.stops) (stops_at (text_byte quote_text) s f y.stops)
    (sym (x.reads text_watch (quote 0) (quote_taken 0) Text.quotes ((λ c t i. is_first (text_byte quote_text) c i), λ t. refl))
    ∙ y.reads text_watch (quote 0) (quote_taken 0) Text.quotes ((λ c t i. is_first (text_byte quote_text) c i), λ t. refl))

comments_end_decides : (s : List ℕ) (at : ℕ) (e f : End) → TextEnd comment_text s at e → TextEnd comment_text s at f → e ≡ f
unfolding text_watch text_over
comments_end_decides s at e f x y =
    let h = names none_named in
    ends_same text_watch s (inside h 0 0) (inside h 0 0) e f (stops_at (text_byte comment_text) s e x.stops) (stops_at (text_byte comment_text) s f y.stops)
    (sym (x.reads text_watch (inside h 0 0) (inside_taken h 0 0) Text.comment ((λ c t i. is_first (text_byte comment_text) c i), λ t. refl))
    ∙ y.reads text_watch (inside h 0 0) (inside_taken h 0 0) Text.comment ((λ c t i. is_first (text_byte comment_text) c i), λ t. refl))

-- the text that is read, in quotes or in a comment
abbrev pub text_in : Bool → ℕ → Bool
text_in quoted = if quoted then quote_text else comment_text

pub text_end_decides : (quoted : Bool) (s : List ℕ) (at : ℕ) (e f : End) → TextEnd (text_in quoted) s at e → TextEnd (text_in quoted) s at f → e ≡ f
text_end_decides true = quotes_end_decides
text_end_decides false = comments_end_decides

pub comment_end_decides : (s : List ℕ) (at allowed : ℕ) (e f : End) → CommentEnd s at allowed e → CommentEnd s at allowed f → e ≡ f
unfolding home_watch home_over
comment_end_decides s at allowed e f x y =
    let h = names none_named in
    let w = home_watch (λ t. true) in
    ends_same_always w s (home h) (home h) e f (λ t. refl) (λ t. refl) (sym (x.reads w h 0 (λ d k t. (refl, refl))) ∙ y.reads w h 0 (λ d k t. (refl, refl)))

pub gap_step_decides : (s : List ℕ) (at : ℕ) (e f : End) → GapStep s at e → GapStep s at f → e ≡ f
gap_step_decides s at e f x y = go (eqb (get_or s at 0) 40) x y
  where
    go : (b : Bool) → cond b (CommentEnd s (suc at) in_comment e) (e ≡ Ok (if white_byte (get_or s at 0) then suc at else at))
        → cond b (CommentEnd s (suc at) in_comment f) (f ≡ Ok (if white_byte (get_or s at 0) then suc at else at)) → e ≡ f
    go true i j = comment_end_decides s (suc at) in_comment e f i j
    go false i j = i ∙ sym j

pub gap_end_decides : (s : List ℕ) (at : ℕ) (e f : End) → GapEnd s at e → GapEnd s at f → e ≡ f
unfolding home_watch home_over
gap_end_decides s at e f x y =
    let h = names none_named in
    let w = home_watch (λ t. not (first gap_byte t)) in
    let p : Passes w h = ((λ d k t. (refl, refl)), λ c t i. is_first gap_byte c i) in
    ends_same w s (home h) (home h) e f (stops_at gap_byte s e x.stops) (stops_at gap_byte s f y.stops) (sym (x.reads w h p) ∙ y.reads w h p)
