-- The contracts decide: two ends of which one of them holds are the same. Assumes nothing.
use Rattle.std.specs.Prelude.{cond, Ok}
use mathlib.Core.Bool.{Bool, true, false, not}
use mathlib.Core.List.{List}
use mathlib.Core.Path.{◌≡◌, refl, sym, ◌∙◌}
use Prim.Native.Nat.{ℕ}
use lib.Dec.{eqb}
use lib.ListN.{get_or}
use Rattle.rules.specs.Lists.{first}
use Rattle.mailbox.specs.Reader.{State, local, home, names, some, atom, quote, quote_taken, text, dotted, inside, inside_taken, dead}
use Rattle.comment.specs.Ends.{End, place, Watch}
use Rattle.comment.proofs.Decides.{ends_same, ends_same_always, stops_at, is_first}
use Rattle.pieces.specs.Ends.{atom_end, dot_byte, PassesDots, DotEnd, QuoteEnd, WordEnd}

-- stopped in a dot-atom, before a byte that is none of it; and where white space and comments may stand
over : State → List ℕ → Bool
over (home h) t = true
over (text half from) t = not (first dot_byte t)
over (atom from) t = false
over (quote from) t = false
over (quote_taken from) t = false
over (dotted half from) t = false
over (inside h d k) t = false
over (inside_taken h d k) t = false
over (dead n k) t = false

watch : Watch
unfolding over
watch = record { over = over; alive = λ n k t. refl }

pub dot_end_decides : (s : List ℕ) (at : ℕ) (e f : End) → DotEnd s at e → DotEnd s at f → e ≡ f
unfolding watch over
dot_end_decides s at e f x y =
    let half = local 0 0 in
    let p : PassesDots watch half at = ((λ t. refl), λ c t i. is_first dot_byte c i) in
    ends_same watch s (text half at) (text half at) e f (stops_at dot_byte s e x.stops) (stops_at dot_byte s f y.stops)
    (sym (x.reads watch half p) ∙ y.reads watch half p)

pub quote_end_decides : (s : List ℕ) (at : ℕ) (e f : End) → QuoteEnd s at e → QuoteEnd s at f → e ≡ f
unfolding watch over
quote_end_decides s at e f x y =
    ends_same_always watch s (home (names (some 0 (place e)))) (home (names (some 0 (place f)))) e f (λ t. refl) (λ t. refl)
    (sym (x.reads watch 0 (λ t. (refl, refl))) ∙ y.reads watch 0 (λ t. (refl, refl)))

pub word_end_decides : (s : List ℕ) (at : ℕ) (e f : End) → WordEnd s at e → WordEnd s at f → e ≡ f
word_end_decides s at e f x y = go (eqb (get_or s at 0) 34) x y
  where
    go : (b : Bool) → cond b (QuoteEnd s at e) (e ≡ Ok (atom_end s at)) → cond b (QuoteEnd s at f) (f ≡ Ok (atom_end s at)) → e ≡ f
    go true i j = quote_end_decides s at e f i j
    go false i j = i ∙ sym j
