-- The rows of `add_trailer` that speak of the new message: what each answer rests on, and what it leaves in the buffer. An answer is known by
-- its number and its values, so a statement `says r ≡ ..` decides it (trailer_added_decides). Where the answer is no refusal, what
-- is asked for holds and there was room (not_refused), so the theorems of crates/appending hold (call_reads_back). Assumes nothing.
use Rattle.std.specs.Prelude.{Result, Ok, Err}
use mathlib.Core.Bool.{Bool, true, false}
use mathlib.Core.List.{List, [], ◌∷◌, ◌++◌, map}
use mathlib.Core.Path.{◌≡◌, refl, sym, ap, ◌∙◌}
use Prim.Native.Nat.{ℕ, zero, suc, ◌≤◌, ◌<◌}
use native.Mathlib.Omega.{arith}
use borrow.Author.Tests.{le-ltb, lt-ltb, ltb-false}
use lib.Dec.{ltb}
use lib.ListN.{length, drop, length-append}
use Rattle.rules.proofs.Answers.{Decides, reread, said_decides}
use Rattle.rules.specs.Answers.{Said, says, number, values, afterwards, limit, over_limit}
use Rattle.rules.specs.Lists.{any}
use Rattle.rules.specs.Paragraph.{message_trailers}
use Rattle.appending.specs.Added.{Asked, added, good_token, good_value, has_line, pair_of}
use Rattle.appending.proofs.Asked.{asked}
use Rattle.appending.proofs.ReadBack.{read_back}
use Rattle.adding.specs.Answers.{add_answer, add_buffer, added_says, adding_refused, length_values, new_answer, new_buffer}
use Rattle.adding.specs.declared.AddingError.{AddingError}

module _ (new d : List ℕ) {n : ℕ} (e : n ≡ length new) where
  -- the answer, and the buffer that goes with it
  abbrev pub Answered : Said → List ℕ → Type 0
  Answered said out = (said ≡ new_answer new (length d)) × (out ≡ new_buffer new d)

  answered : (said : Said) → new_answer new (length d) ≡ said → Answered said (afterwards said new d)
  answered said e = (sym e, ap (λ w. afterwards w new d) (sym e))

  pub long_result : limit < n → Answered (says 1 []) d
  long_result l = answered (says 1 []) (rw (← e, lt-ltb limit n l))

  pub no_room : n ≤ limit → length d < n → Answered (says 3 (n ∷ [])) d
  no_room l r = answered (says 3 (n ∷ [])) (rw (← e, le-ltb limit n l, lt-ltb (length d) n r))

  pub room : n ≤ limit → n ≤ length d → Answered (says 0 (n ∷ [])) (afterwards (says 0 []) new d)
  room l r = answered (says 0 (n ∷ [])) (rw (← e, le-ltb limit n l, le-ltb (length d) n r))

-- ---- an answer that is no refusal

abbrev head_or : List ℕ → ℕ
head_or [] = 0
head_or (n ∷ ns) = n

module _ (message token value : List ℕ) (room : ℕ) where
  abbrev new : List ℕ
  new = added message token value

  -- what is asked for holds, the answer is the new message's length, and there is room for it
  abbrev pub Given : Type 0
  Given = Asked message token value × (add_answer message token value room ≡ says 0 (length (added message token value) ∷ [])) × (length (added message token value) ≤ room)

  pub not_refused : number (add_answer message token value room) ≡ 0 → Given
  not_refused e =
      by (any over_limit (message ∷ token ∷ value ∷ [])) refl (good_token token) refl (good_value value) refl (has_line message) refl
      (any over_limit (new ∷ [])) refl (ltb room (length new)) refl e
    where
      by : (a : Bool) → any over_limit (message ∷ token ∷ value ∷ []) ≡ a → (t : Bool) → good_token token ≡ t → (v : Bool) → good_value value ≡ v
          → (m : Bool) → has_line message ≡ m → (o : Bool) → any over_limit (new ∷ []) ≡ o → (r : Bool) → ltb room (length new) ≡ r
          → number (add_answer message token value room) ≡ 0 → Given
      by true a t p v q m s o w r x e = absurd (let z : ◌≡◌ {A = ℕ} 1 0 = rw a at e in omega arith)
      by false a false p v q m s o w r x e = absurd (let z : ◌≡◌ {A = ℕ} 5 0 = rw (a, p) at e in omega arith)
      by false a true p false q m s o w r x e = absurd (let z : ◌≡◌ {A = ℕ} 6 0 = rw (a, p, q) at e in omega arith)
      by false a true p true q false s o w r x e = absurd (let z : ◌≡◌ {A = ℕ} 7 0 = rw (a, p, q, s) at e in omega arith)
      by false a true p true q true s true w r x e = absurd (let z : ◌≡◌ {A = ℕ} 1 0 = rw (a, p, q, s, w) at e in omega arith)
      by false a true p true q true s false w true x e = absurd (let z : ◌≡◌ {A = ℕ} 3 0 = rw (a, p, q, s, w, x) at e in omega arith)
      by false a true p true q true s false w false x e =
          (asked message token value (rw p tt) (rw q tt) (rw s tt), rw (a, p, q, s, w, x), ltb-false room (length new) x)

  -- "Read back, the trailers are the old ones, then the new one."
  pub call_reads_back : number (add_answer message token value room) ≡ 0
      → map pair_of (message_trailers (added message token value)) ≡ map pair_of (message_trailers message) ++ ((token, value) ∷ [])
  call_reads_back e = read_back message token value (not_refused e).0

-- what is written is a part of the buffer
pub written_fits : (message token value d o : List ℕ) (r : Result ℕ AddingError) (n : ℕ) → added_says r ≡ add_answer message token value (length d)
    → o ≡ add_buffer message token value d → r ≡ Ok n → n ≤ length o
written_fits message token value d o r n a f k =
    let e : says 0 (n ∷ []) ≡ add_answer message token value (length d) = ap added_says (sym k) ∙ a in
    let (asked-for, s, fits) = not_refused message token value (length d) (ap number (sym e)) in
    let new : List ℕ = added message token value in
    let whole : o ≡ added message token value ++ drop (length (added message token value)) d = f ∙ ap (λ (w : Said). afterwards w new d) s in
    omega (arith, ap (λ (x : Said). head_or (values x)) (e ∙ s), ap length whole, length-append new (drop (length new) d))

-- ---- the answer is known by what is said of it

abbrev written : List ℕ → ℕ
written [] = 0
written (n ∷ rest) = n

-- an error's number is one more than this
abbrev error : ℕ → List ℕ → AddingError
error k (n ∷ rest) = AddingError.NoRoom n
error zero [] = AddingError.TooLong
error (suc zero) [] = AddingError.TooLong
error (suc (suc zero)) [] = AddingError.TooLong
error (suc (suc (suc zero))) [] = AddingError.TooLong
error (suc (suc (suc (suc zero)))) [] = AddingError.BadToken
error (suc (suc (suc (suc (suc zero))))) [] = AddingError.BadValue
error (suc (suc (suc (suc (suc (suc k)))))) [] = AddingError.NothingToStandOn

pub trailer_added_decides : Decides added_says
trailer_added_decides = said_decides length_values adding_refused written error (λ n. refl) back
  where
    back : (e : AddingError) → reread written error (adding_refused e) ≡ Err e
    back AddingError.TooLong = refl
    back AddingError.BadToken = refl
    back AddingError.BadValue = refl
    back AddingError.NothingToStandOn = refl
    back (AddingError.NoRoom n) = refl
