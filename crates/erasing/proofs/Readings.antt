-- When `may_erase` says yes, in either reading (yes_exactly_when); and what cannot make it: text above the last paragraph
-- (nothing_above_in), and in the second reading a patch below (nothing_below). Assumes nothing.
use Rattle.std.specs.Prelude.{Ok, if◌then◌else◌}
use mathlib.Core.Bool.{Bool, true, false}
use mathlib.Core.List.{List, []}
use mathlib.Core.Path.{◌≡◌, refl, ap}
use Prim.Native.Nat.{ℕ}
use native.Mathlib.Omega.{arith}
use lib.Dec.{T}
use lib.ListN.{get_or}
use Rattle.rules.specs.Above.{EndsIn, BlankThenNot}
use Rattle.rules.specs.Answers.{Said, says, flag, number, over_limit, values}
use Rattle.rules.specs.Lines.{lines}
use Rattle.rules.specs.Paragraph.{message_trailers}
use Rattle.rules.specs.Title.{body}
use Rattle.rules.proofs.Lists.{is_true}
use Rattle.closing.specs.Answers.{erase_answer, erase_found_says, erase_said}
use Rattle.closing.specs.Closing.{Answer, noted, refused, MayErase, answer, erases, may_erase}
use Rattle.closing.specs.declared.Fault.{Fault}
use Rattle.closing.proofs.Above.{nothing_above_decides}
use Rattle.closing.proofs.Closing.{yes_exactly}
use Rattle.divider.specs.Divider.{Cut}
use Rattle.divider.specs.Readings.{in_reading, read}
use Rattle.divider.specs.declared.Reading.{Reading}
use Rattle.divider.proofs.Readings.{patch_unread}

-- ---- yes

yes_said : (received : ℕ) (a : Answer) → erase_found_says (Ok true) ≡ erase_said received a → T (erases received a)
yes_said received (noted v n b) e = raised (erases received (noted v n b)) (ap (λ (s : Said). get_or (values s) 0 0) e)
  where
    raised : (b : Bool) → 1 ≡ flag b → T b
    raised true e = tt
    raised false e = absurd (omega arith)
yes_said received (refused Fault.Missing f) e = absurd (omega (arith, ap number e))
yes_said received (refused Fault.Repeated f) e = absurd (omega (arith, ap number e))
yes_said received (refused Fault.BadContent f) e = absurd (omega (arith, ap number e))

said_yes : (received : ℕ) (a : Answer) → T (erases received a) → erase_found_says (Ok true) ≡ erase_said received a
said_yes received (noted v n b) t = rw (is_true (erases received (noted v n b)) t)
said_yes received (refused k f) t = absurd t

-- the message is within the limit, and the trailers of the message so read are a closing note that is complete, of the count received
abbrev pub Lets : Reading → List ℕ → ℕ → Type 0
Lets reading m received = (over_limit m ≡ false) × MayErase (message_trailers (read reading m)) received

module _ (reading : Reading) (m : List ℕ) (received : ℕ) where
  yes_by : (b : Bool) → over_limit m ≡ b → erase_found_says (Ok true) ≡ (if b then says 1 [] else erase_answer received (read reading m)) → Lets reading m received
  unfolding may_erase
  yes_by true q e = absurd (omega (arith, ap number e))
  yes_by false q e =
      (q, (yes_exactly (message_trailers (read reading m)) received).0 (yes_said received (answer (message_trailers (read reading m))) e))

  by_yes : Lets reading m received → erase_found_says (Ok true) ≡ in_reading reading (erase_answer received) m
  unfolding may_erase
  by_yes (q, y) =
      rw q (said_yes received (answer (message_trailers (read reading m))) ((yes_exactly (message_trailers (read reading m)) received).1 y))

  -- ""May erase" is yes exactly when the state is complete and Records equals the count the caller received."
  pub yes_exactly_when : (erase_found_says (Ok true) ≡ in_reading reading (erase_answer received) m → Lets reading m received)
      × (Lets reading m received → erase_found_says (Ok true) ≡ in_reading reading (erase_answer received) m)
  yes_exactly_when = (yes_by (over_limit m) refl, by_yes)

-- ---- what cannot make it yes

-- text above the last paragraph, in either reading
pub nothing_above_in : (reading : Reading) (one two foot : List ℕ) (received : ℕ) → over_limit one ≡ false → over_limit two ≡ false
    → EndsIn (body (read reading one)) foot → EndsIn (body (read reading two)) foot → BlankThenNot (lines foot)
    → in_reading reading (erase_answer received) one ≡ in_reading reading (erase_answer received) two
nothing_above_in reading one two foot received p q a b t =
    rw (p, q) (ap (erase_said received) (nothing_above_decides (read reading one) (read reading two) foot a b t))

-- a patch below, in the second
pub nothing_below : (one two kept : List ℕ) (received : ℕ) → Cut one kept → Cut two kept → over_limit one ≡ false → over_limit two ≡ false
    → in_reading Reading.AboveDivider (erase_answer received) one ≡ in_reading Reading.AboveDivider (erase_answer received) two
nothing_below one two kept received a b p q = patch_unread (says 1 []) (erase_answer received) a b p q
