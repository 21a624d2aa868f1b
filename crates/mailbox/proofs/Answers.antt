-- A statement `mailbox_says r ≡ ..` allows one answer (mailbox_decides): each answer is told from what is said of it. Assumes nothing.
use Rattle.std.specs.Prelude.{Err, if◌then◌else◌}
use mathlib.Core.List.{List, [], ◌∷◌}
use mathlib.Core.Path.{◌≡◌, refl}
use Prim.Native.Nat.{ℕ}
use lib.Dec.{eqb}
use Rattle.rules.specs.declared.Part.{Part}
use Rattle.rules.proofs.Answers.{Decides, reread, said_decides}
use Rattle.mailbox.specs.Answers.{mailbox_says, mailbox_values, mailbox_error_says}
use Rattle.mailbox.specs.declared.Mailbox.{Mailbox}
use Rattle.mailbox.specs.declared.MailboxError.{MailboxError}

abbrev part : ℕ → ℕ → Part
part start end = record { start = start; end = end }

abbrev found : List ℕ → Mailbox
found (a ∷ b ∷ c ∷ d ∷ rest) = record { name = part a b; address = part c d }
found [] = record { name = part 0 0; address = part 0 0 }
found (a ∷ []) = record { name = part 0 0; address = part 0 0 }
found (a ∷ b ∷ []) = record { name = part 0 0; address = part 0 0 }
found (a ∷ b ∷ c ∷ []) = record { name = part 0 0; address = part 0 0 }

-- by the number less one
abbrev error : ℕ → List ℕ → MailboxError
error n [] = MailboxError.TooLong
error n (at ∷ rest) = if eqb n 13 then MailboxError.NotAMailbox at else MailboxError.NinthComment at

pub mailbox_decides : Decides mailbox_says
mailbox_decides = said_decides mailbox_values mailbox_error_says found error (λ m. refl) by
  where
    by : (e : MailboxError) → reread found error (mailbox_error_says e) ≡ Err e
    by MailboxError.TooLong = refl
    by (MailboxError.NotAMailbox at) = refl
    by (MailboxError.NinthComment at) = refl
