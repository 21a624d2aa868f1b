-- What `mailbox` answers, in numbers and values: document 02, K14, "Answer two ranges" and "Refusals, after 1".
use Rattle.std.specs.Prelude.{List, [], ◌∷◌, ℕ, Result}
use Rattle.rules.specs.Answers.{Said, says, said_by, judged, too_long}
use Rattle.mailbox.specs.Grammar.{ranges, Answer, accepted, refused}
use Rattle.mailbox.specs.Reader.{mailbox}
use Rattle.mailbox.specs.declared.Mailbox.{Mailbox}
use Rattle.mailbox.specs.declared.MailboxError.{MailboxError}

-- the name's start and end, the address's start and end; 14 and 15 "with the place"
abbrev pub answer_says : Answer → Said
answer_says (accepted (ranges start end from to)) = says 0 (start ∷ end ∷ from ∷ to ∷ [])
answer_says (refused number place) = says number (place ∷ [])

abbrev pub mailbox_answer : List ℕ → Said
mailbox_answer value = judged (too_long (value ∷ []) ∷ []) (answer_says (mailbox value))

abbrev pub mailbox_values : Mailbox → List ℕ
mailbox_values m = m.name.start ∷ m.name.end ∷ m.address.start ∷ m.address.end ∷ []

abbrev pub mailbox_error_says : MailboxError → Said
mailbox_error_says MailboxError.TooLong = says 1 []
mailbox_error_says (MailboxError.NotAMailbox at) = says 14 (at ∷ [])
mailbox_error_says (MailboxError.NinthComment at) = says 15 (at ∷ [])

abbrev pub mailbox_says : Result Mailbox MailboxError → Said
mailbox_says = said_by mailbox_values mailbox_error_says
