-- The answer of `message_summary` with some room, as a rule about the message.
use Rattle.std.specs.Prelude.{List, ℕ}
use Rattle.rules.specs.Answers.{Said}
use Rattle.message.specs.Message.{summary_answer}

abbrev pub summary_with : ℕ → List ℕ → Said
summary_with room message = summary_answer message room
