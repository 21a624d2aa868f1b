-- What `message_title_and_body` answers.
use Rattle.std.specs.Prelude.{List, [], ◌∷◌, ℕ, Option, Some, None, Ok, if◌then◌else◌}
use Rattle.rules.specs.Answers.{Said, judged, too_long, title_says}
use Rattle.rules.specs.Lists.{filled}
use Rattle.rules.specs.Title.{title_end, body_start, body}
use Rattle.rules.specs.declared.TitleAndBody.{TitleAndBody}

abbrev pub title_with : ℕ → Option ℕ → TitleAndBody
title_with title_end body_start = record { title_end = title_end; body_start = body_start }

-- refusal 1; the title's end and the body's start; "if nothing [comes after], there is no body": the title's end alone
abbrev pub title_answer : List ℕ → Said
title_answer message =
    judged (too_long (message ∷ []) ∷ [])
    (title_says (Ok (title_with (title_end message) (if filled (body message) then Some (body_start message) else None))))
