-- By which rule the last paragraph is a block, or why it is none: document 01, "The last paragraph". That a verdict says a block
-- exactly where the paragraph is accepted is proved (proofs/Verdicts, verdict_agrees).
use Rattle.std.specs.Prelude.{Bool, true, false, ℕ, ltb, if◌then◌else◌}
use Rattle.rules.specs.Paragraph.{accepts}
use Rattle.explaining.specs.declared.Verdict.{Verdict}

-- "the paragraph is a block if t > 0 and n = 0" (the only rule that accepts one in which no line is recognised), "or if one is
-- recognised and 3t ≥ n"
abbrev pub verdict_of : ℕ → ℕ → Bool → Verdict
verdict_of t n one =
    if accepts t n false then Verdict.AllTrailers
    else if accepts t n one then Verdict.EnoughTrailers
    else if one then Verdict.TooManyOthers
    else if ltb 0 n then Verdict.NoneRecognised
    else Verdict.NoLine

abbrev pub is_block : Verdict → Bool
is_block Verdict.AllTrailers = true
is_block Verdict.EnoughTrailers = true
is_block Verdict.TooManyOthers = false
is_block Verdict.NoneRecognised = false
is_block Verdict.NoLine = false
