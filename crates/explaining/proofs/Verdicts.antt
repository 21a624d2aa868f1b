-- A verdict says a block exactly where the paragraph is accepted. Assumes nothing.
use Rattle.std.specs.Prelude.{if◌then◌else◌}
use mathlib.Core.Bool.{Bool, true, false, ◌&&◌, ◌||◌}
use mathlib.Core.Path.{◌≡◌, refl}
use Prim.Native.Nat.{ℕ, ◌*◌}
use lib.Dec.{eqb, leb, ltb}
use Rattle.rules.specs.Paragraph.{accepts}
use Rattle.explaining.specs.Verdicts.{is_block, verdict_of}
use Rattle.explaining.specs.declared.Verdict.{Verdict}

pub verdict_agrees : (t n : ℕ) (one : Bool) → is_block (verdict_of t n one) ≡ accepts t n one
verdict_agrees t n one = by (ltb 0 t && eqb n 0) (leb n (3 * t)) one (ltb 0 n)
  where
    by : (all quarter one some : Bool)
        → is_block (if all || (false && quarter) then Verdict.AllTrailers
        else if all || (one && quarter) then Verdict.EnoughTrailers
        else if one then Verdict.TooManyOthers
        else if some then Verdict.NoneRecognised
        else Verdict.NoLine)
        ≡ all || (one && quarter)
    by true quarter one some = refl
    by false true true some = refl
    by false false true some = refl
    by false quarter false true = refl
    by false quarter false false = refl
