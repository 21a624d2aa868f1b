-- `find::behind_lf_near` meets its contract. The invariant: a search back from `i` finds what one from `end` finds. Assumes nothing.
use mathlib.Core.Path.{◌≡◌}
use Rattle.find.specs.Find.{behind_lf}
use Rattle.find.proofs.behind_lf_near.Given as goal

abbrev pub invariant-loop-i : goal.invariant-loop-i
invariant-loop-i l = behind_lf l.s l.i ≡ behind_lf l.s l.end
