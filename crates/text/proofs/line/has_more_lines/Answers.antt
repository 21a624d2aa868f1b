-- `text::line::has_more_lines` meets its contract. Assumes nothing.
use Rattle.std.specs.List.{IsLastAndRest}
use Rattle.std.specs.Prelude.{MatchOption, None, Some}
use Rattle.std.specs.declared.option.Option.{Option}
use denote.Ref.{Bor}
use mathlib.Core.Bool.{Bool, false}
use mathlib.Core.List.{List}
use mathlib.Core.Path.{◌≡◌, sym, ap, ◌∙◌}
use Prim.Native.Nat.{ℕ, ◌-◌}
use native.Mathlib.Omega.{arith}
use borrow.Author.Rules.{rules}
use lib.Dec.{ltb}
use lib.ListN.{length}
use Rattle.rules.specs.Lines.{lines}
use Rattle.rules.specs.Lists.{any}
use Rattle.find.specs.Find.{is_lf}
use Rattle.find.proofs.Runs.{cut}
use Rattle.text.proofs.ByLines.{more_lines, no_lines}
use Rattle.text.proofs.line.has_more_lines.Goals as goal

by_last : (s : List ℕ) (r : Option (Bor ℕ × Bor (List ℕ))) (b : Bool) → MatchOption r (length s ≡ 0) (λ p. IsLastAndRest s p.0.now p.1.now)
    → MatchOption r (b ≡ false) (λ p. b ≡ any is_lf p.1.now) → b ≡ ltb 1 (length (lines s))
by_last s None b e f = f ∙ sym (no_lines s e)
by_last s (Some p) b e f =
    let size : length p.1.now ≡ length s - 1 = omega (arith, e.1) in
    f ∙ ap (any is_lf) (sym (cut e.0 size).1) ∙ sym (more_lines s (λ z. absurd (omega (arith, e.1, z))))

pub returns : goal.returns
returns c = by_last c.args.s.now c.split_last.result c.is_some_and.result c.split_last.ensures.cases (search rules)
