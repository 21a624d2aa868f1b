-- `judge::parent_end` meets its contract. Assumes nothing.
use Rattle.std.specs.Prelude.{Some}
use mathlib.Core.Path.{◌≡◌, sym, ◌∙◌}
use Prim.Native.Nat.{ℕ, ◌+◌}
use Rattle.rules.proofs.Parts.{rest}
use Rattle.judge.proofs.Parents.{parent_line}
use Rattle.judge.proofs.parent_end.Goals as goal

same : (a b : ℕ) → Some a ≡ Some b → a ≡ b
same a b e = cc

pub returns-in-Parents : goal.returns-in-Parents
returns-in-Parents c =
    λ end e.
    let a = c.args in
    let k = c.in-Parents.size in
    let l = parent_line a.content.now a.at k (rw (rest a.content.now a.at) at (sym c.is_parent_front.ensures ∙ c.if-is_parent_front.true)) in
    rw (c.in-Parents.is, sym (same (a.at + k + 8) end e)) l
