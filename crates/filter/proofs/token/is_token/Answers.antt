-- `filter::token::is_token` meets its contract. Assumes nothing.
use mathlib.Core.Path.{◌≡◌, sym, ◌∙◌}
use Prim.Native.Nat.{◌-◌}
use native.Mathlib.Omega.{arith}
use lib.ListN.{take, drop, length-drop}
use lib.Seq.{length-take-le}
use Rattle.rules.proofs.Parts.{rest}
use Rattle.text.proofs.Equal.{same_long}
use Rattle.word.specs.Word.{Bytes, packed}
use Rattle.filter.proofs.Lowered.{told}
use Rattle.filter.proofs.token.is_token.Goals as goal

pub returns-then-token-len : goal.returns-then-token-len
returns-then-token-len c = λ name e first last. sym (same_long c.args.token.now name (λ d. c.if-token-len.true (d ∙ e)))

pub returns : goal.returns
returns c =
    λ name e first last.
    let args = c.args in
    let token = args.token.now in
    let d = args.len - 8 in
    let front = c.word.ensures in
    let behind : (c.word-2.result ≡ packed (drop d token)) × Bytes (drop d token) = rw (rest token d) at c.word-2.ensures in
    told token name d (omega arith) (omega arith) (omega arith) front.1 first.1 behind.1 last.1
    (c.lowered.ensures (take 8 token) (length-take-le 8 token (omega arith)) front.1 front.0)
    (c.lowered-2.ensures (take 8 name) (length-take-le 8 name (omega arith)) first.1 first.0)
    (c.lowered-3.ensures (drop d token) (simp length-drop (omega arith)) behind.1 behind.0)
    (c.lowered-4.ensures (drop d name) (simp length-drop (omega arith)) last.1 last.0)
