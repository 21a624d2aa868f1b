-- `trailer::line::token_end` meets its contract. The invariant: the token's length is what is passed and the run from `i` on.
-- Assumes nothing.
use mathlib.Core.List.{List}
use mathlib.Core.Path.{◌≡◌, ◌∙◌}
use Prim.Native.Nat.{ℕ, ◌+◌, ◌-◌, ◌≤◌, ◌<◌}
use native.Mathlib.Omega.{arith}
use borrow.Author.Rules.{rules}
use lib.ListN.{length, take, drop, length-drop}
use lib.Seq.{drop-drop}
use Rattle.rules.proofs.Lists.{run_within}
use Rattle.rules.proofs.Parts.{rest}
use Rattle.rules.specs.Bytes.{token_byte}
use Rattle.rules.specs.Lists.{run}
use Rattle.rules.specs.Trailer.{token_in}
use Rattle.word.proofs.Passing.{later, of_part}
use Rattle.trailer.proofs.Runs.{run_prefix}
use Rattle.trailer.proofs.line.token_end.Goals as goal
use Rattle.trailer.proofs.line.token_end.Goals.{After-short_token_len}

-- the word at `i`, by what is passed of it
in_word : (s : List ℕ) (i n : ℕ) → i + 8 ≤ length s → length (run token_byte s) ≡ i + length (run token_byte (drop i s))
    → n ≡ length (run token_byte (take (i + 8 - i) (drop i s)))
    → (n < 8 → i + n ≡ length (run token_byte s)) × (8 ≤ n → length (run token_byte s) ≡ i + 8 + length (run token_byte (drop (i + 8) s)))
in_word s i n h inv e =
    let size : i + 8 - i ≡ 8 = omega arith in
    let there : n ≡ length (run token_byte (take 8 (drop i s))) = rw size at e in
    let both = of_part token_byte 8 (drop i s) (simp length-drop (omega arith)) in
    let behind = drop-drop 8 i s in (
      λ l. omega (arith, there, inv, both.0 (omega (arith, there))),
      λ l. rw (← behind) (omega (arith, inv, later token_byte 8 (drop i s) (both.1 (omega (arith, there))))),
    )

pub returns-then-passed-lt-WORD : goal.returns-then-passed-lt-WORD
unfolding token_in
returns-then-passed-lt-WORD c =
    (in_word c.args.line.now c.loop-i.i c.token_len_of_word-passed.result (omega arith) c.loop-i.invariant.1 c.token_len_of_word-passed.ensures).0 c.if-passed-lt-WORD.true

pub loop-i-preserved : goal.loop-i-preserved
unfolding token_in
loop-i-preserved c = (
  omega arith,
  (in_word c.args.line.now c.loop-i.i c.token_len_of_word-passed.result (omega arith) c.loop-i.invariant.1 c.token_len_of_word-passed.ensures).1 c.if-passed-lt-WORD.false,
)

-- the rest, by what is passed of it
in_rest : (c : After-short_token_len) → c.loop-i.i + c.short_token_len.result ≡ length (run token_byte c.args.line.now)
unfolding token_in
in_rest c =
    let s = c.args.line.now in
    let there : c.short_token_len.result ≡ length (run token_byte (drop c.loop-i.i s)) = rw (rest s c.loop-i.i) at c.short_token_len.ensures ∙ run_prefix token_byte (drop c.loop-i.i s) in
    omega (arith, there, c.loop-i.invariant.1)

pub overflow_add-result-2 : goal.overflow_add-result-2
overflow_add-result-2 c = let k = in_rest c in let f = run_within token_byte c.args.line.now in search rules

pub returns : goal.returns
unfolding token_in
returns c = in_rest c
