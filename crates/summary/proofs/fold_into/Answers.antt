-- `summary::fold_into` meets its contract. The invariant: with what the pieces from `at` on add up to, the buffer is as promised.
-- Assumes nothing.
use mathlib.Core.List.{List}
use mathlib.Core.Path.{◌≡◌, sym, ap, ◌∙◌}
use Prim.Native.Nat.{ℕ, ◌+◌, ◌-◌, ◌≤◌}
use native.Mathlib.Omega.{arith}
use borrow.Author.Rules.{rules}
use lib.ListN.{length, take, drop, length-drop}
use Rattle.rules.specs.Lines.{inner}
use Rattle.rules.specs.Lists.{run}
use Rattle.rules.specs.Summary.{added, pieces}
use Rattle.rules.proofs.Parts.{rest}
use Rattle.copy.specs.Onto.{onto}
use Rattle.copy.proofs.Onto.{pasted}
use Rattle.summary.proofs.Pieces.{found_within, added_last}
use Rattle.summary.proofs.Folding.{room, turn}
use Rattle.summary.proofs.fold_into.Goals as goal

pub fold_to-len-requires : goal.fold_to-len-requires
fold_to-len-requires c =
    let s = c.args.text.now in
    let inv = c.loop-pos.invariant in
    omega (arith, room s c.args.out.now c.loop-pos.out c.loop-pos.len c.loop-pos.at c.loop-pos.pos inv.0 (omega arith) inv.3 (omega arith))

pub loop-pos-preserved : goal.loop-pos-preserved
loop-pos-preserved c =
    let s = c.args.text.now in
    let inv = c.loop-pos.invariant in
    let got = c.fold_to-len.ensures in (
      c.find_lf-pos-in-loop-pos.ensures,
      omega arith,
      search rules,
      rw (got.out_after, got.value)
          (turn s c.args.out.now c.loop-pos.out c.loop-pos.len c.loop-pos.at c.loop-pos.pos inv.0 (omega arith) inv.3 (omega arith)),
    )

-- the last piece: it is as long as what is left of the text, and fits
last_fits : (s : List ℕ) (len at pos : ℕ) → pos ≡ at + length (run inner (drop at s)) → at ≤ length s
    → len + length (added (pieces (drop at s))) ≡ length (added (pieces s)) → length s ≤ pos
    → (length (drop at s) ≡ pos - at) × (len + length (drop at s) ≡ length (added (pieces s)))
last_fits s len at pos e w size h =
    let end = found_within s at pos e w in
    (omega (arith, length-drop at s, end), omega (arith, size, ap length (added_last s at pos e h)))

pub copy_at-requires : goal.copy_at-requires
copy_at-requires c =
    let l = c.loop-pos in let s = c.args.text.now in
    let last = last_fits s l.len l.at l.pos l.invariant.0 l.invariant.1 l.invariant.3.size (omega arith) in
    omega (arith, ap length (rest s l.at))

pub overflow_add-result : goal.overflow_add-result
overflow_add-result c =
    let l = c.loop-pos in
    let last = last_fits c.args.text.now l.len l.at l.pos l.invariant.0 l.invariant.1 l.invariant.3.size (omega arith) in
    omega arith

pub returns-clause-value : goal.returns-clause-value
returns-clause-value c =
    let l = c.loop-pos in
    let last = last_fits c.args.text.now l.len l.at l.pos l.invariant.0 l.invariant.1 l.invariant.3.size (omega arith) in
    omega arith

pub returns-clause-out_after : goal.returns-clause-out_after
returns-clause-out_after c =
    let l = c.loop-pos in
    let s = c.args.text.now in
    let at = l.at in
    let left : added (pieces (drop at s)) ≡ drop at s = added_last s at l.pos l.invariant.0 (omega arith) in
    c.copy_at.ensures ∙ pasted l.out (take (length s - at) (drop at s)) l.len ∙ ap (λ (v : List ℕ). onto l.len v l.out) (rest s at ∙ sym left) ∙ l.invariant.3.promised
