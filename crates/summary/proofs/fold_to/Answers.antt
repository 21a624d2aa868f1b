-- `summary::fold_to` meets its contract. Assumes nothing.
use Rattle.std.specs.Str.{IsTrimAsciiEnd}
use mathlib.Core.List.{List, [], ◌∷◌, ◌++◌}
use mathlib.Core.Path.{◌≡◌, ap, ◌∙◌}
use Prim.Native.Nat.{ℕ, ◌+◌, ◌<◌}
use native.Mathlib.Omega.{arith}
use lib.ListN.{length, length-append, set}
use Rattle.rules.specs.Bytes.{space}
use Rattle.rules.specs.Summary.{drop_blanks, folded}
use Rattle.copy.specs.Onto.{onto}
use Rattle.copy.proofs.Onto.{length-onto, onto-append, onto-cons, onto-nil, pasted}
use Rattle.summary.proofs.Blanks.{trimmed}
use Rattle.summary.proofs.fold_to.Goals as goal

-- what stays of the piece, and the space after it
size : (p kept : List ℕ) → IsTrimAsciiEnd p kept → length kept + 1 ≡ length (folded p)
size p kept e = omega (arith, ap length (trimmed p kept e), length-append (drop_blanks p) (space ∷ []))

-- a byte after what is written
one_more : (d w : List ℕ) (at i b : ℕ) → i ≡ at + length w → i < length d → set (onto at w d) i b ≡ onto at (w ++ b ∷ []) d
one_more d w at i b e h =
    let k : at + length w < length (onto at w d) = omega (arith, length-onto at w d (omega arith)) in
    rw (e, onto-append at w (b ∷ []) d (omega arith), onto-cons (at + length w) b [] (onto at w d) k, onto-nil)

pub copy_at-requires : goal.copy_at-requires
copy_at-requires c = omega (arith, size c.args.piece.now c.trim_ascii_end-kept.result.now c.trim_ascii_end-kept.ensures.value)

pub bounds-out-end : goal.bounds-out-end
bounds-out-end c = omega (arith, size c.args.piece.now c.trim_ascii_end-kept.result.now c.trim_ascii_end-kept.ensures.value)

pub returns-clause-value : goal.returns-clause-value
returns-clause-value c = omega (arith, size c.args.piece.now c.trim_ascii_end-kept.result.now c.trim_ascii_end-kept.ensures.value)

pub returns-clause-out_after : goal.returns-clause-out_after
returns-clause-out_after c =
    let a = c.args in
    let kept = c.trim_ascii_end-kept.result.now in
    let stays = trimmed a.piece.now kept c.trim_ascii_end-kept.ensures.value in
    let room = size a.piece.now kept c.trim_ascii_end-kept.ensures.value in
    let copied = c.copy_at.ensures ∙ pasted a.out.now kept a.at ∙ ap (λ (v : List ℕ). onto a.at v a.out.now) stays in
    rw copied
    (one_more a.out.now (drop_blanks a.piece.now) a.at (a.at + length kept) space (omega (arith, ap length stays)) (omega (arith, room)))
