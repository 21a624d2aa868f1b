-- `explaining::print_blocks` is safe and ends: each block has bytes.
use Rattle.std.specs.Prelude.{Some}
use mathlib.Core.List.{List, [], ◌∷◌}
use mathlib.Core.Path.{◌≡◌, refl, sym, ap, ◌∙◌}
use Prim.Native.Nat.{ℕ, ◌+◌, ◌≤◌, ◌<◌}
use native.Mathlib.Omega.{arith}
use lib.ListN.{length}
use Rattle.block.specs.Step.{next_block}
use Rattle.rules.proofs.Blocks.{block_moves}
use Rattle.rules.specs.Division.{Block, block, blocks_from}
use Rattle.explaining.proofs.print_blocks.Goals as goal
use Rattle.rules.specs.Record.{block_places}
use Rattle.rules.specs.declared.BlockPlaces.{BlockPlaces}

-- a step moves on, and stays in the body
moved : (body : List ℕ) (at from : ℕ) (b : BlockPlaces) → from ≤ length body → next_block at (blocks_from body at from) ≡ Some b
    → (at < b.end) × (b.end ≤ length body)
moved body at from b h = by (blocks_from body at from) refl
  where
    by : (bs : List Block) → blocks_from body at from ≡ bs → next_block at bs ≡ Some b → (at < b.end) × (b.end ≤ length body)
    by [] w q = let z : ◌≡◌ {A = ℕ} 0 1 = cc in absurd (omega arith)
    by (block n t ∷ bs) w q =
        let places : block_places (at + length n) (at + length n + length t) ≡ b = cc in
        let end : at + length n + length t ≡ b.end = ap (λ (b : BlockPlaces). b.end) places in
        let r = block_moves body at from n t bs h w in
        (omega (arith, r, end), omega (arith, r, end))

pub loop-block-smaller : goal.loop-block-smaller
loop-block-smaller g c =
    omega (
      arith,
      moved c.args.body.now c.loop-block.at c.loop-block.from c.in-Some.block c.loop-block.invariant.from_in_bounds
          (sym c.next_block_from.ensures ∙ c.in-Some.is),
    )

pub loop-block-preserved : goal.loop-block-preserved
loop-block-preserved g c =
    let turn = moved c.args.body.now c.loop-block.at c.loop-block.from c.in-Some.block c.loop-block.invariant.from_in_bounds
    (sym c.next_block_from.ensures ∙ c.in-Some.is) in
    record { at_in_bounds = turn.1; from_in_bounds = turn.1 }
