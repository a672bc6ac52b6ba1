-- `blocks::block_values::damp_blocks` meets its contract. Assumes nothing.
use Rattle.std.proofs.Common.{◌≡◌, ◌≤◌, length}
use Rattle.ground.specs.Range.{range}
use Rattle.blocks.specs.Sides.{block_count}
use Rattle.blocks.specs.BlockList.{blocks_of}
use Rattle.blocks.specs.Access.{squares_before}
use Rattle.blocks.specs.BlockValues.{damp_block, damp_blocks}
use Rattle.blocks.proofs.BlockListLaws.{gone, Left}
use Rattle.blocks.proofs.block_values.damp_blocks.Given as goal

abbrev pub invariant-loop-block : goal.invariant-loop-block
invariant-loop-block l =
    let b = gone l.elims (blocks_of l.block-iterator.rest.now) in
    Left l.elims (blocks_of l.block-iterator.rest.now)
    × (l.at ≡ squares_before l.elims b)
    × (length l.out ≡ length l.initial.out)
    × (range (damp_block l.damping l.elims) b (block_count l.elims) l.out ≡ damp_blocks l.damping l.elims l.initial.out)
