-- `blocks::block_values::gather_blocks` meets its contract. Assumes nothing.
use Rattle.std.proofs.Common.{◌≡◌, ◌≤◌, length}
use Rattle.ground.specs.Fold.{folded}
use Rattle.ground.specs.Gather.{gather}
use Rattle.columns.specs.Lent.{seen}
use Rattle.blocks.specs.Sides.{block_count}
use Rattle.blocks.specs.BlockList.{blocks_of}
use Rattle.blocks.specs.Access.{squares_before}
use Rattle.blocks.specs.BlockValues.{dot_block, dot_blocks, writing, put}
use Rattle.blocks.proofs.BlockListLaws.{gone, Left}
use Rattle.blocks.proofs.block_values.gather_blocks.Given as goal

abbrev pub invariant-loop-block : goal.invariant-loop-block
invariant-loop-block l =
    let m = seen l.columns in
    let b = gone l.elims (blocks_of l.block-iterator.rest.now) in
    Left l.elims (blocks_of l.block-iterator.rest.now)
    × (l.at ≡ squares_before l.elims b)
    × (length l.out ≡ length l.initial.out)
    × (folded put (writing l.at l.out) (gather (dot_block m l.elims) b (block_count l.elims)) ≡ folded put (writing 0 l.initial.out) (dot_blocks m l.elims))
