-- `side_sums::inverse_times` meets its contract. Assumes nothing.
use Rattle.std.proofs.Common.{◌≡◌, length}
use Rattle.ground.specs.Gather.{gather}
use Rattle.ground.specs.Fold.{folded}
use Rattle.blocks.specs.Sides.{block_count, offset_of}
use Rattle.blocks.specs.Access.{squares_before}
use Rattle.blocks.specs.BlockValues.{writing, put}
use Rattle.blocks.specs.BlockList.{blocks_of}
use Rattle.blocks.proofs.BlockListLaws.{gone, Left}
use Rattle.products.specs.SideSums.{inverse_block, inverse_times}
use Rattle.products.proofs.side_sums.inverse_times.Given as goal

abbrev pub invariant-loop-block : goal.invariant-loop-block
invariant-loop-block l =
    let left = blocks_of l.block-iterator.rest.now in
    let b = gone l.elims left in
    Left l.elims left
    × (l.at ≡ offset_of l.elims b)
    × (l.from ≡ squares_before l.elims b)
    × (length l.out ≡ length l.initial.out)
    × (folded put (writing l.at l.out) (gather (inverse_block l.elims l.inverses l.t) b (block_count l.elims)) ≡ folded put (writing 0 l.initial.out) (inverse_times l.elims l.inverses l.t))
