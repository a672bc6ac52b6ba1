-- `side_sums::side_dof` meets its contract. Assumes nothing.
use Rattle.std.proofs.Common.{◌≡◌}
use Rattle.blocks.specs.Sides.{offset_of}
use Rattle.blocks.specs.BlockList.{blocks_of}
use Rattle.blocks.proofs.BlockListLaws.{gone, Left}
use Rattle.products.proofs.side_sums.side_dof.Given as goal

abbrev pub invariant-loop-block : goal.invariant-loop-block
invariant-loop-block l =
    let left = blocks_of l.block-iterator.rest.now in
    Left l.side left × (l.sum ≡ offset_of l.side (gone l.side left))
