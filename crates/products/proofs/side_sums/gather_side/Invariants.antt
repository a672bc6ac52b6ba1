-- `side_sums::gather_side` meets its contract. Assumes nothing.
use Rattle.std.proofs.Common.{◌≡◌, length}
use Rattle.columns.specs.Lent.{over}
use Rattle.blocks.specs.Sides.{offset_of, side_dof}
use Rattle.blocks.specs.BlockList.{blocks_of}
use Rattle.blocks.proofs.BlockListLaws.{gone, Left}
use Rattle.products.specs.SideSums.{side_gather}
use Rattle.products.specs.SideFits.{local_sum, written}
use Rattle.products.proofs.side_sums.gather_side.Given as goal

abbrev pub invariant-loop-block : goal.invariant-loop-block
invariant-loop-block l =
    let m = over (length l.y) l.columns in
    let left = blocks_of l.block-iterator.rest.now in
    Left l.side left
    × (l.at ≡ offset_of l.side (gone l.side left))
    × (length l.out ≡ length l.initial.out)
    × (written (local_sum l.start m l.side l.y) l.at (side_dof l.side) l.out ≡ side_gather l.start m l.side l.y)
