-- `side_sums::sweep_side` meets its contract. Assumes nothing.
use Rattle.std.proofs.Common.{◌≡◌, length}
use Rattle.ground.specs.Gather.{gather}
use Rattle.columns.specs.Lent.{over}
use Rattle.columns.specs.Sums.{swept_on}
use Rattle.blocks.specs.Sides.{offset_of, side_dof}
use Rattle.blocks.specs.BlockList.{blocks_of}
use Rattle.blocks.proofs.BlockListLaws.{gone, Left}
use Rattle.products.specs.SideSums.{side_terms}
use Rattle.products.specs.SideFits.{local_terms}
use Rattle.products.proofs.side_sums.sweep_side.Given as goal

abbrev pub invariant-loop-block : goal.invariant-loop-block
invariant-loop-block l =
    let m = over (length l.initial.y) l.columns in
    let left = blocks_of l.block-iterator.rest.now in
    Left l.side left
    × (l.at ≡ offset_of l.side (gone l.side left))
    × (length l.y ≡ length l.initial.y)
    × (swept_on l.sign l.y (gather (local_terms m l.side l.v) l.at (side_dof l.side)) ≡ swept_on l.sign l.initial.y (side_terms m l.side l.v))
