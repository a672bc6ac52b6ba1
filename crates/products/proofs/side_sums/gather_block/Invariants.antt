-- `side_sums::gather_block` gathers the columns of one block, one a turn. The invariant: the result with the places from l on written is the result with all of the block's written.
-- Assumes nothing.
use Rattle.std.proofs.Common.{◌≡◌, ◌+◌, ◌-◌, ◌≤◌, length}
use Rattle.columns.specs.Lent.{over}
use Rattle.products.specs.SideFits.{placed_sum, written}
use Rattle.products.proofs.side_sums.gather_block.Given as goal

abbrev pub invariant-loop-l : goal.invariant-loop-l
invariant-loop-l l =
    let sum = placed_sum l.start (over (length l.y) l.columns) l.block.first l.at l.y in
    (l.at ≤ l.l) × (length l.out ≡ length l.initial.out) × (written sum l.l (l.at + l.block.dof) l.out ≡ written sum l.at (l.at + l.block.dof) l.initial.out)

abbrev pub decreases-loop-l : goal.decreases-loop-l
decreases-loop-l l =
    l.l-end - l.l
