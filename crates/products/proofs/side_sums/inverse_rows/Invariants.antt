-- `products::side_sums::inverse_rows` meets its contract. Assumes nothing.
use Rattle.std.proofs.Common.{◌≡◌, ◌+◌, ◌-◌, ◌≤◌, length}
use Rattle.ground.specs.Gather.{gather}
use Rattle.ground.specs.Fold.{folded}
use Rattle.blocks.specs.BlockValues.{writing, put}
use Rattle.products.specs.SideFits.{block_row}
use Rattle.products.proofs.side_sums.inverse_rows.Given as goal

abbrev pub invariant-loop-r : goal.invariant-loop-r
invariant-loop-r l =
    (l.r ≤ l.dof) × (length l.out ≡ length l.initial.out) × (folded put (writing (l.at + l.r) l.out) (gather (block_row l.inverses l.t l.dof l.from l.at) l.r l.dof) ≡ folded put (writing l.at l.initial.out) (gather (block_row l.inverses l.t l.dof l.from l.at) 0 l.dof))

abbrev pub decreases-loop-r : goal.decreases-loop-r
decreases-loop-r l =
    l.dof - l.r
