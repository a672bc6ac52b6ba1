-- `side_sums::sweep_block` sweeps the columns of one block, one a turn. The invariant: the rows with the terms of the columns from l on landed in them are the rows with all
-- of the block's landed. Assumes nothing.
use Rattle.std.proofs.Common.{◌≡◌, ◌+◌, ◌-◌, ◌≤◌, length}
use Rattle.ground.specs.Gather.{gather}
use Rattle.ground.specs.Fold.{folded}
use Rattle.columns.specs.Lent.{over}
use Rattle.columns.specs.Sums.{landed}
use Rattle.products.specs.SideFits.{placed_terms}
use Rattle.products.proofs.side_sums.sweep_block.Given as goal

abbrev pub invariant-loop-l : goal.invariant-loop-l
invariant-loop-l l =
    let terms = placed_terms (over (length l.initial.y) l.columns) l.block.first l.at l.v in
    (l.at ≤ l.l) × (length l.y ≡ length l.initial.y) × (folded (landed l.sign) l.y (gather terms l.l (l.at + l.block.dof)) ≡ folded (landed l.sign) l.initial.y (gather terms l.at (l.at + l.block.dof)))

abbrev pub decreases-loop-l : goal.decreases-loop-l
decreases-loop-l l =
    l.l-end - l.l
