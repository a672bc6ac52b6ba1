-- `products::side_sums::inverse_row` meets its contract. Assumes nothing.
use Rattle.std.proofs.Common.{◌≡◌, ◌-◌}
use Rattle.ground.specs.Gather.{gather}
use Rattle.ground.specs.Fold.{folded}
use Rattle.columns.specs.Sums.{zero₊, add_term, sum_from}
use Rattle.products.specs.SideFits.{block_term}
use Rattle.products.proofs.side_sums.inverse_row.Given as goal

abbrev pub invariant-loop-c : goal.invariant-loop-c
invariant-loop-c l =
    folded add_term l.acc (gather (block_term l.inverses l.t l.dof l.from l.at l.row) l.c l.dof) ≡ sum_from zero₊ (gather (block_term l.inverses l.t l.dof l.from l.at l.row) 0 l.dof)

abbrev pub decreases-loop-c : goal.decreases-loop-c
decreases-loop-c l =
    l.dof - l.c
