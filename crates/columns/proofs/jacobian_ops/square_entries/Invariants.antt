use Rattle.std.proofs.Common.{◌≡◌, ◌+◌}
use Rattle.ground.specs.Fold.{folded}
use Rattle.ground.specs.Gather.{gather}
use Rattle.columns.specs.JacobianOps.{square_term}
use Rattle.columns.specs.Sums.{zero₋, add_term, sum_from}
use Rattle.columns.proofs.jacobian_ops.square_entries.Given as goal

abbrev pub invariant-loop-x : goal.invariant-loop-x
invariant-loop-x l =
    folded add_term l.acc (gather (square_term l.values) (l.lo + l.x-index) l.hi) ≡ sum_from zero₋ (gather (square_term l.values) l.lo l.hi)
