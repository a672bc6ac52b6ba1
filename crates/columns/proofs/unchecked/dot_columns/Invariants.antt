use Rattle.std.proofs.Common.{◌+◌, ◌-◌}
use Rattle.columns.specs.Lent.{seen}
use Rattle.columns.proofs.MergeLaws.{Merging}
use Rattle.columns.proofs.unchecked.dot_columns.Given as goal

abbrev pub invariant-loop-at : goal.invariant-loop-at
invariant-loop-at l = Merging (seen l.columns) l.a l.b l.at

abbrev pub decreases-loop-at : goal.decreases-loop-at
decreases-loop-at l = (l.end_a - l.at.ia) + (l.end_b - l.at.ib)
