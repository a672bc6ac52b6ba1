use Rattle.std.proofs.Common.{◌≡◌, ◌-◌, length}
use Rattle.ground.specs.Fold.{folded}
use Rattle.ground.specs.Gather.{gather}
use Rattle.columns.specs.JacobianOps.{entry_term}
use Rattle.columns.specs.Sums.{add_term, sum_from}
use Rattle.columns.proofs.PairWalkLaws.{Both}
use Rattle.columns.proofs.unchecked.gather_entries.Given as goal

abbrev pub invariant-loop-row : goal.invariant-loop-row
invariant-loop-row l =
    let f = entry_term l.rows l.values l.y in
    Both l.rows l.values l.lo l.hi l.row-iterator.a.rest.now l.row-iterator.b.rest.now
    × (folded add_term l.acc (gather f (l.hi - length l.row-iterator.a.rest.now) l.hi) ≡ sum_from l.start (gather f l.lo l.hi))
