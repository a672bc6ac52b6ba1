use Rattle.std.proofs.Common.{◌≡◌, ◌-◌, length, drop, take}
use Rattle.ground.specs.Fold.{folded}
use Rattle.ground.specs.Gather.{gather}
use Rattle.columns.specs.JacobianOps.{landing}
use Rattle.columns.specs.Sums.{landed, swept_on}
use Rattle.columns.proofs.PairWalkLaws.{Both}
use Rattle.columns.proofs.unchecked.land_all.Given as goal

abbrev pub invariant-loop-row : goal.invariant-loop-row
invariant-loop-row l =
    let f = landing l.rows l.values l.x in
    Both l.rows l.values l.lo l.hi l.row-iterator.a.rest.now l.row-iterator.b.rest.now
    × (length l.y ≡ length l.initial.y)
    × (folded (landed l.sign) l.y (gather f (l.hi - length l.row-iterator.a.rest.now) l.hi) ≡ swept_on l.sign l.initial.y (gather f l.lo l.hi))
