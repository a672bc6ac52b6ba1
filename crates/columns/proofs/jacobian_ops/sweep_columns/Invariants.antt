use Rattle.std.proofs.Common.{◌≡◌, length, get_or}
use Rattle.std.specs.Float.{nan}
use Rattle.ground.specs.Fold.{folded}
use Rattle.ground.specs.Gather.{gather}
use Rattle.columns.specs.Lent.{over}
use Rattle.columns.specs.JacobianOps.{sweep_terms, all_terms}
use Rattle.columns.specs.Sums.{landed, swept_on}
use Rattle.columns.specs.declared.unchecked.Sign.TheVariants.{Plus}
use Rattle.columns.proofs.jacobian_ops.sweep_columns.Given as goal

abbrev pub invariant-loop-j : goal.invariant-loop-j
invariant-loop-j l =
    let m = over (length l.initial.y) l.columns in
    (length l.y ≡ length l.initial.y)
    × (folded (landed Plus) l.y (gather (λ i. sweep_terms m (get_or l.v i nan) i) l.j (length l.v)) ≡ swept_on Plus l.initial.y (all_terms m l.v))
