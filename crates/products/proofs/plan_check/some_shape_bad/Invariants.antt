-- `plan_check::some_shape_bad` meets its contract: no span before the place that it has come to is bad. Assumes nothing.
use Rattle.std.proofs.Common.{◌≡◌, ◌-◌, ◌≤◌, length}
use Rattle.ground.specs.First.{some}
use Rattle.products.specs.PlanCheck.{shape_out_at}
use Rattle.products.proofs.plan_check.some_shape_bad.Given as goal

abbrev pub invariant-loop-at : goal.invariant-loop-at
invariant-loop-at l =
    let bad = shape_out_at l.n l.dof l.spans.lo.now l.spans.hi.now l.spans.local.now in
    let all = length l.spans.lo.now in
    (l.at ≤ all) × (some bad l.at all ≡ some bad 0 all)

abbrev pub decreases-loop-at : goal.decreases-loop-at
decreases-loop-at l = length l.spans.lo.now - l.at
