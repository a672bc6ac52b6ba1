-- `plan_check::shapes_bad` meets its contract. Assumes nothing.
use Rattle.std.proofs.Common.{◌≡◌, ◌||◌}
use Rattle.ground.specs.First.{some}
use Rattle.products.specs.PlanCheck.{shape_out_at}
use Rattle.products.proofs.plan_check.shapes_bad.Given as goal

abbrev pub invariant-loop-k : goal.invariant-loop-k
invariant-loop-k l =
    let bad = shape_out_at l.n l.dof l.spans.lo.now l.spans.hi.now l.spans.local.now in
    (l.bad || some bad l.k l.last) ≡ some bad l.first l.last
