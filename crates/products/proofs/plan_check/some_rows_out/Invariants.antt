-- `plan_check::some_rows_out` meets its contract. Assumes nothing.
use Rattle.std.proofs.Common.{◌≡◌, ◌+◌, ◌-◌, ◌≤◌}
use Rattle.ground.specs.First.{some}
use Rattle.products.specs.PlanCheck.{rows_out_at}
use Rattle.products.proofs.plan_check.some_rows_out.Given as goal

abbrev pub invariant-loop-k : goal.invariant-loop-k
invariant-loop-k l =
    let bad = rows_out_at l.window.columns.rows.now l.window.from (l.window.from + l.window.size) l.lo l.hi in
    (l.first ≤ l.at) × (some bad l.at l.last ≡ some bad l.first l.last)

abbrev pub decreases-loop-k : goal.decreases-loop-k
decreases-loop-k l = l.last - l.at
