-- `plan_check::in_column` meets its contract. Assumes nothing.
use Rattle.products.proofs.PlanRules.{planning}
use Rattle.products.proofs.plan_check.in_column.Goals as goal

pub returns : goal.returns
returns c = search planning
