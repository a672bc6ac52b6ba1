-- `owners::row_owners` meets its contract. Assumes nothing.
use Rattle.plan.proofs.OwnerCalls.{owning}
use Rattle.plan.proofs.owners.row_owners.Goals as goal

pub returns-in-Err : goal.returns-in-Err
returns-in-Err c = search owning

pub returns : goal.returns
returns c = search owning
