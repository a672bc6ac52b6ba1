-- `columns::check::row_falls` meets its contract. Assumes nothing.
use Rattle.columns.proofs.CheckRules.{checking}
use Rattle.columns.proofs.check.row_falls.Goals as goal

pub returns : goal.returns
returns c = search checking
