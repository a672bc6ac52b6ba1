-- `columns::check::ends_high` meets its contract. Assumes nothing.
use Rattle.columns.proofs.RiseLaws.{counting}
use Rattle.columns.proofs.check.ends_high.Goals as goal

pub returns-then-from-to : goal.returns-then-from-to
returns-then-from-to c = search counting

pub returns-else-from-to : goal.returns-else-from-to
returns-else-from-to c = search counting
