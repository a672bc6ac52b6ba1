-- `columns::check::begins_low` meets its contract. Assumes nothing.
use Rattle.columns.proofs.RiseLaws.{counting}
use Rattle.columns.proofs.check.begins_low.Goals as goal

pub returns-then-from-eq0 : goal.returns-then-from-eq0
returns-then-from-eq0 c = search counting

pub returns-else-from-eq0 : goal.returns-else-from-eq0
returns-else-from-eq0 c = search counting

pub returns-else-from-to : goal.returns-else-from-to
returns-else-from-to c = search counting
