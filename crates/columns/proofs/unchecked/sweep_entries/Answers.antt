-- `columns::unchecked::sweep_entries` meets its contract. Assumes nothing.
use Rattle.columns.proofs.Rules.{rules}
use Rattle.columns.proofs.unchecked.sweep_entries.Goals as goal

pub returns-then-x : goal.returns-then-x
returns-then-x c = search rules

pub returns : goal.returns
returns c = search rules
