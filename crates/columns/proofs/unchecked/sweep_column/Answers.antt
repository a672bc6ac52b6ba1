-- `columns::unchecked::sweep_column` meets its contract. Assumes nothing.
use Rattle.columns.proofs.Rules.{rules}
use Rattle.columns.proofs.unchecked.sweep_column.Goals as goal

pub sweep_entries-requires : goal.sweep_entries-requires
sweep_entries-requires c = search rules
