-- `columns::unchecked::join` meets its contract. Assumes nothing.
use Rattle.columns.proofs.Rules.{rules}
use Rattle.columns.proofs.unchecked.join.Goals as goal

pub returns-in-Plus : goal.returns-in-Plus
returns-in-Plus c = search rules

pub returns-in-Minus : goal.returns-in-Minus
returns-in-Minus c = search rules
