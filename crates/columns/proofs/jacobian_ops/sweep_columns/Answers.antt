-- `columns::jacobian_ops::sweep_columns` meets its contract. Assumes nothing.
use Rattle.columns.proofs.Rules.{rules}
use Rattle.columns.proofs.jacobian_ops.sweep_columns.Goals as goal

pub loop-j-init : goal.loop-j-init
loop-j-init c = (search rules, rw c.requires.places)

pub loop-j-preserved : goal.loop-j-preserved
loop-j-preserved c = search rules

pub returns : goal.returns
returns c = search rules
