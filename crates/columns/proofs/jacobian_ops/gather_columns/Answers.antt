-- `columns::jacobian_ops::gather_columns` meets its contract. Assumes nothing.
use Rattle.std.proofs.Common.{refl}
use Rattle.std.specs.Float.{nan}
use Rattle.columns.proofs.Rules.{rules}
use Rattle.ground.proofs.ListLaws.{written-list}
use Rattle.columns.proofs.jacobian_ops.gather_columns.Goals as goal

pub loop-j-init : goal.loop-j-init
loop-j-init c = (search rules, written-list nan _ _ c.args.out.now refl)

pub loop-j-preserved : goal.loop-j-preserved
loop-j-preserved c = search rules

pub returns : goal.returns
returns c = search rules
