-- `columns::jacobian_ops::square_columns` meets its contract. Assumes nothing.
use Rattle.std.proofs.Common.{refl}
use Rattle.std.specs.Float.{nan}
use Rattle.columns.proofs.Rules.{rules, put, run-squared}
use Rattle.ground.proofs.RangeLaws.{turn}
use Rattle.ground.proofs.ListLaws.{written-list}
use Rattle.columns.proofs.jacobian_ops.square_columns.Goals as goal

pub loop-j-init : goal.loop-j-init
loop-j-init c = (search rules, written-list nan _ _ c.args.out.now refl)

pub loop-j-preserved : goal.loop-j-preserved
loop-j-preserved c = (
  search rules,
  turn _ c.loop-j-test.true c.loop-j.invariant.1
      (put _ _ _ _ (run-squared _ _ _ _ _ _ c.first_place.ensures c.end_place.ensures c.square_entries.ensures)),
)

pub returns : goal.returns
returns c = search rules
