-- `blocks::eliminated_blocks::damp` meets its contract. Assumes nothing.
use Rattle.std.proofs.lemmas.Result.{err_from_is_err_and}
use Rattle.blocks.specs.BlockValues.{damp_values}
use Rattle.blocks.proofs.ValueCalls.{values-refused, values-fit, values-done}
use Rattle.blocks.proofs.eliminated_blocks.damp.Goals as goal

pub returns-in_err-check_values : goal.returns-in_err-check_values
unfolding damp_values
returns-in_err-check_values c =
    let p = err_from_is_err_and c.from_residual.result c.from_residual.ensures.1 in
    rw (p.1, p.2)
    (values-refused _ _ _ _ _ _ c.check_values.result _ (rw c.check.ensures at c.check_values.ensures) _ _ _ c.in_err-check_values.was)

pub damp_blocks-requires : goal.damp_blocks-requires
damp_blocks-requires c = (values-fit _ _ _ _ _ _ c.check_values.result _ c.check_values.ensures c.in_ok-check_values.was).room

pub returns : goal.returns
unfolding damp_values
returns c =
    values-done _ _ _ _ _ _ c.check_values.result _ (rw c.check.ensures at c.check_values.ensures) _ _ _ c.in_ok-check_values.was c.damp_blocks.ensures
