-- `blocks::eliminated_blocks::gather_from_jacobian` meets its contract. Assumes nothing.
use Rattle.std.proofs.lemmas.Result.{err_from_is_err_and}
use Rattle.blocks.specs.BlockValues.{gather_from_jacobian}
use Rattle.blocks.proofs.ValueCalls.{values-refused, values-fit, values-done}
use Rattle.blocks.proofs.eliminated_blocks.gather_from_jacobian.Goals as goal

pub returns-in_err-check_values : goal.returns-in_err-check_values
unfolding gather_from_jacobian
returns-in_err-check_values c =
    let p = err_from_is_err_and c.from_residual.result c.from_residual.ensures.1 in
    rw (p.1, p.2)
    (values-refused _ _ _ _ _ _ c.check_values.result _ c.check_values.ensures _ _ _ c.in_err-check_values.was)

pub gather_blocks-requires : goal.gather_blocks-requires
gather_blocks-requires c = values-fit _ _ _ _ _ _ c.check_values.result _ c.check_values.ensures c.in_ok-check_values.was

pub returns : goal.returns
unfolding gather_from_jacobian
returns c =
    values-done _ _ _ _ _ _ c.check_values.result _ c.check_values.ensures _ _ _ c.in_ok-check_values.was c.gather_blocks.ensures
