use Rattle.std.proofs.lemmas.Result.{err_from_is_err_and}
use Rattle.columns.specs.Lent.{seen}
use Rattle.columns.proofs.CallLaws.{jt_vec_refused, jt_vec_gathers, jt_vec_done}
use Rattle.columns.proofs.jacobian_ops.jt_vec.Goals as goal

pub returns-in_err-check_lent : goal.returns-in_err-check_lent
returns-in_err-check_lent c =
    let p = err_from_is_err_and c.from_residual.result c.from_residual.ensures.1 in rw (p.1, p.2)
    (jt_vec_refused (seen c.args.columns) _ _ _ (rw c.count.ensures at c.check_lent.ensures) _ c.in_err-check_lent.was)

pub gather_columns-requires : goal.gather_columns-requires
gather_columns-requires c = jt_vec_gathers (seen c.args.columns) _ _ _ (rw c.count.ensures at c.check_lent.ensures) _ c.in_ok-check_lent.was

pub returns : goal.returns
returns c = jt_vec_done (seen c.args.columns) _ _ _ (rw c.count.ensures at c.check_lent.ensures) _ _ c.in_ok-check_lent.was c.gather_columns.ensures
