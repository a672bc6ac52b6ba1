use Rattle.std.proofs.lemmas.Result.{err_from_is_err_and}
use Rattle.columns.specs.Lent.{seen}
use Rattle.columns.proofs.CallLaws.{diag_refused, diag_runs, diag_done}
use Rattle.columns.proofs.jacobian_ops.diag_jt_j.Goals as goal

pub returns-in_err-check_lent : goal.returns-in_err-check_lent
returns-in_err-check_lent c =
    let p = err_from_is_err_and c.from_residual.result c.from_residual.ensures.1 in rw (p.1, p.2)
    (diag_refused (seen c.args.columns) _ _ (rw c.count.ensures at c.check_lent.ensures) _ c.in_err-check_lent.was)

pub square_columns-requires : goal.square_columns-requires
square_columns-requires c = diag_runs (seen c.args.columns) _ _ (rw c.count.ensures at c.check_lent.ensures) _ c.in_ok-check_lent.was

pub returns : goal.returns
returns c = diag_done (seen c.args.columns) _ _ (rw c.count.ensures at c.check_lent.ensures) _ _ c.in_ok-check_lent.was c.square_columns.ensures
