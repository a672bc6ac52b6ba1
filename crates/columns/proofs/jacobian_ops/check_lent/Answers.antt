use Rattle.std.proofs.lemmas.Result.{err_from_is_err_and}
use Rattle.columns.proofs.CallLaws.{first_refused, then_told}
use Rattle.columns.proofs.jacobian_ops.check_lent.Goals as goal

pub returns-in_err-check_columns : goal.returns-in_err-check_columns
returns-in_err-check_columns c =
    let p = err_from_is_err_and c.from_residual.result c.from_residual.ensures.1 in rw (p.1, p.2) (first_refused _ _ _ _ c.check_columns.ensures c.in_err-check_columns.was)

pub returns : goal.returns
returns c = then_told _ _ _ _ _ c.check_columns.ensures c.in_ok-check_columns.was c.wrong_length.ensures
