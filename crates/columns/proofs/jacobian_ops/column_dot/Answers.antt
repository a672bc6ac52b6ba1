-- `jacobian_ops::column_dot` tells what the first of its checks tells that refuses. Past them both columns exist. Assumes nothing.
use Rattle.std.proofs.lemmas.Result.{err_from_is_err_and}
use Rattle.columns.specs.Lent.{seen}
use Rattle.columns.proofs.CallLaws.{first_refused, then_told, told-refused, told-done, dot_passes, dot_refused, dot_done}
use Rattle.columns.proofs.jacobian_ops.column_dot.Goals as goal

pub returns-in_err-check_columns : goal.returns-in_err-check_columns
returns-in_err-check_columns c =
    let p = err_from_is_err_and c.from_residual.result c.from_residual.ensures.1 in rw (p.1, p.2)
    (dot_refused _ _ _ _ (first_refused _ _ _ _ c.check_columns.ensures c.in_err-check_columns.was))

pub returns-in_err-no_column : goal.returns-in_err-no_column
returns-in_err-no_column c =
    let p = err_from_is_err_and c.from_residual-in_err-no_column.result c.from_residual-in_err-no_column.ensures.1 in rw (p.1, p.2)
    (dot_refused _ _ _ _ (then_told _ _ _ _ _ c.check_columns.ensures c.in_ok-check_columns.was
    (first_refused _ _ _ _ (rw c.count.ensures at c.no_column.ensures) c.in_err-no_column.was)))

pub returns-in_err-no_column-2 : goal.returns-in_err-no_column-2
returns-in_err-no_column-2 c =
    let p = err_from_is_err_and c.from_residual-in_err-no_column-2.result c.from_residual-in_err-no_column-2.ensures.1 in rw (p.1, p.2)
    (dot_refused _ _ _ _ (then_told _ _ _ _ _ c.check_columns.ensures c.in_ok-check_columns.was
    (then_told _ _ _ _ _ (rw c.count.ensures at c.no_column.ensures) c.in_ok-no_column.was
    (told-refused _ _ _ (rw c.count-2.ensures at c.no_column-2.ensures) c.in_err-no_column-2.was))))

pub dot_columns-requires : goal.dot_columns-requires
dot_columns-requires c =
    dot_passes _ _ _ (then_told _ _ _ _ _ c.check_columns.ensures c.in_ok-check_columns.was
    (then_told _ _ _ _ _ (rw c.count.ensures at c.no_column.ensures) c.in_ok-no_column.was
    (told-done _ _ _ (rw c.count-2.ensures at c.no_column-2.ensures) c.in_ok-no_column-2.was)))

pub returns : goal.returns
returns c =
    dot_done _ _ _ _ (then_told _ _ _ _ _ c.check_columns.ensures c.in_ok-check_columns.was
    (then_told _ _ _ _ _ (rw c.count.ensures at c.no_column.ensures) c.in_ok-no_column.was
    (told-done _ _ _ (rw c.count-2.ensures at c.no_column-2.ensures) c.in_ok-no_column-2.was)))
    c.dot_columns.ensures
