-- `columns::check::bad_place` meets its contract: the walk is over the column's own part of the rows. Assumes nothing.
use Rattle.std.proofs.Common.{arith}
use Rattle.columns.proofs.ReaderLaws.{place_of_lem, place_in_lem}
use Rattle.columns.proofs.check.bad_place.Goals as goal

pub overflow_add-result : goal.overflow_add-result
overflow_add-result c =
    let a = c.args in
    omega (arith, c.requires, place_in_lem a.nrows a.rows.now a.from a.to c.requires c.walk_column.result c.walk_column.ensures)

pub returns : goal.returns
returns c =
    let a = c.args in
    place_of_lem a.nrows a.rows.now a.from a.to c.requires c.walk_column.result c.walk_column.ensures
