-- `columns::check::bad_row` meets its contract. Assumes nothing.
use Rattle.std.proofs.Common.{◌≡◌, ◌≤◌}
use Rattle.ground.specs.First.{first}
use Rattle.columns.specs.Columns.{column_count, column_bad, bad_column}
use Rattle.columns.specs.Lent.{seen}
use Rattle.columns.proofs.check.bad_row.Given as goal

abbrev pub invariant-loop-column : goal.invariant-loop-column
invariant-loop-column l =
    let m = seen l.columns in
    (l.column ≤ column_count m) × (first (column_bad m) l.column (column_count m) ≡ bad_column m)
