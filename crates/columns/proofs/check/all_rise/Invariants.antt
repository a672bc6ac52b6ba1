-- `columns::check::all_rise` meets its contract. Assumes nothing.
use Rattle.std.proofs.Common.{◌≡◌, ◌+◌, ◌≤◌, length}
use Rattle.ground.specs.First.{some}
use Rattle.columns.specs.Lent.{seen}
use Rattle.columns.specs.Columns.{column_count}
use Rattle.columns.specs.Rises.{count, row_rises, column_low, column_high}
use Rattle.columns.proofs.check.all_rise.Given as goal

abbrev pub invariant-loop-j : goal.invariant-loop-j
invariant-loop-j l =
    let m = seen l.columns in
    let high = column_high m.nrows m.ptrs m.rows in
    let low = column_low m.ptrs m.rows in
    (l.j ≤ column_count m)
    × (l.seen ≤ length m.rows + l.j)
    × (some high l.j (column_count m) ≡ some high 0 (column_count m))
    × (l.seen + count low l.j (column_count m) ≡ count (row_rises m.rows) 1 (length m.rows) + count low 0 (column_count m))
