-- `columns::check::walk_column` walks while nothing is bad: what is known at the reader's place is `WalkedTo` of proofs/ReaderLaws.antt. Assumes nothing.
use Rattle.std.proofs.Common.{◌≡◌, ◌^◌, ◌<◌, ◌≤◌, length, drop}
use Rattle.ground.specs.First.{first}
use Rattle.columns.specs.Columns.{row_bad}
use Rattle.columns.proofs.ReaderLaws.{least_at}
use Rattle.columns.proofs.check.walk_column.Given as goal

abbrev pub invariant-loop-at : goal.invariant-loop-at
invariant-loop-at l =
    let at = l.at-iterator.count in
    let bad = row_bad l.nrows l.rows 0 in
    (drop l.at-iterator.iter.at l.at-iterator.iter.rows.now ≡ drop at l.rows)
    × (l.least < 2 ^ 64)
    × (at ≤ length l.rows)
    × (l.least ≡ least_at l.rows at)
    × (first bad at (length l.rows) ≡ first bad 0 (length l.rows))
