use Rattle.std.proofs.Common.{◌≡◌, ◌+◌, ◌<◌, length}
use Rattle.columns.specs.Rises.{count, row_rises}
use Rattle.columns.proofs.check.count_rises.Given as goal

abbrev pub invariant-loop-p : goal.invariant-loop-p
invariant-loop-p l = (l.n < l.p) × (l.n + count (row_rises l.rows) l.p (length l.rows) ≡ count (row_rises l.rows) 1 (length l.rows))
