-- `columns::jacobian_ops::no_column` meets its contract. Assumes nothing.
use borrow.Author.Tests.{le-leb, lt-leb}
use Rattle.columns.specs.JacobianOps.{no_column}
use Rattle.columns.proofs.jacobian_ops.no_column.Goals as goal

pub returns-then-ncolumns-j : goal.returns-then-ncolumns-j
unfolding no_column
returns-then-ncolumns-j c = simp (le-leb _ _ c.if-ncolumns-j.true)

pub returns : goal.returns
unfolding no_column
returns c = simp (lt-leb _ _ c.if-ncolumns-j.false)
