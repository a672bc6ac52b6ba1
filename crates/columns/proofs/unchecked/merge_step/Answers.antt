-- `columns::unchecked::merge_step` meets its contract. Assumes nothing.
use borrow.Author.Tests.{lt-ltb, le-ltb}
use Rattle.columns.specs.Unchecked.{merge_step}
use Rattle.columns.proofs.Rules.{rules}
use Rattle.columns.proofs.unchecked.merge_step.Goals as goal

pub returns-then-row_a-row_b : goal.returns-then-row_a-row_b
unfolding merge_step
returns-then-row_a-row_b c = rw (lt-ltb _ _ c.if-row_a-row_b.true)

pub returns-then-row_b-row_a : goal.returns-then-row_b-row_a
unfolding merge_step
returns-then-row_b-row_a c = rw (le-ltb _ _ c.if-row_a-row_b.false, lt-ltb _ _ c.if-row_b-row_a.true)

pub returns : goal.returns
unfolding merge_step
returns c = rw (le-ltb _ _ c.if-row_a-row_b.false, le-ltb _ _ c.if-row_b-row_a.false)
