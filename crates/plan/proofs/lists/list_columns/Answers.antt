-- `lists::list_columns` meets its contract. Assumes nothing.
use borrow.Author.Rules.{rules}
use Rattle.plan.specs.ColumnLists.{numbers_listed, columns_listed}
use Rattle.blocks.specs.Sides.{block_columns}
use Rattle.plan.proofs.lists.list_columns.Goals as goal

pub returns : goal.returns
unfolding columns_listed numbers_listed block_columns
returns c = c.list_side.ensures (λ b c. c) (λ b c r p. search rules)
