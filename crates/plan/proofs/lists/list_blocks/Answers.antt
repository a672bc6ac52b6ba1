-- `lists::list_blocks` meets its contract. Assumes nothing.
use borrow.Author.Rules.{rules}
use Rattle.plan.specs.Plan.{column_blocks}
use Rattle.plan.specs.ColumnLists.{numbers_listed, blocks_listed}
use Rattle.plan.proofs.lists.list_blocks.Goals as goal

pub returns : goal.returns
unfolding blocks_listed numbers_listed column_blocks
returns c = c.list_side.ensures (λ b c. b) (λ b c r p. search rules)
