-- `blocks::partition::holding_block` meets its contract. Assumes nothing.
use Rattle.blocks.proofs.LookupRules.{lookups}
use Rattle.blocks.proofs.partition.holding_block.Goals as goal

pub loop-b-init : goal.loop-b-init
loop-b-init c = (search lookups, rw c.asked_blocks-n.ensures)
