-- `partition::slot` meets its contract. Assumes nothing.
use Rattle.blocks.proofs.LookupRules.{lookups}
use Rattle.blocks.proofs.partition.slot.Goals as goal

pub returns-in_err-block : goal.returns-in_err-block
returns-in_err-block c = rw c.from_residual.ensures (search lookups)
