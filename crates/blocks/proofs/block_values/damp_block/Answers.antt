-- `blocks::block_values::damp_block` meets its contract. Assumes nothing.
use Rattle.blocks.proofs.ValueRules.{values}
use Rattle.blocks.proofs.block_values.damp_block.Goals as goal

pub loop-k-preserved : goal.loop-k-preserved
loop-k-preserved c = search values

pub returns : goal.returns
returns c = search values
