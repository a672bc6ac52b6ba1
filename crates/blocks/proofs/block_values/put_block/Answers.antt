-- `blocks::block_values::put_block` meets its contract. Assumes nothing.
use Rattle.blocks.proofs.ValueRules.{values}
use Rattle.blocks.proofs.block_values.put_block.Goals as goal

pub loop-c-preserved : goal.loop-c-preserved
loop-c-preserved c = search values

pub returns : goal.returns
returns c = search values
