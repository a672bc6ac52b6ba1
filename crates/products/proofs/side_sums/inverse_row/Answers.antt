-- `products::side_sums::inverse_row` meets its contract. Assumes nothing.
use Rattle.products.proofs.InverseRules.{inverting}
use Rattle.products.proofs.side_sums.inverse_row.Goals as goal

pub loop-c-preserved : goal.loop-c-preserved
loop-c-preserved c = search inverting

pub returns : goal.returns
returns c = search inverting
