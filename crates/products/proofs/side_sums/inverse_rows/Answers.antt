-- `products::side_sums::inverse_rows` meets its contract. Assumes nothing.
use Rattle.products.proofs.InverseRules.{inverting}
use Rattle.products.proofs.side_sums.inverse_rows.Goals as goal

pub returns : goal.returns
returns c = search inverting
