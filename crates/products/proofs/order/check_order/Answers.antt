-- `order::check_order` meets its contract. Assumes nothing.
use Rattle.products.proofs.OrderRules.{ordering}
use Rattle.products.proofs.order.check_order.Goals as goal

pub returns : goal.returns
returns c = search ordering
