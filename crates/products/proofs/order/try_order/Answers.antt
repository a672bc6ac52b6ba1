-- `order::try_order` meets its contract. Assumes nothing.
use Rattle.products.proofs.OrderRules.{ordering}
use Rattle.products.proofs.order.try_order.Goals as goal

pub returns-then-i-order : goal.returns-then-i-order
returns-then-i-order c = search ordering

pub returns-then-some_left : goal.returns-then-some_left
returns-then-some_left c = search ordering

pub returns : goal.returns
returns c = search ordering
