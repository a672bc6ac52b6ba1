-- `order::start_rows` meets its contract. Assumes nothing.
use Rattle.std.proofs.Common.{◌∙◌}
use Rattle.products.proofs.order.start_rows.Goals as goal

pub returns-in-Kept : goal.returns-in-Kept
returns-in-Kept c = c.clear.ensures ∙ rw c.in-Kept.is
