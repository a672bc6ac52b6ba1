-- `coupling::check_lengths` meets its contract. Assumes nothing.
use Rattle.products.proofs.LentRules.{lending}
use Rattle.products.proofs.coupling.check_lengths.Goals as goal

pub returns-in-Err : goal.returns-in-Err
returns-in-Err c = search lending
